use Rattle.std.proofs.Common.{◌≡◌, Some, ap, refl, rules}
use Rattle.tool_base.specs.declared.command.Command.TheVariants as command
use Rattle.fec_base.specs.Outside.{stream}
use Rattle.tool_commands.proofs.Running.{runs_asked}
use Rattle.tool_commands.proofs.top_call.run_command.Goals as goal

pub returns-in-Encode-clause-runs : goal.returns-in-Encode-clause-runs
returns-in-Encode-clause-runs g c =
    let e = c.in-Encode in
    let asked = command.Encode e.shape e.symbol e.block e.max_n e.format in
    let is : Some c.args.command ≡ Some asked = search rules in
    let run = c.encode-status.ensures in
    runs_asked _ _ _ _ _ (Some c.args.command) (Some asked) is
    (record { ends = run.ends; taken = run.taken })

pub returns-in-Decode-clause-runs : goal.returns-in-Decode-clause-runs
returns-in-Decode-clause-runs g c =
    let d = c.in-Decode in
    let asked = command.Decode d.draws d.early d.packets in
    let is : Some c.args.command ≡ Some asked = search rules in
    runs_asked _ _ _ _ _ (Some c.args.command) (Some asked) is c.decode.ensures.decodes

pub returns-in-Decode-clause-watch : goal.returns-in-Decode-clause-watch
returns-in-Decode-clause-watch g c apart =
    let d = c.in-Decode in
    absurd (apart d.draws d.early d.packets (ap Some d.is))

pub returns-in-Lose-clause-runs : goal.returns-in-Lose-clause-runs
returns-in-Lose-clause-runs g c =
    let l = c.in-Lose in
    let asked = command.Lose l.loss l.seed l.packets in
    let is : Some c.args.command ≡ Some asked = search rules in
    runs_asked _ _ _ _ _ (Some c.args.command) (Some asked) is c.run_pass-status.ensures

pub returns-in-Show-clause-runs : goal.returns-in-Show-clause-runs
returns-in-Show-clause-runs g c =
    let s = c.in-Show in
    let asked = command.Show s.packets in
    let is : Some c.args.command ≡ Some asked = search rules in
    runs_asked _ _ _ _ _ (Some c.args.command) (Some asked) is c.run_pass-status-in-Show.ensures

pub returns-in-Upgrade-clause-runs : goal.returns-in-Upgrade-clause-runs
returns-in-Upgrade-clause-runs g c =
    let asked = command.Upgrade c.in-Upgrade.packets in
    let is : Some c.args.command ≡ Some asked = search rules in
    runs_asked _ _ _ _ _ (Some c.args.command) (Some asked) is c.run_pass-status-in-Upgrade.ensures

pub returns-in-Perf-clause-runs : goal.returns-in-Perf-clause-runs
returns-in-Perf-clause-runs g c =
    let p = c.in-Perf in
    let asked = command.Perf p.shape p.symbol p.k p.n p.loss p.random p.runs p.run_seed
    p.threshold in
    let is : Some c.args.command ≡ Some asked = search rules in
    let run = c.perf-status.ensures in
    runs_asked _ _ _ _ _ (Some c.args.command) (Some asked) is
    (record {
      input = refl;
      ends = run.ends;
      quiet = λ done. ap (λ r. stream (g.R.Sink.held r) (g.R.Sink.faults r)) (run.quiet done);
    })

pub returns-in-Frame-clause-runs : goal.returns-in-Frame-clause-runs
returns-in-Frame-clause-runs g c =
    let asked = command.Frame c.in-Frame.symbol in
    let is : Some c.args.command ≡ Some asked = search rules in
    runs_asked _ _ _ _ _ (Some c.args.command) (Some asked) is c.frame-status.ensures

pub returns-in-Unframe-clause-runs : goal.returns-in-Unframe-clause-runs
returns-in-Unframe-clause-runs g c =
    let asked = command.Unframe c.in-Unframe.symbol in
    let is : Some c.args.command ≡ Some asked = search rules in
    runs_asked _ _ _ _ _ (Some c.args.command) (Some asked) is c.unframe-status.ensures

pub returns-in-Salvage-clause-runs : goal.returns-in-Salvage-clause-runs
returns-in-Salvage-clause-runs g c =
    let s = c.in-Salvage in
    let asked = command.Salvage s.draws s.packets in
    let is : Some c.args.command ≡ Some asked = search rules in
    runs_asked _ _ _ _ _ (Some c.args.command) (Some asked) is c.salvage-status.ensures
