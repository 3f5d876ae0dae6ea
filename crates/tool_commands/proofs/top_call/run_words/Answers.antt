use Rattle.std.proofs.Common.{◌≡◌, Some, None, rules}
use Rattle.tool_base.specs.Commands.{command_of}
use Rattle.tool_commands.proofs.Running.{runs_asked, runs_out, runs_usage}
use Rattle.tool_commands.proofs.top_call.run_words.Goals as goal

pub returns-in-Err-clause-runs : goal.returns-in-Err-clause-runs
returns-in-Err-clause-runs g c =
    runs_out _ _ _ (command_of c.args.words.now) c.refuse-status.result
    c.refuse-status.ensures.status c.refuse-status.ensures.told

pub returns-in-Ok-None-clause-runs : goal.returns-in-Ok-None-clause-runs
returns-in-Ok-None-clause-runs g c =
    let means : command_of c.args.words.now ≡ None = search rules in
    runs_asked _ _ _ _ _ (command_of c.args.words.now) None means
    (runs_usage _ _ c.tell-status.result c.tell-status.ensures.status c.tell-status.ensures.told)

pub returns-in-Ok-Some-clause-runs : goal.returns-in-Ok-Some-clause-runs
returns-in-Ok-Some-clause-runs g c =
    let asked = c.in-Ok-Some.command in
    let means : command_of c.args.words.now ≡ Some asked = search rules in
    runs_asked _ _ _ _ _ (command_of c.args.words.now) (Some asked) means c.run_command.ensures.runs

pub returns-in-Ok-Some-clause-watch : goal.returns-in-Ok-Some-clause-watch
returns-in-Ok-Some-clause-watch g c apart =
    let asked = c.in-Ok-Some.command in
    let means : command_of c.args.words.now ≡ Some asked = search rules in
    c.run_command.ensures.watch (λ draws early most is. apart draws early most (cc (means, is)))
