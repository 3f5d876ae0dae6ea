use Rattle.std.proofs.Common.{◌++◌, ◌+◌, List, ℕ, get_or, take, drop, decimal, subst, sym, arith}
use Rattle.std.specs.Prelude.{codes}
use Rattle.std.specs.List.{flat_map}
use Rattle.std.proofs.lemmas.List.{get_or_default}
use Rattle.std.specs.Io.KnownBytes.{Appends}
use Rattle.std.proofs.KnownBytes.{Appends-trans}
use Rattle.fec_base.specs.Bytes.{AppendsFront}
use Rattle.fec_base.proofs.Cuts.{cut_behind, cut_longer, on_err}
use Rattle.tool_base.specs.Lines.{spaced}
use Rattle.tool_base.proofs.Blocks.{all_blocks, one_more}
use Rattle.tool_base.proofs.report.put_positions.Goals as goal

-- a position behind a space
abbrev place : ℕ → List ℕ
place p = codes " " ++ decimal p

pub loop-position-preserved : goal.loop-position-preserved
loop-position-preserved g c =
    let held = g.R.Sink.held in
    let xs = c.args.positions.now in
    let i = c.loop-position.position-index in
    let p = get_or xs i 0 in
    record {
      told = subst (Appends (held c.args.report.now) (held c.put_position.new.report))
          (sym (one_more place xs i p (omega arith) (get_or_default xs i 0 (get_or xs i 0)
          (omega arith))))
          (Appends-trans (held c.args.report.now) (held c.loop-position.report)
          (held c.put_position.new.report) (spaced (take i xs)) (place p)
          c.loop-position.invariant.told c.in_ok-put_position.ensures.written);
      later = omega (arith, c.loop-position.invariant.later, c.put_position.ensures.cause.later);
    }

pub returns-in_err-put_position-clause-cut : goal.returns-in_err-put_position-clause-cut
returns-in_err-put_position-clause-cut g c =
    let held = g.R.Sink.held in
    let xs = c.args.positions.now in
    let i = c.loop-position.position-index in
    let p = get_or xs i 0 in
    let rest : List ℕ = flat_map place (drop (i + 1) xs) in
    on_err _ _ (subst (AppendsFront (held c.args.report.now) (held c.put_position.new.report))
    (sym (all_blocks place xs i p (omega arith) (get_or_default xs i 0 (get_or xs i 0)
    (omega arith))))
    (cut_behind (held c.args.report.now) (held c.loop-position.report)
    (held c.put_position.new.report) (spaced (take i xs)) (place p ++ rest)
    c.loop-position.invariant.told
    (cut_longer (held c.loop-position.report) (held c.put_position.new.report) (place p) rest
    c.in_err-put_position.ensures.cut)))
