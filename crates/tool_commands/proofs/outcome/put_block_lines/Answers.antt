use Rattle.std.proofs.Common.{subst, arith}
use Rattle.std.specs.Io.KnownBytes.{Appends}
use Rattle.fec_base.specs.Bytes.{AppendsFront}
use Rattle.fec_session.specs.declared.outcome.Outcome.{Outcome}
use Rattle.fec_base.proofs.Cuts.{on_err}
use Rattle.tool_commands.specs.Outcomes.{block_line}
use Rattle.tool_base.proofs.Reports.{lines_cut, lines_told}
use Rattle.tool_commands.proofs.outcome.put_block_lines.Goals as goal

pub returns-in_err-put_block_line-clause-cut : goal.returns-in_err-put_block_line-clause-cut
returns-in_err-put_block_line-clause-cut g c =
    let held = g.R.Sink.held in
    let o = c.outcome.result.now in
    on_err _ _ (lines_cut block_line (held c.args.report.now) (held c.loop-block.report)
    (held c.put_block_line.new.report) c.args.finished.now.outcomes c.loop-block.block o
    (omega arith) c.loop-block.invariant.told
    (subst (λ (x : Outcome). AppendsFront (held c.loop-block.report)
    (held c.put_block_line.new.report) (block_line c.loop-block.block x)) (c.outcome.ensures o)
    c.in_err-put_block_line.ensures.cut))

pub loop-block-preserved : goal.loop-block-preserved
loop-block-preserved g c =
    let held = g.R.Sink.held in
    let o = c.outcome.result.now in
    record {
      told = lines_told block_line (held c.args.report.now) (held c.loop-block.report)
          (held c.put_block_line.new.report) c.args.finished.now.outcomes c.loop-block.block o
          (omega arith) c.loop-block.invariant.told
          (subst (λ (x : Outcome). Appends (held c.loop-block.report)
          (held c.put_block_line.new.report) (block_line c.loop-block.block x))
          (c.outcome.ensures o) c.in_ok-put_block_line.ensures.written);
      later = omega (arith, c.loop-block.invariant.later, c.put_block_line.ensures.cause.later);
    }
