use Rattle.std.proofs.Common.{decimal, subst₂, ℕ, ◌++◌}
use Rattle.std.specs.Prelude.{codes}
use Rattle.std.specs.Io.KnownBytes.{Appends}
use Rattle.fec_base.specs.Bytes.{AppendsFront}
use Rattle.fec_base.proofs.Cuts.{cut_behind, cut_longer, on_err}
use Rattle.tool_base.specs.Refusals.{numbered}
use Rattle.tool_reach.specs.Salvaged.{count_line, open_lines}
use Rattle.tool_reach.proofs.saved_report.put_partial.Goals as goal

pub returns-in_err-put_counts-clause-cut : goal.returns-in_err-put_counts-clause-cut
returns-in_err-put_counts-clause-cut g c =
    let held = g.R.Sink.held in
    let h = held c.args.report.now in
    let n = held c.put_counts.new.report in
    let saved = c.args.partial.now in
    on_err _ _ (cut_longer h n (count_line saved) (open_lines saved)
    (subst₂ (λ (d k : ℕ). AppendsFront h n
    (codes " partial " ++ decimal d ++ numbered (codes " of ") k)) c.requires c.count.ensures
    c.in_err-put_counts.ensures.cut))

pub returns-in_err-put_open_lines-clause-cut : goal.returns-in_err-put_open_lines-clause-cut
returns-in_err-put_open_lines-clause-cut g c =
    let held = g.R.Sink.held in
    let h = held c.args.report.now in
    let m = held c.put_counts.new.report in
    let n = held c.put_open_lines.new.report in
    let saved = c.args.partial.now in
    on_err _ _ (cut_behind h m n (count_line saved) (open_lines saved)
    (subst₂ (λ (d k : ℕ). Appends h m
    (codes " partial " ++ decimal d ++ numbered (codes " of ") k)) c.requires c.count.ensures
    c.in_ok-put_counts.ensures.written) c.in_err-put_open_lines.ensures.cut)
