use Rattle.std.proofs.Common.{decimal, ◌++◌}
use Rattle.std.specs.Prelude.{codes}
use Rattle.std.proofs.KnownBytes.{Appends-trans}
use Rattle.fec_base.proofs.Cuts.{cut_behind, cut_longer, on_err}
use Rattle.tool_base.specs.Lines.{spaced}
use Rattle.tool_reach.proofs.saved_report.put_through.Goals as goal

pub returns-in_err-put_text-clause-cut : goal.returns-in_err-put_text-clause-cut
returns-in_err-put_text-clause-cut g c =
    let held = g.R.Sink.held in
    let h = held c.args.report.now in
    let n = held c.put_text.new.sink in
    let a = codes "symbol " in
    let b = decimal c.args.e in
    let t = codes " through" in
    let d = spaced c.args.positions.now in
    on_err _ _ (cut_longer h n (((a ++ b) ++ t) ++ d) (codes "\n") (cut_longer h n ((a ++ b) ++ t) d
    (cut_longer h n (a ++ b) t (cut_longer h n a b c.in_err-put_text.ensures.cut))))

pub returns-in_err-put_number-clause-cut : goal.returns-in_err-put_number-clause-cut
returns-in_err-put_number-clause-cut g c =
    let held = g.R.Sink.held in
    let h = held c.args.report.now in
    let n = held c.put_number.new.sink in
    let a = codes "symbol " in
    let b = decimal c.args.e in
    let t = codes " through" in
    let d = spaced c.args.positions.now in
    on_err _ _ (cut_longer h n (((a ++ b) ++ t) ++ d) (codes "\n") (cut_longer h n ((a ++ b) ++ t) d
    (cut_longer h n (a ++ b) t (cut_behind h (held c.put_text.new.sink) n a b
    c.in_ok-put_text.ensures.bytes c.in_err-put_number.ensures.cut))))

pub returns-in_err-put_text-2-clause-cut : goal.returns-in_err-put_text-2-clause-cut
returns-in_err-put_text-2-clause-cut g c =
    let held = g.R.Sink.held in
    let h = held c.args.report.now in
    let m = held c.put_number.new.sink in
    let n = held c.put_text-2.new.sink in
    let a = codes "symbol " in
    let b = decimal c.args.e in
    let t = codes " through" in
    let d = spaced c.args.positions.now in
    let first = Appends-trans h (held c.put_text.new.sink) m a b c.in_ok-put_text.ensures.bytes
    c.in_ok-put_number.ensures.bytes in
    on_err _ _ (cut_longer h n (((a ++ b) ++ t) ++ d) (codes "\n") (cut_longer h n ((a ++ b) ++ t) d
    (cut_behind h m n (a ++ b) t first c.in_err-put_text-2.ensures.cut)))

pub returns-in_err-put_positions-clause-cut : goal.returns-in_err-put_positions-clause-cut
returns-in_err-put_positions-clause-cut g c =
    let held = g.R.Sink.held in
    let h = held c.args.report.now in
    let m = held c.put_text-2.new.sink in
    let n = held c.put_positions.new.report in
    let a = codes "symbol " in
    let b = decimal c.args.e in
    let t = codes " through" in
    let d = spaced c.args.positions.now in
    let first = Appends-trans h (held c.put_text.new.sink) (held c.put_number.new.sink) a b
    c.in_ok-put_text.ensures.bytes c.in_ok-put_number.ensures.bytes in
    let second = Appends-trans h (held c.put_number.new.sink) m (a ++ b) t first
    c.in_ok-put_text-2.ensures.bytes in
    on_err _ _ (cut_longer h n (((a ++ b) ++ t) ++ d) (codes "\n")
    (cut_behind h m n ((a ++ b) ++ t) d second c.in_err-put_positions.ensures.cut))

pub returns-in_err-put_text-3-clause-cut : goal.returns-in_err-put_text-3-clause-cut
returns-in_err-put_text-3-clause-cut g c =
    let held = g.R.Sink.held in
    let h = held c.args.report.now in
    let m = held c.put_positions.new.report in
    let n = held c.put_text-3.new.sink in
    let a = codes "symbol " in
    let b = decimal c.args.e in
    let t = codes " through" in
    let d = spaced c.args.positions.now in
    let first = Appends-trans h (held c.put_text.new.sink) (held c.put_number.new.sink) a b
    c.in_ok-put_text.ensures.bytes c.in_ok-put_number.ensures.bytes in
    let second = Appends-trans h (held c.put_number.new.sink) (held c.put_text-2.new.sink) (a ++ b) t
    first c.in_ok-put_text-2.ensures.bytes in
    let third = Appends-trans h (held c.put_text-2.new.sink) m ((a ++ b) ++ t) d second
    c.in_ok-put_positions.ensures.written in
    on_err _ _ (cut_behind h m n (((a ++ b) ++ t) ++ d) (codes "\n") third
    c.in_err-put_text-3.ensures.cut)
