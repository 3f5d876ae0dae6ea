use Rattle.std.proofs.Common.{rules, refl, ◌∙◌, subst, arith}
use Rattle.std.specs.Io.KnownBytes.{Appends}
use Rattle.fec_base.specs.Bytes.{AppendsFront}
use Rattle.loss_runs.specs.Kept.{AreFirst}
use Rattle.loss_runs.specs.Trials.{Trial, trial_of}
use Rattle.loss_runs.proofs.Drawn.{source_has_codeword}
use Rattle.loss_runs.proofs.Padded.{head_cut, lines_cut, lines_written, none_written, sums_cut}
use Rattle.loss_runs.proofs.Padded.{text_whole}
use Rattle.loss_runs.proofs.writing.write_runs.Goals as goal

pub returns-in_err-first-clause-part : goal.returns-in_err-first-clause-part
returns-in_err-first-clause-part g c = λ is.
    let held = g.K.Sink.held c.args.output.now in
    let t = trial_of c.args.plan.now c.args.code in
    let shape = c.k.ensures.code.shape in
    let word = source_has_codeword c.one_codeword_for_each_source.ensures.some t shape in
    none_written t word.0 shape c.requires.some word.1 c.each_run_has_a_result.ensures.some
    c.args.plan.now.runs c.args.name.now c.args.draws held held held held refl

pub returns-in_err-runs-clause-part : goal.returns-in_err-runs-clause-part
returns-in_err-runs-clause-part g c = λ is.
    let held = g.K.Sink.held c.args.output.now in
    let t = trial_of c.args.plan.now c.args.code in
    let shape = c.k.ensures.code.shape in
    let word = source_has_codeword c.one_codeword_for_each_source.ensures.some t shape in
    none_written t word.0 shape c.requires.some word.1 c.each_run_has_a_result.ensures.some
    c.args.plan.now.runs c.args.name.now c.args.draws held held held held refl

pub returns-in_err-write_all-clause-cut : goal.returns-in_err-write_all-clause-cut
returns-in_err-write_all-clause-cut g c = λ is.
    let held = g.K.Sink.held c.args.output.now in
    let now = g.K.Sink.held c.write_all.new.sink in
    let t = trial_of c.args.plan.now c.args.code in
    let first_is = c.as_bytes.ensures.value ∙ c.in_ok-first.ensures in
    head_cut t c.in_ok-runs.runs.word c.k.ensures.code.shape c.requires.some
    c.in_ok-runs.ensures.encoded c.each_run_has_a_result.ensures.some c.args.plan.now.runs
    c.args.name.now c.args.draws held now now now
    (subst (AppendsFront held now) first_is c.in_err-write_all.ensures.cut)

pub returns-in_err-sums-clause-cut : goal.returns-in_err-sums-clause-cut
returns-in_err-sums-clause-cut g c = λ is.
    let held = g.K.Sink.held c.args.output.now in
    let mid = g.K.Sink.held c.write_all.new.sink in
    let now = g.K.Sink.held c.write_run_lines.new.output in
    let t = trial_of c.args.plan.now c.args.code in
    let first_is = c.as_bytes.ensures.value ∙ c.in_ok-first.ensures in
    let (results, are, few, cut) = c.in_err-sums.ensures.cut (search rules) in
    lines_cut t c.in_ok-runs.runs.word c.k.ensures.code.shape c.requires.some
    c.in_ok-runs.ensures.encoded c.each_run_has_a_result.ensures.some c.args.plan.now.runs
    c.args.name.now c.args.draws held mid now now
    results (subst (λ (u : Trial). AreFirst u c.in_ok-runs.runs.word results)
    c.in_ok-runs.ensures.trial are) few
    (subst (Appends held mid) first_is c.in_ok-write_all.ensures.bytes) cut

pub returns-in_err-sums-clause-part : goal.returns-in_err-sums-clause-part
returns-in_err-sums-clause-part g c = λ is.
    let held = g.K.Sink.held c.args.output.now in
    let mid = g.K.Sink.held c.write_all.new.sink in
    let now = g.K.Sink.held c.write_run_lines.new.output in
    let t = trial_of c.args.plan.now c.args.code in
    let first_is = c.as_bytes.ensures.value ∙ c.in_ok-first.ensures in
    let (results, are, few, lines) = c.in_err-sums.ensures.part (search rules) in
    lines_written t c.in_ok-runs.runs.word c.k.ensures.code.shape c.requires.some
    c.in_ok-runs.ensures.encoded c.each_run_has_a_result.ensures.some c.args.plan.now.runs
    c.args.name.now c.args.draws held mid now now
    results (subst (λ (u : Trial). AreFirst u c.in_ok-runs.runs.word results)
    c.in_ok-runs.ensures.trial are) few
    (subst (Appends held mid) first_is c.in_ok-write_all.ensures.bytes) lines

pub returns-in_err-last-clause-part : goal.returns-in_err-last-clause-part
returns-in_err-last-clause-part g c = λ is.
    let held = g.K.Sink.held c.args.output.now in
    let mid = g.K.Sink.held c.write_all.new.sink in
    let now = g.K.Sink.held c.write_run_lines.new.output in
    let t = trial_of c.args.plan.now c.args.code in
    let first_is = c.as_bytes.ensures.value ∙ c.in_ok-first.ensures in
    let (results, are, long, sums, lines) = c.in_ok-sums.ensures.whole in
    lines_written t c.in_ok-runs.runs.word c.k.ensures.code.shape c.requires.some
    c.in_ok-runs.ensures.encoded c.each_run_has_a_result.ensures.some c.args.plan.now.runs
    c.args.name.now c.args.draws held mid now now
    results (subst (λ (u : Trial). AreFirst u c.in_ok-runs.runs.word results)
    c.in_ok-runs.ensures.trial are) (omega (arith, long))
    (subst (Appends held mid) first_is c.in_ok-write_all.ensures.bytes) lines

pub returns-in_err-write_all-2-clause-cut : goal.returns-in_err-write_all-2-clause-cut
returns-in_err-write_all-2-clause-cut g c = λ is.
    let held = g.K.Sink.held c.args.output.now in
    let mid = g.K.Sink.held c.write_all.new.sink in
    let late = g.K.Sink.held c.write_run_lines.new.output in
    let now = g.K.Sink.held c.write_all-2.new.sink in
    let t = trial_of c.args.plan.now c.args.code in
    let first_is = c.as_bytes.ensures.value ∙ c.in_ok-first.ensures in
    let (results, are, long, sums, lines) = c.in_ok-sums.ensures.whole in
    sums_cut t c.in_ok-runs.runs.word c.k.ensures.code.shape c.requires.some
    c.in_ok-runs.ensures.encoded c.each_run_has_a_result.ensures.some c.args.plan.now.runs
    c.args.name.now c.args.draws held mid late now
    results (subst (λ (u : Trial). AreFirst u c.in_ok-runs.runs.word results)
    c.in_ok-runs.ensures.trial are) long
    (subst (Appends held mid) first_is c.in_ok-write_all.ensures.bytes) lines
    (subst (AppendsFront late now) (c.as_bytes-2.ensures.value ∙ c.in_ok-last.ensures results long
    sums) c.in_err-write_all-2.ensures.cut)

pub returns-clause-whole : goal.returns-clause-whole
returns-clause-whole g c =
    let held = g.K.Sink.held c.args.output.now in
    let mid = g.K.Sink.held c.write_all.new.sink in
    let late = g.K.Sink.held c.write_run_lines.new.output in
    let now = g.K.Sink.held c.write_all-2.new.sink in
    let t = trial_of c.args.plan.now c.args.code in
    let first_is = c.as_bytes.ensures.value ∙ c.in_ok-first.ensures in
    let (results, are, long, sums, lines) = c.in_ok-sums.ensures.whole in
    text_whole t c.in_ok-runs.runs.word c.k.ensures.code.shape c.requires.some
    c.in_ok-runs.ensures.encoded c.each_run_has_a_result.ensures.some c.args.plan.now.runs
    c.args.name.now c.args.draws held mid late now
    results (subst (λ (u : Trial). AreFirst u c.in_ok-runs.runs.word results)
    c.in_ok-runs.ensures.trial are) long
    (subst (Appends held mid) first_is c.in_ok-write_all.ensures.bytes) lines
    (subst (Appends late now) (c.as_bytes-2.ensures.value ∙ c.in_ok-last.ensures results long sums)
    c.in_ok-write_all-2.ensures.bytes)
