use Rattle.std.proofs.Common.{rules, ◌∷◌, ◌++◌, [], ap, ◌∙◌, arith}
use Rattle.loss_runs.specs.Running.{Running}
use Rattle.loss_runs.proofs.Padded.{are_more, line_cut, lines_appended, long_more}
use Rattle.loss_runs.proofs.writing.write_run_lines.Goals as goal

pub returns-in_err-made-clause-cut : goal.returns-in_err-made-clause-cut
returns-in_err-made-clause-cut g c = λ is.
    let held = g.K.Sink.held in
    let t = c.args.runs.now.trial in
    let word = c.args.runs.now.word in
    let its = c.loop.runs in
    let so_far = c.loop.invariant in
    let (results, are, long, sums, lines) = so_far.made in
    let (made, ran, cut) = c.in_err-made.ensures.cut (search rules) in (
      results ++ made ∷ [],
      are_more t its.trial word its.word results (held c.args.output.now) (held c.loop.output)
          (held c.write_run.new.output) c.loop.counter its.done made so_far.trial so_far.word
          so_far.done are long lines ran,
      omega (
        arith,
        long_more t its.trial word its.word results (held c.args.output.now)
            (held c.loop.output) (held c.write_run.new.output) c.loop.counter its.done made
            so_far.trial so_far.word so_far.done are long lines ran,
        c.loop-test.true,
      ),
      line_cut t its.trial word its.word results (held c.args.output.now) (held c.loop.output)
          (held c.write_run.new.output) c.loop.counter its.done made so_far.trial so_far.word
          so_far.done are long lines ran cut,
    )

pub loop-preserved : goal.loop-preserved
loop-preserved g c =
    let held = g.K.Sink.held in
    let t = c.args.runs.now.trial in
    let word = c.args.runs.now.word in
    let its = c.loop.runs in
    let so_far = c.loop.invariant in
    let (results, are, long, sums, lines) = so_far.made in
    let made = c.in_ok-made.made in
    let ran = c.in_ok-made.ensures.made in
    let next = c.in_ok-made.ensures.next in
    record {
      trial = ap (λ (r : Running). r.trial) next ∙ so_far.trial;
      word = ap (λ (r : Running). r.word) next ∙ so_far.word;
      done = ap (λ (r : Running). r.done) next ∙ omega (arith, so_far.done);
      made = (
        results ++ made ∷ [],
        are_more t its.trial word its.word results (held c.args.output.now) (held c.loop.output)
            (held c.write_run.new.output) c.loop.counter its.done made so_far.trial so_far.word
            so_far.done are long lines ran,
        long_more t its.trial word its.word results (held c.args.output.now) (held c.loop.output)
            (held c.write_run.new.output) c.loop.counter its.done made so_far.trial so_far.word
            so_far.done are long lines ran,
        c.and-sums.ensures results sums,
        lines_appended t its.trial word its.word results (held c.args.output.now)
            (held c.loop.output) (held c.write_run.new.output) c.loop.counter its.done made
            so_far.trial so_far.word so_far.done are long lines ran c.in_ok-made.ensures.written,
      );
      later = omega (arith, so_far.later, c.write_run.ensures.later);
    }
