use Rattle.std.proofs.Common.{rules, ℕ, ◌≡◌, ◌++◌, ◌∷◌, [], Result, Ok, Err, IfErr, ap, sym, ◌∙◌}
use Rattle.std.proofs.Common.{subst, arith, length, length-append}
use Rattle.fec_base.specs.Outside.{stream}
use Rattle.datagram_pass.specs.Written.{WritesEarly}
use Rattle.datagram_pass.specs.Progress.{EndsAtOne, EndsEarly, PassesOne}
use Rattle.datagram_pass.specs.declared.kind.DatagramRefusal.{DatagramRefusal}
use Rattle.datagram_pass.proofs.Ending.{ends_behind, stands_more}
use Rattle.datagram_pass.proofs.passing.pass_all.Goals as goal

pub loop-index-preserved : goal.loop-index-preserved
loop-index-preserved g c =
    let left = g.S.Source.left in
    let held = g.K.Sink.held in
    let symbol : ℕ = length c.args.symbol.now in
    let index = c.loop-index.index in
    let so_far = c.loop-index.invariant in
    let there = ap Ok c.if-not-branch.false in
    let next = c.in_ok-pass_one.ensures.passes there in
    let one = subst (λ (n : ℕ). PassesOne c.args.way n index (left c.loop-index.input)
    (left c.pass_one.new.input) (held c.loop-index.output) (held c.pass_one.new.output)
    next.0) so_far.long next.1 in
    record {
      long = c.pass_one.ensures.length ∙ so_far.long;
      alike = c.pass_one.ensures.alike ∙ so_far.alike ∙ sym c.pass_one.ensures.length;
      came = (
        so_far.came.0 ++ next.0 ∷ [],
        stands_more c.args.way symbol (left c.args.input.now) (left c.loop-index.input)
            (left c.pass_one.new.input) (held c.args.output.now) (held c.loop-index.output)
            (held c.pass_one.new.output)
            so_far.came.0 so_far.came.1 index next.0 so_far.came.2 one,
        omega (arith, length-append so_far.came.0 (next.0 ∷ []), so_far.came.2),
      );
      later = omega (arith, so_far.later, c.pass_one.ensures.later);
      sink_later = omega (arith, so_far.sink_later, c.pass_one.ensures.sink_later);
    }

pub returns-in_err-pass_one-clause-ends : goal.returns-in_err-pass_one-clause-ends
returns-in_err-pass_one-clause-ends g c =
    let left = g.S.Source.left in
    let faults = g.S.Source.faults in
    let held = g.K.Sink.held in
    let sink = g.K.Sink.faults in
    let way = c.args.way in
    let symbol : ℕ = length c.args.symbol.now in
    let before = c.args.input.now in
    let mid = c.loop-index.input in
    let now = c.pass_one.new.input in
    let out = c.args.output.now in
    let out_mid = c.loop-index.output in
    let out_now = c.pass_one.new.output in
    let so_far = c.loop-index.invariant in
    let refusal = c.in_err-pass_one.field-0.0 in
    let same : c.from_residual.result ≡ Err refusal = search rules in
    let at_symbol = subst (λ (n : ℕ). EndsAtOne way n c.loop-index.index (left mid) (left now)
    (held out_mid) (held out_now) (faults mid) (faults now) (sink out_mid) (sink out_now)
    refusal) so_far.long c.in_err-pass_one.ensures.ends in
    let here = subst (λ (n : ℕ). EndsAtOne way symbol n (left mid) (left now)
    (held out_mid) (held out_now) (faults mid) (faults now) (sink out_mid) (sink out_now)
    refusal) (sym so_far.came.2) at_symbol in
    let ends = ends_behind way symbol (stream (left before) (faults before))
    (stream (left mid) (faults mid)) (stream (left now) (faults now)) (stream (held out) (sink out))
    (stream (held out_mid) (sink out_mid)) (stream (held out_now) (sink out_now)) so_far.came.0
    so_far.came.1 so_far.later so_far.sink_later refusal here in
    subst (λ (r : Result ℕ DatagramRefusal). IfErr r (λ (x : DatagramRefusal). EndsEarly x
    (WritesEarly way symbol (stream (left before) (faults before)) (stream (left now) (faults now))
    (stream (held out) (sink out)) (stream (held out_now) (sink out_now)) x))) (sym same) ends
