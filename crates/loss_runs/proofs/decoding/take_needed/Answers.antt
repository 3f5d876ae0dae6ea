use Rattle.std.proofs.Common.{◌≡◌, ℕ, ◌<◌, ◌≤◌, ⊎_elim, length, take, slice_index, true≢false, refl}
use Rattle.std.proofs.Common.{sym, ◌∙◌, subst, arith, eq-or-lt_of_le}
use Rattle.sparse_rows.specs.Determined.{HoldsSource}
use Rattle.loss_runs.specs.Trials.{arrivals_of}
use Rattle.loss_runs.proofs.Arriving.{known_from_holds, length_arrivals, stands_more}
use Rattle.loss_runs.proofs.decoding.take_needed.Goals as goal

pub loop-i-preserved : goal.loop-i-preserved
loop-i-preserved c =
    let m = c.args.core.now.matrix in
    let len = c.args.core.now.len in
    let word = c.args.word.now in
    let kept = c.args.positions.now in
    let i = c.loop-i.i in
    let so_far = c.loop-i.invariant in
    let lt : i < length kept = c.loop-i-test.true in
    let p : ℕ = slice_index kept i in
    let received = c.arrive.ensures.received in
    record {
      matrix = received.code ∙ so_far.matrix;
      len = received.len ∙ so_far.len;
      stands = stands_more m len word c.requires.codeword c.loop-i.core c.arrive.new.self kept i p
          c.symbol.result.now
          so_far.stands received lt refl (c.requires.below i 0 lt) c.symbol.ensures;
      not_before = λ q below. ⊎_elim
          (λ (same : q ≡ i). subst (λ (j : ℕ). ¬ HoldsSource m (take j (arrivals_of len word kept)))
          (sym same)
          (λ holds. true≢false (sym (c.has_all_source.ensures.1
          (known_from_holds c.loop-i.core m (take i (arrivals_of len word kept)) so_far.stands
          so_far.matrix holds)) ∙ c.if-has_all_source.false)))
          (λ (less : q < i). so_far.not_before q less)
          (eq-or-lt_of_le (let le : q ≤ i = omega (arith, below) in le));
    }

pub returns-clause-never : goal.returns-clause-never
returns-clause-never c = λ q within.
    let m = c.args.core.now.matrix in
    let len = c.args.core.now.len in
    let word = c.args.word.now in
    let kept = c.args.positions.now in
    let i = c.loop-i.i in
    let so_far = c.loop-i.invariant in
    ⊎_elim
    (λ (same : q ≡ i). subst (λ (j : ℕ). ¬ HoldsSource m (take j (arrivals_of len word kept)))
    (sym same)
    (λ holds. true≢false (sym (c.has_all_source-2.ensures.1
    (known_from_holds c.loop-i.core m (take i (arrivals_of len word kept)) so_far.stands
    so_far.matrix holds)) ∙ c.if-has_all_source-2.false)))
    (λ (less : q < i). so_far.not_before q less)
    (eq-or-lt_of_le (let le : q ≤ i = omega (
      arith,
      within,
      length_arrivals len word kept,
      c.loop-i-test.false,
    ) in le))
