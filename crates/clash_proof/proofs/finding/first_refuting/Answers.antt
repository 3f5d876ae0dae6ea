use Rattle.std.proofs.Common.{◌≡◌, ◌<◌, ◌∙◌, ⊎_elim, [], length, get_or, sym, subst, arith}
use Rattle.std.proofs.Common.{true≢false}
use Rattle.std.proofs.lemmas.Bool.{cases_lt}
use Rattle.null_witness.specs.ReducedWords.{IsFirstReducedWord}
use Rattle.clash_proof.specs.Proofs.{ContradictedBy, IsClosedBy}
use Rattle.clash_proof.proofs.Found.{first_is, is_zero, none_is, not_zero}
use Rattle.clash_proof.proofs.finding.first_refuting.Goals as goal

pub returns-then-not-is_zero : goal.returns-then-not-is_zero
returns-then-not-is_zero c =
    let m = c.args.code.now in
    let ev = c.args.ev.now in
    let sets = c.args.sets.now.sets in
    let i = c.loop-i.i in
    let lt : i < length sets = omega (arith, c.loop-i-test.true, c.sets-i-end.ensures.count) in
    let rows : c.in_ok-rows-2.rows ≡ get_or sets i [] =
    c.in_ok-rows-2.ensures ∙ c.positions.ensures.value ∙ c.in_ok-rows.ensures in
    subst (IsFirstReducedWord (IsClosedBy m ev) (ContradictedBy m ev)) (sym rows)
    (first_is m ev sets c.requires.sets i lt
    (not_zero m ev sets c.requires.sets c.requires.shape c.requires.kept i lt c.sum_set.new.sum
    c.sum_set.ensures.bytes
    (λ zero. true≢false (sym (c.is_zero.ensures.1 zero) ∙ c.if-not-is_zero.true)))
    c.loop-i.invariant.none)

pub loop-i-preserved : goal.loop-i-preserved
loop-i-preserved c =
    let m = c.args.code.now in
    let ev = c.args.ev.now in
    let sets = c.args.sets.now.sets in
    let i = c.loop-i.i in
    let lt : i < length sets = omega (arith, c.loop-i-test.true, c.sets-i-end.ensures.count) in
    record {
      long = c.sum_set.ensures.long;
      none = λ j below. ⊎_elim (c.loop-i.invariant.none j)
          (λ le. let e : i ≡ j = omega (arith, le, below) in
          subst (λ k. ¬ ContradictedBy m ev (get_or sets k [])) e
          (is_zero m ev sets c.requires.sets c.requires.shape c.requires.kept i lt
          c.sum_set.new.sum c.sum_set.ensures.bytes
          (c.is_zero.ensures.0 c.if-not-is_zero.false)))
          (cases_lt j i);
    }

pub returns : goal.returns
returns c = none_is c.args.code.now c.args.ev.now c.args.sets.now.sets c.requires.sets
    (λ j lt. c.loop-i.invariant.none j
    (omega (arith, lt, c.loop-i-test.false, c.sets-i-end.ensures.count)))
