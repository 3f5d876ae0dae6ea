use Rattle.std.proofs.Common.{◌∙◌, arith, refl}
use Rattle.clash_proof.proofs.Summed.{contradicted, not_contradicted}
use Rattle.clash_proof.proofs.checking.contradict.Goals as goal

pub returns-then-sum_byte-ne0 : goal.returns-then-sum_byte-ne0
returns-then-sum_byte-ne0 c = (
  λ t. contradicted c.args.code.now c.requires.shape c.args.ev.now
      c.symbol_len-t-end.ensures.kept c.args.rows.now c.requires.rising c.requires.below c.loop-t.t
      (λ zero. omega (arith, c.if-sum_byte-ne0.true, c.sum_byte.ensures ∙ zero)),
  λ h. refl,
)

pub returns : goal.returns
returns c = (
  λ t. absurd (cc t),
  λ h. absurd (not_contradicted c.args.code.now c.requires.shape c.args.ev.now
      c.symbol_len-t-end.ensures.kept c.args.rows.now c.requires.rising c.requires.below
      (λ t lt. c.loop-t.invariant t
      (omega (arith, lt, c.loop-t-test.false, c.symbol_len-t-end.ensures.value))) h),
)
