use Rattle.std.proofs.Common.{◌%◌, ◌<◌, ◌≤◌, ◌==◌, ℕ, ⊎_elim, refl, sym, ap, ◌∙◌, arith}
use Rattle.std.specs.Int.{bit_at}
use Rattle.std.proofs.lemmas.Bool.{lt-ltb, le-ltb, cases_lt}
use Rattle.gauss.proofs.Tabled.{bit_of_byte}
use Rattle.gauss.proofs.Words.{low_bits}
use Rattle.gauss.proofs.substitution.byte_before.Goals as goal

pub returns-then-group-p-clause-bits : goal.returns-then-group-p-clause-bits
returns-then-group-p-clause-bits c d e =
    let low : d < c.args.p = omega (arith, e, c.if-group-p.true) in
    ap (λ n. bit_at n (d % 8) == 1) c.byte_or_zero-byte.ensures.value
    ∙ sym (bit_of_byte c.args.form.now.width c.args.form.now.words.now c.args.r c.args.group d e
    (omega (arith, low, c.requires.p))) ∙ sym (rw (lt-ltb d c.args.p low) refl)

pub returns-clause-bits : goal.returns-clause-bits
returns-clause-bits c d e =
    let k : ℕ = c.args.p % 8 in
    low_bits c.byte_or_zero-byte.result k (d % 8) (omega arith)
    ∙ ⊎_elim
    (λ (low : d < c.args.p). rw (
      lt-ltb (d % 8) k
          (omega (arith, e, low, c.if-group-p.false, c.requires.group)),
      lt-ltb d c.args.p low,
    )
    (ap (λ n. bit_at n (d % 8) == 1) c.byte_or_zero-byte.ensures.value
    ∙ sym (bit_of_byte c.args.form.now.width c.args.form.now.words.now c.args.r c.args.group d e
    (omega (arith, low, c.requires.p)))))
    (λ (high : c.args.p ≤ d). rw (
      le-ltb (d % 8) k
          (omega (arith, e, high, c.if-group-p.false, c.requires.group)),
      le-ltb d c.args.p high,
    )
    refl)
    (cases_lt d c.args.p)
