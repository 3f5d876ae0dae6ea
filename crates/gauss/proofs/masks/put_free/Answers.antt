use Rattle.std.proofs.Common.{◌≡◌, ◌<◌, ◌+◌, ◌*◌, ◌/◌, ◌%◌, ◌==◌, ◌||◌, ℕ, List, get_or, ⊎_elim}
use Rattle.std.proofs.Common.{refl, sym, ap, ap₂, ◌∙◌, arith, eq-eqb}
use Rattle.std.specs.Int.{bit_at}
use Rattle.std.proofs.lemmas.Bool.{cases_eq, ne_eqb}
use Rattle.std.proofs.lemmas.Nat.Bits.{bit_at-zero}
use Rattle.sparse_rows.proofs.Sets.{or_none}
use Rattle.gauss.proofs.Words.{row_room}
use Rattle.gauss.proofs.masks.put_free.Goals as goal

pub loop-i-init : goal.loop-i-init
loop-i-init c = record {
  done = λ j d lt. absurd (omega (arith, lt));
  rest = λ j d le inside low. ap (λ n. bit_at n (j % 8) == 1)
      (c.requires.zero (d * c.args.stride + j / 8)) ∙ ap (λ n. n == 1) (bit_at-zero (j % 8));
}

pub put_bit-requires-clause-bit : goal.put_bit-requires-clause-bit
put_bit-requires-clause-bit c = omega (arith, c.requires.stride, c.loop-i-test.true)

pub put_bit-requires-clause-unknown : goal.put_bit-requires-clause-unknown
put_bit-requires-clause-unknown c =
    omega (
      arith,
      row_room c.args.unknowns c.args.stride (get_or c.args.free.now c.loop-i.i 0)
          (c.requires.below c.loop-i.i 0 c.loop-i-test.true),
      c.loop-i.auto.masks,
      c.requires.masks,
    )

pub loop-i-preserved : goal.loop-i-preserved
loop-i-preserved c =
    let i : ℕ = c.loop-i.i in
    let n : ℕ = c.args.stride in
    let at : ℕ = get_or c.args.free.now i 0 in
    let old : List ℕ = c.loop-i.masks in
    let now : List ℕ = c.put_bit.new.masks in
    let inv = c.loop-i.invariant in
    let inside : (j : ℕ) → j < i + 1
    → j / 8 < n = λ j lt. omega (arith, lt, c.requires.stride, c.loop-i-test.true) in
    record {
      done = λ j d lt low. ⊎_elim
          (λ (e : d ≡ at). rw e (c.put_bit.ensures.own j (inside j lt) ∙ ⊎_elim
          (λ (f : j ≡ i). rw f (ap₂ (λ a b. a || b)
          (inv.rest i at (omega arith) (inside i (omega arith)) (rw e at low)) (eq-eqb i i refl)
          ∙ sym (eq-eqb at at refl)))
          (λ ne. ap₂ (λ a b. a || b) (inv.done j at (omega (arith, ne, lt)) (rw e at low))
          (ne_eqb j i ne) ∙ or_none _)
          (cases_eq j i)))
          (λ ne. c.put_bit.ensures.others j d (inside j lt) ne ∙ ⊎_elim
          (λ (f : j ≡ i). rw f (inv.rest i d (omega arith) (inside i (omega arith)) low
          ∙ sym (ne_eqb d at ne)))
          (λ ne2. inv.done j d (omega (arith, ne2, lt)) low)
          (cases_eq j i))
          (cases_eq d at);
      rest = λ j d le within low. ⊎_elim
          (λ (e : d ≡ at). rw e (c.put_bit.ensures.own j within
          ∙ ap₂ (λ a b. a || b) (inv.rest j at (omega (arith, le)) within (rw e at low))
          (ne_eqb j i (λ f. omega (arith, f, le)))))
          (λ ne. c.put_bit.ensures.others j d within ne ∙ inv.rest j d (omega (arith, le)) within
          low)
          (cases_eq d at);
    }

pub returns : goal.returns
returns c i d lt low = c.loop-i.invariant.done i d (omega (arith, c.loop-i-test.false, lt)) low
