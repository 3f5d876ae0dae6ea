use Rattle.std.proofs.Common.{◌≡◌, ◌≢◌, ◌<◌, ◌+◌, ◌-◌, ◌*◌, ◌/◌, ◌&&◌, ◌⊎◌, inl, inr, ℕ, List}
use Rattle.std.proofs.Common.{get_or, ⊎_elim, bit_xor, ltb, refl, sym, ap, ap₂, ◌∙◌, arith}
use Rattle.std.proofs.Math.Nat.{mul-le-mul_right}
use Rattle.std.proofs.lemmas.Bool.{cases_eq}
use Rattle.std.proofs.lemmas.List.{get_or_default}
use Rattle.sparse_rows.proofs.Planes.{byte_laws}
use Rattle.gauss.specs.Packed.{byte_in}
use Rattle.gauss.specs.Elimination.{behind, product}
use Rattle.gauss.specs.Groups.{in_group}
use Rattle.gauss.specs.Echelon.{bits_in, pivots_in, unknowns_in}
use Rattle.gauss.proofs.Passes.{behind_in_group, within_group}
use Rattle.gauss.proofs.substitution.add_values_within.Goals as goal

pub loop-k-init : goal.loop-k-init
loop-k-init c = record {
  own = λ p t lt e le. absurd
      (omega (arith, lt, e, le, c.group_end-end.ensures.whole));
  rest = λ p t w lt. refl;
}

pub add_range-requires-clause-symbols : goal.add_range-requires-clause-symbols
add_range-requires-clause-symbols c =
    omega (
      arith,
      mul-le-mul_right c.args.len c.group_end-end.ensures.within,
      c.loop-k.auto.symbols,
      c.requires.symbols.long,
    )

pub loop-k-preserved : goal.loop-k-preserved
loop-k-preserved c =
    let u : ℕ = unknowns_in c.args.form.now in
    let n : ℕ = c.args.len in
    let g : ℕ = c.args.group in
    let end : ℕ = c.group_end-end.result in
    let p : ℕ = end - 1 - c.loop-k.k in
    let inside : p < u = omega (arith, c.loop-k-test.true, c.group_end-end.ensures.within) in
    let at_group : p / 8 ≡ g = omega (arith, c.loop-k-test.true, c.group_end-end.ensures.few) in
    let i = c.loop-k.invariant in
    let bits = bits_in c.args.form.now in
    let rows = pivots_in c.args.form.now in
    let row_is : get_or c.args.form.now.pivots.now p 0 ≡ rows p = get_or_default
    c.args.form.now.pivots.now p 0
    c.args.form.now.rows inside in
    let first : List ℕ = c.args.symbols.now in
    let old : List ℕ = c.loop-k.symbols in
    let now : List ℕ = c.add_range.new.symbols in
    let ends : (end ≡ u) ⊎ (end ≡ g * 8 + 8) = c.group_end-end.ensures.whole in
    let others : (q t : ℕ) → q ≢ p → t < n → byte_in n now t q ≡ byte_in n old t q =
    c.add_range.ensures.others in
    let at : (t : ℕ) → t < n → byte_in n now t p ≡ bit_xor (byte_in n first t p)
    (product 0 bit_xor u (in_group g (behind bits rows p)) (byte_in n now t)) = λ t lt.
    c.add_range.ensures.symbol t lt
    ∙ ap₂ bit_xor (i.rest p t (inl (omega (arith, c.loop-k-test.true))) lt)
    (ap (λ r. product 0 bit_xor end (λ d. ltb p d && bits r d) (byte_in n old t)) row_is
    ∙ within_group 0 bit_xor byte_laws u g p end (bits (rows p)) (byte_in n old t) at_group
    c.group_end-end.ensures.within (omega (arith, c.group_end-end.ensures.few)) ends
    ∙ behind_in_group 0 bit_xor byte_laws u g p (bits (rows p)) (byte_in n old t) (byte_in n now t)
    (λ d gt. sym (others d t (λ e. omega (arith, e, gt)) lt))) in
    record {
      own = λ q t lt e le lt2. ⊎_elim
          (λ (f : q ≡ p). rw f (at t lt2))
          (λ ne. others q t ne lt2 ∙ i.own q t lt e (omega (arith, ne, le, c.loop-k-test.true)) lt2
          ∙ ap (bit_xor (byte_in n first t q)) (behind_in_group 0 bit_xor byte_laws u g q
          (bits (rows q)) (byte_in n old t) (byte_in n now t)
          (λ d gt. sym (others d t (λ f. omega (arith, f, ne, gt, le, c.loop-k-test.true))
          lt2))))
          (cases_eq q p);
      rest = λ q t w lt2. others q t (⊎_elim (λ low e. omega (arith, low, e, c.loop-k-test.true))
          (λ ne e. ne (omega (arith, e, at_group))) w) lt2
          ∙ i.rest q t (⊎_elim (λ low. inl (omega (arith, low))) (λ ne. inr ne) w) lt2;
    }

pub returns-clause-own : goal.returns-clause-own
returns-clause-own c p t lt e lt2 = c.loop-k.invariant.own p t lt e
    (omega (arith, c.loop-k-test.false, e)) lt2

pub returns-clause-others : goal.returns-clause-others
returns-clause-others c p t ne lt = c.loop-k.invariant.rest p t (inr ne) lt
