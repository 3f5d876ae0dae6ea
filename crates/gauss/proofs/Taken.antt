-- The step of one unknown: a row without its own bit is added to the others.
use Rattle.std.proofs.Common.{◌≡◌, ◌≢◌, ℕ, ◌<◌, Bool, true, false, cond, not, ◌&&◌, ◌==◌, List}
use Rattle.std.proofs.Common.{length, set, refl, sym, ap, ap₂, ◌∙◌, arith, true≢false, eq-eqb, ltb}
use Rattle.std.proofs.Common.{get_or-set_same, get_or-set_other}
use Rattle.std.proofs.Math.Bool.{xor as bool_xor}
use Rattle.std.proofs.lemmas.Bool.{lt-ltb, ne_eqb}
use Rattle.sparse_rows.specs.Closure.{Set}
use Rattle.gauss.specs.Elimination.{lead_of, IsCleared, IsCandidate, IsTaken}

-- what is hit is another row, leads nothing, and has the unknown
hit_parts : (led same has : Bool) → (not led && (not same && has)) ≡ true
    → (led ≡ false) × (same ≡ false) × (has ≡ true)
hit_parts false false true e = (refl, refl, refl)
hit_parts false false false e = absurd (true≢false (sym e))
hit_parts false true has e = absurd (true≢false (sym e))
hit_parts true same has e = absurd (true≢false (sym e))

module _ (u r i t : ℕ) (before turned after : ℕ → Set) (row : Set) (pivots leads : List ℕ)
    (is : IsCandidate u r i before leads t) (below : i < u) (count : length leads ≡ r)
    (own : (c : ℕ) → turned t c ≡ bool_xor (before t c) (c == i)) (rest : (j c : ℕ) → j ≢ t
    → turned j c ≡ before j c) (copy : (c : ℕ) → row c ≡ turned t c)
    (clears : (j c : ℕ) → after j c ≡ cond (not (ltb (lead_of u (set leads t i) j) u) && turned j i)
    (bool_xor (turned j c) (row c)) (turned j c)) where
  lead_now : lead_of u (set leads t i) t ≡ i
  lead_now = get_or-set_same leads t i u (omega (arith, count, is.inside))

  lead_other : (j : ℕ) → j ≢ t → lead_of u (set leads t i) j ≡ lead_of u leads j
  lead_other j ne = get_or-set_other leads t j i u ne

  at_pivot : (c : ℕ) → after t c ≡ turned t c
  at_pivot c = clears t c ∙ ap (λ b. cond (not b && turned t i) (bool_xor (turned t c) (row c))
      (turned t c)) (ap (λ n. ltb n u) lead_now ∙ lt-ltb i u below)

  pub cleared_is : IsCleared u t i (lead_of u leads) before after
  cleared_is = record {
    pivot = λ c. at_pivot c ∙ own c;
    hit = λ j c h. let parts = hit_parts (ltb (lead_of u leads j) u) (j == t) (before j i) h in
        let ne : j ≢ t = λ e. true≢false (sym (eq-eqb j t e) ∙ parts.1) in
        clears j c ∙ rw (lead_other j ne, rest j i ne, parts.0, parts.2)
        (ap₂ bool_xor (rest j c ne) (copy c ∙ sym (at_pivot c)));
    other = λ j c ne h. clears j c ∙ rw (lead_other j ne, rest j i ne)
        (by_case (ltb (lead_of u leads j) u) (before j i) (bool_xor (turned j c) (row c))
        (turned j c) (sym (rw (neq j ne) refl) ∙ h) ∙ rest j c ne);
  }
    where
      neq : (j : ℕ) → j ≢ t → (j == t) ≡ false
      neq j ne = ne_eqb j t ne

      by_case : (led has a b : Bool) → (not led && has) ≡ false → cond (not led && has) a b ≡ b
      by_case led has a b e = rw e refl

  pub taken_is : IsTaken u r i t before after pivots leads (set pivots i t) (set leads t i)
  taken_is = record {
    inside = is.inside;
    unled = is.unled;
    holds = is.holds;
    cleared = cleared_is;
    pivot = refl;
    lead = refl;
  }
