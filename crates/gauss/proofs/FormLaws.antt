-- What the reduced null sets of a system show of its unknowns.
use Rattle.std.proofs.Common.{◌≡◌, ◌≢◌, ◌↔◌, ℕ, ◌<◌, ◌≤◌, ⊎_elim, true, false, List, [], length}
use Rattle.std.proofs.Common.{get_or, map, All, sym, ap, ap₂, ◌∙◌, subst, true≢false, le_refl}
use Rattle.std.proofs.Common.{arith}
use Rattle.std.proofs.Math.Bool.{xor as bool_xor}
use Rattle.std.proofs.lemmas.Bool.{cases_lt, cases_eq}
use Rattle.std.proofs.lemmas.List.{get_or-map, get_or_default, length-map}
use Rattle.std.proofs.lemmas.List.Kept.{AllPairs-from_increasing}
use Rattle.sparse_rows.specs.Closure.{Set, members}
use Rattle.sparse_rows.specs.Codeword.{symbol_at}
use Rattle.sparse_rows.specs.Matrix.{is_in}
use Rattle.sparse_rows.specs.NullWord.{last_of}
use Rattle.sparse_rows.proofs.Algebra.{total_add}
use Rattle.sparse_rows.specs.Totals.{total}
use Rattle.sparse_rows.proofs.Null.{members_in, null_of}
use Rattle.sparse_rows.proofs.Parity.{bit_laws}
use Rattle.sparse_rows.proofs.Planes.{byte_sum}
use Rattle.sparse_rows.proofs.Sets.{any_at, any_from}
use Rattle.fec_base.proofs.SymbolBytes.{byte}
use Rattle.null_witness.specs.ReducedWords.{IsFirstReducedWord, IsReducedWord}
use Rattle.null_witness.proofs.Bits.{bit, bit_of_total, differ_symbol}
use Rattle.null_witness.proofs.NullWords.{null_decided, null_linear}
use Rattle.null_witness.proofs.ReducedWords.{some_reduced, sum_either}
use Rattle.gauss.specs.Equations.{IsSolution, System, matrix_of}
use Rattle.gauss.specs.Filling.{no_equation}
use Rattle.gauss.specs.Reduction.{IsFirstWith, IsNullSet, IsReducedForm, ReducedForm, is_open}
use Rattle.gauss.specs.Reduction.{set_at}
use Rattle.gauss.proofs.Unique.{other, other_differs, other_solves, row_at}

module _ (s : System) (r : ReducedForm) (h : IsReducedForm s r) where
  rows_below : (j : ℕ) → j < length (matrix_of s).rows
      → All (λ d. d < s.unknowns) (get_or (matrix_of s).rows j [])
  rows_below j lt = let low : j < length s.equations = rw length-map at lt in
      subst (All (λ d. d < s.unknowns)) (sym (row_at s j low))
      (h.system j (no_equation 0) low).below

  one : (i : ℕ) → i < length r.sets → IsReducedWord (IsNullSet s) (set_at r i)
  one i lt = h.reduced i [] lt

  index_of : (set : List ℕ) → IsReducedWord (IsNullSet s) set → (i : ℕ) × (i < length r.sets)
      × (set_at r i ≡ set)
  index_of set red = let w = h.every set red in (w.0, w.1, sym (default_same w.0 w.1 set) ∙ w.2)
    where
      default_same : (i : ℕ) → i < length r.sets → (d : List ℕ) → get_or r.sets i d ≡ set_at r i
      default_same i lt d = get_or_default r.sets i d [] lt

  open_at : (c : ℕ) → is_open r c ≡ true → (i : ℕ) × (i < length r.sets)
      × (is_in (set_at r i) c ≡ true)
  open_at c e = any_at (λ set. is_in set c) [] r.sets e

  open_from : (c i : ℕ) → i < length r.sets → is_in (set_at r i) c ≡ true → is_open r c ≡ true
  open_from c i lt e = any_from (λ set. is_in set c) [] r.sets i lt e

  -- a null set that holds an unknown gives a reduced one that does
  null_opens : (c : ℕ) (set : List ℕ) → IsNullSet s set → is_in set c ≡ true → is_open r c ≡ true
  null_opens c set null holds =
      let d = some_reduced (IsNullSet s) (null_linear (matrix_of s) (λ e. false))
      (null_decided (matrix_of s) (λ e. false)) (λ w. is_in w c)
      (λ a b w ha hb sum. sum_either a b w sum c) set null holds in
      let i = index_of d.0 d.1 in
      open_from c i.0 i.1 (ap (λ w. is_in w c) i.2 ∙ d.2)

  pub open_is : (c : ℕ) → (is_open r c ≡ true) ↔ ((set : List ℕ) × IsNullSet s set
      × (is_in set c ≡ true))
  open_is c = (
    λ e. let w = open_at c e in (set_at r w.0, (one w.0 w.1).one, w.2),
    λ n. null_opens c n.0 n.1 n.2,
  )

  -- ---- the first set with an unknown

  last_most : (i j : ℕ) → i ≤ j → j < length r.sets → last_of (set_at r i) ≤ last_of (set_at r j)
  last_most i j le lt = ⊎_elim
      (λ (e : i ≡ j). rw e (le_refl (last_of (set_at r j))))
      (λ ne. let lt2 : i < j = omega (arith, ne) in
      let rises = AllPairs-from_increasing (map last_of r.sets) h.rising i j 0 lt2
      (rw length-map lt) in
      let a : get_or (map last_of r.sets) i 0 ≡ last_of (set_at r i) = get_or-map last_of r.sets i
      [] 0 (omega arith) in
      let b : get_or (map last_of r.sets) j 0 ≡ last_of (set_at r j) = get_or-map last_of r.sets j
      [] 0 lt in
      omega (arith, rises, a, b))
      (cases_eq i j)

  pub first_is_least : (c i : ℕ) → IsFirstWith r c i
      → IsFirstReducedWord (IsNullSet s) (λ set. is_in set c ≡ true) (set_at r i)
  first_is_least c i first = record {
    reduced = one i first.inside;
    of_kind = first.holds;
    least = λ set red holds.
        let j = index_of set red in
        let holds_j : is_in (set_at r j.0) c ≡ true = ap (λ w. is_in w c) j.2 ∙ holds in
        let le : i ≤ j.0 = ⊎_elim (λ lt. absurd (true≢false (sym holds_j ∙ first.others j.0 lt)))
        (λ le2. le2) (cases_lt j.0 i) in
        subst (λ w. last_of (set_at r i) ≤ last_of w) j.2 (last_most i j.0 le j.1);
  }

  -- ---- solutions that differ

  module _ (x y : ℕ → List ℕ) (hx : IsSolution s x) (hy : IsSolution s y) (c : ℕ)
      (lt : c < s.unknowns) where
    module _ (j i : ℕ) (differ : bool_xor (bit i (byte j (x c))) (bit i (byte j (y c))) ≡ true)
      where
        w : Set
        w d = bool_xor (bit i (byte j (x d))) (bit i (byte j (y d)))

        plane : (z : ℕ → List ℕ) → IsSolution s z → (t : ℕ) → t < length s.equations
            → total false bool_xor (λ d. bit i (byte j (z d)))
            (get_or s.equations t (no_equation 0)).unknowns
            ≡ bit i (byte j (get_or s.equations t (no_equation 0)).sum)
        plane z hz t low = bit_of_total i (λ d. byte j (z d))
            (get_or s.equations t (no_equation 0)).unknowns
            ∙ ap (bit i) (sym (byte_sum s.len z (λ d. (hz.symbols d).long) j
            (get_or s.equations t (no_equation 0)).unknowns)
            ∙ ap (byte j) (hz.sums t (no_equation 0) low))

        even : (t : ℕ) → t < length (matrix_of s).rows
            → total false bool_xor w (get_or (matrix_of s).rows t []) ≡ false
        unfolding w
        even t lt2 = let low : t < length s.equations = rw length-map at lt2 in
            ap (total false bool_xor w) (row_at s t low)
            ∙ total_add false bool_xor bit_laws (λ d. bit i (byte j (x d)))
            (λ d. bit i (byte j (y d))) (get_or s.equations t (no_equation 0)).unknowns
            ∙ ap₂ bool_xor (plane x hx t low) (plane y hy t low) ∙ bit_laws.self _

        differ_opens : is_open r c ≡ true
        unfolding w bool_xor
        differ_opens = null_opens c (members s.unknowns w)
            (null_of (matrix_of s) rows_below (λ d. false) w c lt differ
            (λ d e. absurd (true≢false (sym e))) even)
            (members_in s.unknowns w c lt differ)

    agree : is_open r c ≡ false → x c ≡ y c
    agree e = ⊎_elim (λ d. absurd (true≢false (sym (differ_opens d.0 d.2.0 d.2.2) ∙ e))) (λ z. z)
        (differ_symbol s.len (x c) (y c) (hx.symbols c) (hy.symbols c))

  pub closed_is_fixed : (x : ℕ → List ℕ) (c : ℕ) → IsSolution s x → c < s.unknowns
      → is_open r c ≡ false → x c ≡ symbol_at s.len r.symbols c
  closed_is_fixed x c hx lt e = agree x (symbol_at s.len r.symbols) hx h.solves c lt e

  pub open_has_two : (c : ℕ) → is_open r c ≡ true → (x : ℕ → List ℕ) × (y : ℕ → List ℕ)
      × IsSolution s x × IsSolution s y × (x c ≢ y c)
  open_has_two c e =
      let w = open_at c e in
      let null = (one w.0 w.1).one in
      let x = symbol_at s.len r.symbols in (
        x,
        other s x h.solves (set_at r w.0) null,
        h.solves,
        other_solves s x h.solves (set_at r w.0) null,
        other_differs s x h.solves (set_at r w.0)
            null h.some c w.2,
      )
