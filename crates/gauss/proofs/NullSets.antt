-- The null sets that back substitution gives to the free unknowns are the reduced ones.
use Rattle.std.proofs.Common.{◌≡◌, ◌≢◌, ℕ, zero, suc, ◌+◌, ◌<◌, ◌≤◌, ◌&&◌, ◌==◌, ⊎_elim, inl, inr}
use Rattle.std.proofs.Common.{true, false, List, [], length, All, refl, sym, ap, ◌∙◌, subst, arith}
use Rattle.std.proofs.Common.{true≢false, ltb, eq-eqb, eqb-true, le_antisymm}
use Rattle.std.specs.List.{range_with_len}
use Rattle.std.specs.List.Sorted.{IsStrictlyIncreasing}
use Rattle.std.proofs.Math.Bool.{xor as bool_xor}
use Rattle.std.proofs.lemmas.Bool.{cases_lt, le-ltb, ne_eqb}
use Rattle.std.proofs.lemmas.List.{length-map}
use Rattle.sparse_rows.specs.Closure.{Set, members}
use Rattle.sparse_rows.specs.Matrix.{is_in}
use Rattle.sparse_rows.specs.NullWord.{last_of}
use Rattle.sparse_rows.specs.Totals.{total}
use Rattle.sparse_rows.proofs.Null.{in_all, members_below, members_in, members_rise, null_of}
use Rattle.sparse_rows.proofs.Null.{passes}
use Rattle.sparse_rows.proofs.Parity.{bit_laws}
use Rattle.null_witness.specs.ReducedWords.{IsLate, IsReducedWord}
use Rattle.null_witness.proofs.Increasing.{last_in, last_most}
use Rattle.null_witness.proofs.NullWords.{null_linear}
use Rattle.null_witness.proofs.ReducedWords.{none_past, reduced_is_one}
use Rattle.gauss.specs.Equations.{System, IsSystem, matrix_of}
use Rattle.gauss.specs.Filling.{no_equation}
use Rattle.gauss.specs.Elimination.{product, Solves, IsStage, behind}
use Rattle.gauss.specs.Reduction.{IsNullSet}
use Rattle.gauss.proofs.Rows.{mask_of}
use Rattle.gauss.proofs.Answered.{row_product, to_even}
use Rattle.gauss.proofs.Back.{below, below_free, below_valued, solution_values, value, values_solve}
use Rattle.gauss.proofs.Clearing.{and_no, xor_none}
use Rattle.gauss.proofs.Products.{product_none, product_zero}
use Rattle.gauss.proofs.Stages.{solves_same}
use Rattle.gauss.proofs.Unique.{row_at}

module _ (s : System) (ok : IsSystem s) (first now : ℕ → Set) (pivot_row lead : ℕ
    → ℕ) (st : IsStage s.unknowns (length s.equations) s.unknowns first now pivot_row lead)
    (as_first : (j c : ℕ) → j < length s.equations → c < s.unknowns
    → mask_of s.equations j c ≡ first j c) where
  -- what a null set has at an unknown with a pivot row comes from the row
  null_valued : (set : List ℕ) → IsNullSet s set → (p : ℕ) → p < s.unknowns
      → pivot_row p < length s.equations → is_in set p ≡ value false bool_xor s.unknowns now
      pivot_row (λ j. false) p (is_in set)
  null_valued set null p lt pivot = solution_values false bool_xor bit_laws s.unknowns now pivot_row
      (λ j. false) (length s.equations) first lead st (is_in set)
      ((st.nulls (is_in set)).0 (solves_same false bool_xor bit_laws s.unknowns (length s.equations)
      (mask_of s.equations) first (λ j. false) (λ j. false) (is_in set) as_first (λ j lt2. refl)
      (to_even s ok set null))) p lt pivot

  pub last_below : (set : List ℕ) → IsNullSet s set → last_of set < s.unknowns
  last_below set null = in_all (λ c. c < s.unknowns) set null.below (last_of set)
      (last_in set null.nonempty)

  -- a null set ends at a free unknown
  pub last_is_free : (set : List ℕ) → IsNullSet s set → length s.equations ≤ pivot_row (last_of set)
  last_is_free set null = ⊎_elim
      (λ pivot. absurd (true≢false (sym (last_in set null.nonempty)
      ∙ null_valued set null (last_of set) (last_below set null) pivot ∙ bit_laws.left _
      ∙ nothing)))
      (λ le. le) (cases_lt (pivot_row (last_of set)) (length s.equations))
    where
      nothing : product false bool_xor s.unknowns (behind now pivot_row (last_of set)) (is_in set)
          ≡ false
      nothing = product_zero false bool_xor bit_laws s.unknowns (behind now pivot_row (last_of set))
          (is_in set) (λ c lt. ⊎_elim
          (λ gt. inr (none_past set null.rising c gt))
          (λ le. inl (rw (le-ltb (last_of set) c le) refl)) (cases_lt (last_of set) c))

  -- f gives the free unknowns, rising, and x i the members of the set of f i
  module _ (sets : ℕ) (f : ℕ → ℕ) (x : ℕ → Set)
      (past : (p c : ℕ) → length s.equations ≤ pivot_row p → now (pivot_row p) c ≡ false)
      (low : (i : ℕ) → i < sets → f i < s.unknowns) (free : (i : ℕ) → i < sets
      → length s.equations ≤ pivot_row (f i))
      (back : (i p : ℕ) → i < sets → p < s.unknowns
      → x i p ≡ bool_xor (p == f i) (product false bool_xor s.unknowns (behind now pivot_row p)
      (x i))) where
    at_free : (i p : ℕ) → i < sets → p < s.unknowns → length s.equations ≤ pivot_row p
        → x i p ≡ (p == f i)
    at_free i p lt lt2 le = back i p lt lt2
        ∙ ap (bool_xor (p == f i)) (product_none false bool_xor bit_laws s.unknowns
        (behind now pivot_row p) (x i) (λ c lt3. ap (λ b. ltb p c && b) (past p c le)
        ∙ and_no (ltb p c)))
        ∙ xor_none (p == f i)

    at_pivot : (i p : ℕ) → i < sets → p < s.unknowns → pivot_row p < length s.equations
        → x i p ≡ value false bool_xor s.unknowns now pivot_row (λ j. false) p (x i)
    at_pivot i p lt lt2 pivot = back i p lt lt2
        ∙ ap (λ b. bool_xor b (product false bool_xor s.unknowns (behind now pivot_row p) (x i)))
        (ne_eqb p (f i) (λ e. let z = ap pivot_row e in let le = free i lt in
        omega (arith, z, pivot, le)))

    abbrev pub set : ℕ → List ℕ
    set i = members s.unknowns (x i)

    module _ (i : ℕ) (lt : i < sets) where
      at_own : x i (f i) ≡ true
      at_own = at_free i (f i) lt (low i lt) (free i lt) ∙ eq-eqb (f i) (f i) refl

      own_in : is_in (set i) (f i) ≡ true
      own_in = members_in s.unknowns (x i) (f i) (low i lt) at_own

      -- no unknown behind f i, by induction from the last one down
      none_behind : (n c : ℕ) → f i < c → c < s.unknowns → s.unknowns ≤ c + n → x i c ≡ false
      none_behind zero c gt lt2 le = absurd (omega arith)
      none_behind (suc n) c gt lt2 le = ⊎_elim
          (λ pivot. at_pivot i c lt lt2 pivot ∙ bit_laws.left _ ∙ product_zero false bool_xor
          bit_laws s.unknowns (behind now pivot_row c) (x i) (λ d lt3. ⊎_elim
          (λ gt2. inr (none_behind n d (omega arith) lt3 (omega arith)))
          (λ le2. inl (rw (le-ltb c d le2) refl)) (cases_lt c d)))
          (λ le2. at_free i c lt lt2 le2 ∙ ne_eqb c (f i) (λ e. omega (arith, e)))
          (cases_lt (pivot_row c) (length s.equations))

      held : (c : ℕ) → is_in (set i) c ≡ true → (c < s.unknowns) × (x i c ≡ true)
      held c e = (
        in_all (λ d. d < s.unknowns) (members s.unknowns (x i))
            (members_below s.unknowns (x i)) c e,
        passes (x i) (range_with_len 0 s.unknowns) c e,
      )

      nonempty : set i ≢ []
      nonempty none = true≢false (sym own_in ∙ ap (λ w. is_in w (f i)) none)

      pub rises : IsStrictlyIncreasing (set i)
      rises = members_rise s.unknowns (x i)

      pub last : last_of (set i) ≡ f i
      last = le_antisymm up (last_most (set i) rises (f i) own_in)
        where
          up : last_of (set i) ≤ f i
          up = let w = held (last_of (set i)) (last_in (set i) nonempty) in
              ⊎_elim (λ gt. absurd (true≢false (sym w.1 ∙ none_behind s.unknowns (last_of (set i))
              gt w.0 (omega arith)))) (λ le. le) (cases_lt (f i) (last_of (set i)))

      meets : Solves false bool_xor s.unknowns (length s.equations) (mask_of s.equations)
          (λ j. false) (x i)
      meets = solves_same false bool_xor bit_laws s.unknowns (length s.equations) first
          (mask_of s.equations) (λ j. false) (λ j. false) (x i)
          (λ j c lt2 lt3. sym (as_first j c lt2 lt3)) (λ j lt2. refl)
          ((st.nulls (x i)).1 (values_solve false bool_xor bit_laws s.unknowns now pivot_row
          (λ j. false) (length s.equations) first lead st (x i) (λ j lt2 e. refl)
          (λ p lt2 pivot. at_pivot i p lt lt2 pivot)))

      null : IsNullSet s (set i)
      null = null_of (matrix_of s)
          (λ j lt2. let inside : j < length s.equations = rw length-map at lt2 in
          subst (All (λ d. d < s.unknowns)) (sym (row_at s j inside))
          (ok j (no_equation 0) inside).below)
          (λ c. false) (x i) (f i) (low i lt) at_own (λ d e. absurd (true≢false (sym e)))
          (λ t lt2. let inside : t < length s.equations = rw length-map at lt2 in
          ap (total false bool_xor (x i)) (row_at s t inside) ∙ row_product s ok false bool_xor
          bit_laws t inside (x i) ∙ meets t inside)

      pub reduced : IsReducedWord (IsNullSet s) (set i)
      reduced = record { one = null; only = only }
        where
          only : (q : ℕ) → IsLate (IsNullSet s) q → is_in (set i) q ≡ true → q ≡ last_of (set i)
          only q late e = let w = held q e in
              eqb-true q (f i) (sym (at_free i q lt w.0
              (subst (λ p. length s.equations ≤ pivot_row p) late.2
              (last_is_free late.0 late.1))) ∙ w.1) ∙ sym last

    -- where f gives all free unknowns there are no others
    pub every : ((p : ℕ) → p < s.unknowns → length s.equations ≤ pivot_row p → (i : ℕ) × (i < sets)
        × (f i ≡ p)) → (word : List ℕ) → IsReducedWord (IsNullSet s) word → (i : ℕ) × (i < sets)
        × (set i ≡ word)
    every all word red =
        let a = all (last_of word) (last_below word red.one) (last_is_free word red.one) in (
          a.0,
          a.1,
          reduced_is_one (IsNullSet s) (null_linear (matrix_of s) (λ c. false)) (set a.0)
              word (reduced a.0 a.1) red (last a.0 a.1 ∙ a.2),
        )

  -- and at each free unknown one ends
  pub free_is_last : ((p c : ℕ) → length s.equations ≤ pivot_row p → now (pivot_row p) c ≡ false)
      → (p : ℕ) → p < s.unknowns → length s.equations ≤ pivot_row p → IsLate (IsNullSet s) p
  free_is_last past p lt free = (
    set 1 (λ i. p) (λ i. x) past (λ i lt2. lt) (λ i lt2. free) back 0,
    (reduced 1 (λ i. p) (λ i. x) past (λ i lt2. lt) (λ i lt2. free) back 0 (omega arith)).one,
    last 1 (λ i. p) (λ i. x) past (λ i lt2. lt) (λ i lt2. free) back 0 (omega arith),
  )
    where
      x : Set
      x = below false bool_xor s.unknowns (length s.equations) now pivot_row (λ j. false) s.unknowns
          (λ c. c == p)

      back : (i q : ℕ) → i < 1 → q < s.unknowns
          → x q ≡ bool_xor (q == p) (product false bool_xor s.unknowns (behind now pivot_row q) x)
      back i q lt2 lt3 = ⊎_elim
          (λ pivot. below_valued false bool_xor bit_laws s.unknowns now pivot_row (λ j. false)
          (length s.equations) s.unknowns (λ c. c == p) q lt3 pivot
          ∙ ap (λ b. bool_xor b (product false bool_xor s.unknowns (behind now pivot_row q) x))
          (sym (ne_eqb q p (λ e. let z = ap pivot_row e in omega (arith, z, pivot, free)))))
          (λ le. below_free false bool_xor bit_laws s.unknowns now pivot_row (λ j. false)
          (length s.equations) s.unknowns (λ c. c == p) q le
          ∙ sym (ap (bool_xor (q == p)) (product_none false bool_xor bit_laws s.unknowns
          (behind now pivot_row q) x (λ c lt4. ap (λ b. ltb q c && b) (past q c le)
          ∙ and_no (ltb q c))) ∙ xor_none (q == p)))
          (cases_lt (pivot_row q) (length s.equations))
