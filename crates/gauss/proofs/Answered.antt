-- What the last stage of an elimination shows of a system.
use Rattle.std.proofs.Common.{◌≡◌, ◌≢◌, ℕ, zero, suc, ◌%◌, ◌<◌, ◌≤◌, ◌==◌, ⊎_elim, inl, inr, Bool}
use Rattle.std.proofs.Common.{true, false, cond, List, [], ◌∷◌, length, get_or, map, count_by, refl}
use Rattle.std.proofs.Common.{sym, ap, ap₂, ◌∙◌, arith, true≢false, bit_xor, ltb, zero-add}
use Rattle.std.proofs.Common.{le_trans, All}
use Rattle.std.specs.List.{range_with_len}
use Rattle.std.specs.List.Sorted.{IsStrictlyIncreasing}
use Rattle.std.proofs.Math.Bool.{xor as bool_xor}
use Rattle.std.proofs.lemmas.Bool.{cases_lt, false_from_ne_true, le-ltb}
use Rattle.std.proofs.lemmas.Nat.{xor_of_8}
use Rattle.std.proofs.lemmas.List.{get_or-map, length-map, get_or_past, get_or_default}
use Rattle.std.proofs.lemmas.List.FromFn.{get_or-map-range_with_len, length-map-range_with_len}
use Rattle.std.proofs.lemmas.List.Elements.{All-from_get_or, All-map}
use Rattle.fec_base.specs.Symbol.{IsSymbol, xor_sum}
use Rattle.sparse_rows.specs.Codeword.{IsAssignment, symbol_at}
use Rattle.sparse_rows.specs.Closure.{Set}
use Rattle.sparse_rows.specs.Matrix.{is_in}
use Rattle.sparse_rows.specs.NullWord.{IsNullWord, last_of}
use Rattle.sparse_rows.proofs.Algebra.{XorLaws}
use Rattle.sparse_rows.specs.Totals.{total}
use Rattle.fec_base.proofs.SymbolBytes.{byte, same_bytes}
use Rattle.sparse_rows.proofs.Planes.{byte_laws, byte_sum, zero_is_symbol, symbol_at_is, length_sum}
use Rattle.sparse_rows.proofs.Parity.{bit_laws, even_from, even_to}
use Rattle.sparse_rows.proofs.Null.{all_from_in, null_column}
use Rattle.null_witness.proofs.Increasing.{last_in, last_most}
use Rattle.gauss.specs.Equations.{Equation, System, IsSystem, IsSolution, matrix_of}
use Rattle.gauss.specs.Filling.{no_equation}
use Rattle.gauss.specs.Answer.{IsAnswer}
use Rattle.gauss.proofs.Rows.{mask_of, sum_of}
use Rattle.gauss.specs.Elimination.{product, Solves, mask_in, taken_in, sum_in, IsStage, behind}
use Rattle.gauss.specs.declared.answer.Answer.TheVariants as answer
use Rattle.gauss.proofs.Lists.{list_product}
use Rattle.gauss.proofs.Products.{product_zero}
use Rattle.gauss.proofs.Stages.{solves_same}
use Rattle.gauss.proofs.Back.{below, value_same, values_agree, below_valued, rest_row, values_solve}
use Rattle.gauss.proofs.Back.{solution_values, value}

-- ---- sums of bytes are bytes

small_total : (y : ℕ → ℕ) → ((c : ℕ) → y c < 256) → (cs : List ℕ) → total 0 bit_xor y cs < 256
small_total y h [] = omega arith
small_total y h (c ∷ cs) = xor_of_8 (y c) (total 0 bit_xor y cs) (h c) (small_total y h cs)

small_product : (u : ℕ) (mask : Set) (x : ℕ → ℕ) → ((c : ℕ) → x c < 256)
    → product 0 bit_xor u mask x < 256
small_product u mask x h = small_total (λ c. cond (mask c) (x c) 0)
    (λ c. by_case (mask c) (x c) (h c)) (range_with_len 0 u)
  where
    by_case : (b : Bool) (v : ℕ) → v < 256 → cond b v 0 < 256
    by_case true v lt = lt
    by_case false v lt = omega arith

small_below : (u r : ℕ) (bits : ℕ → Set) (pivot_row : ℕ → ℕ) (sum : ℕ → ℕ) → ((j : ℕ) → sum j < 256)
    → (n : ℕ) (y : ℕ → ℕ) → ((c : ℕ) → y c < 256) → (c : ℕ)
    → below 0 bit_xor u r bits pivot_row sum n y c < 256
small_below u r bits pivot_row sum hs zero y hy c = hy c
small_below u r bits pivot_row sum hs (suc n) y hy c = small_below u r bits pivot_row sum hs n _
    (λ d. by_case (d == n) (ltb (pivot_row n) r) (y d) (hy d)) c
  where
    by_case : (a b : Bool) (v : ℕ) → v < 256
        → cond a (cond b (value 0 bit_xor u bits pivot_row sum n y) (y n)) v < 256
    by_case true true v lt = xor_of_8 (sum (pivot_row n))
        (product 0 bit_xor u (behind bits pivot_row n) y) (hs (pivot_row n))
        (small_product u (behind bits pivot_row n) y hy)
    by_case true false v lt = hy n
    by_case false b v lt = lt

module _ (s : System) (ok : IsSystem s) where
  pub row_product : {G : Type 0} (o : G) (add : G → G → G) (laws : XorLaws G o add) (j : ℕ)
      → j < length s.equations → (x : ℕ → G)
      → total o add x (get_or s.equations j (no_equation 0)).unknowns ≡ product o add s.unknowns
      (mask_of s.equations j) x
  row_product o add laws j lt x = list_product o add laws s.unknowns
      (get_or s.equations j (no_equation 0)).unknowns (ok j (no_equation 0) lt).rising
      (ok j (no_equation 0) lt).below x

  -- the sum of an equation, whatever stands past the end
  pub sum_same : (j : ℕ) → j < length s.equations
      → sum_of s.len s.equations j ≡ (get_or s.equations j (no_equation 0)).sum
  sum_same j lt = ap (λ (e : Equation). e.sum) (get_or_default s.equations j (no_equation s.len)
      (no_equation 0) lt)

  pub row_sum_is : IsAssignment s.len (sum_of s.len s.equations)
  row_sum_is j = ⊎_elim (λ lt. (ok j (no_equation s.len) lt).sum)
      (λ le. rw (get_or_past s.equations j (no_equation s.len) le) (zero_is_symbol s.len))
      (cases_lt j (length s.equations))

  to_planes : (x : ℕ → List ℕ) → IsSolution s x → (t : ℕ)
      → Solves 0 bit_xor s.unknowns (length s.equations) (mask_of s.equations)
      (λ j. byte t (sum_of s.len s.equations j)) (λ c. byte t (x c))
  to_planes x h t j lt = sym (row_product 0 bit_xor byte_laws j lt (λ c. byte t (x c)))
      ∙ sym (byte_sum s.len x (λ c. (h.symbols c).long) t
      (get_or s.equations j (no_equation 0)).unknowns)
      ∙ ap (byte t) (h.sums j (no_equation 0) lt ∙ sym (sum_same j lt))

  from_planes : (x : ℕ → List ℕ) → IsAssignment s.len x
      → ((t : ℕ) → Solves 0 bit_xor s.unknowns (length s.equations) (mask_of s.equations)
      (λ j. byte t (sum_of s.len s.equations j)) (λ c. byte t (x c))) → IsSolution s x
  from_planes x hx h = record {
    symbols = hx;
    sums = All-from_get_or (λ (e : Equation). xor_sum s.len x e.unknowns ≡ e.sum) s.equations
        (no_equation 0) (λ j lt.
        same_bytes _ _ (length_sum s.len x (λ c. (hx c).long)
        (get_or s.equations j (no_equation 0)).unknowns
        ∙ sym (ok j (no_equation 0) lt).sum.long)
        (λ t. byte_sum s.len x (λ c. (hx c).long) t (get_or s.equations j (no_equation 0)).unknowns
        ∙ row_product 0 bit_xor byte_laws j lt (λ c. byte t (x c)) ∙ h t j lt
        ∙ ap (byte t) (sum_same j lt)));
  }

  pub to_even : (set : List ℕ) → IsNullWord (matrix_of s) (λ c. false) set
      → Solves false bool_xor s.unknowns (length s.equations) (mask_of s.equations) (λ j. false)
      (is_in set)
  to_even set null j lt = sym (row_product false bool_xor bit_laws j lt (is_in set))
      ∙ even_to (is_in set) (get_or s.equations j (no_equation 0)).unknowns
      (rw (sym (get_or-map (λ (e : Equation). e.unknowns) s.equations j (no_equation 0) [] lt))
      (null.even j [] (rw length-map lt)))

  -- ---- the answer at the end of the elimination

  module _ (first now : ℕ → Set) (pivot_row lead : ℕ
      → ℕ) (st : IsStage s.unknowns (length s.equations) s.unknowns first now pivot_row lead)
      (as_first : (j c : ℕ) → j < length s.equations → c < s.unknowns
      → mask_of s.equations j c ≡ first j c) where
    -- a byte of each equation's sum, and of each row's after the elimination
    abbrev pub plane : ℕ → ℕ → ℕ
    plane t j = byte t (sum_of s.len s.equations j)

    abbrev pub last_plane : ℕ → ℕ → ℕ
    last_plane t = sum_in 0 bit_xor s.unknowns s.unknowns now lead pivot_row (plane t)

    last_solves : (x : ℕ → List ℕ) → IsSolution s x → (t : ℕ)
        → Solves 0 bit_xor s.unknowns (length s.equations) (mask_in s.unknowns s.unknowns now lead)
        (last_plane t) (λ c. byte t (x c))
    last_solves x h t = (st.planes (plane t) (λ c. byte t (x c))).0
        (solves_same 0 bit_xor byte_laws s.unknowns (length s.equations) (mask_of s.equations) first
        (plane t) (plane t) (λ c. byte t (x c)) as_first (λ j lt. refl) (to_planes x h t))

    from_last : (x : ℕ → List ℕ) → IsAssignment s.len x
        → ((t : ℕ) → Solves 0 bit_xor s.unknowns (length s.equations)
        (mask_in s.unknowns s.unknowns now lead) (last_plane t) (λ c. byte t (x c)))
        → IsSolution s x
    from_last x hx h = from_planes x hx (λ t. solves_same 0 bit_xor byte_laws s.unknowns
        (length s.equations) first (mask_of s.equations) (plane t) (plane t) (λ c. byte t (x c))
        (λ j c lt lt2. sym (as_first j c lt lt2)) (λ j lt. refl)
        ((st.planes (plane t) (λ c. byte t (x c))).1 (h t)))

    -- a row that leads nothing and has another sum shows that there is none
    pub answer_clash : (j t : ℕ) → j < length s.equations → ltb (lead j) s.unknowns ≡ false
        → last_plane t j ≢ 0 → IsAnswer s answer.Clash
    answer_clash j t lt free ne x h = ne (sym (last_solves x h t j lt)
        ∙ rest_row 0 bit_xor byte_laws s.unknowns now pivot_row (last_plane t) (length s.equations)
        first lead st j free (λ c. byte t (x c)))

    -- past the end of the symbols each byte is zero
    plane_past : (t j : ℕ) → s.len ≤ t → plane t j ≡ 0
    plane_past t j le = get_or_past (sum_of s.len s.equations j) t 0 (rw (row_sum_is j).long le)

    last_past : (t j : ℕ) → s.len ≤ t → last_plane t j ≡ 0
    last_past t j le = ap₂ bit_xor (plane_past t j le) (product_zero 0 bit_xor byte_laws s.unknowns
        (taken_in s.unknowns s.unknowns now lead j) (λ q. plane t (pivot_row q))
        (λ c lt. inr (plane_past t (pivot_row c) le))) ∙ byte_laws.self 0

    value_past : (x : ℕ → List ℕ) → IsAssignment s.len x → (t p : ℕ) → s.len ≤ t
        → byte t (x p) ≡ value 0 bit_xor s.unknowns now pivot_row (last_plane t) p
        (λ c. byte t (x c))
    value_past x hx t p le = past p
        ∙ sym (ap₂ bit_xor (last_past t (pivot_row p) le)
        (product_zero 0 bit_xor byte_laws s.unknowns (behind now pivot_row p) (λ c. byte t (x c))
        (λ c lt. inr (past c))) ∙ byte_laws.self 0)
      where
        past : (c : ℕ) → byte t (x c) ≡ 0
        past c = get_or_past (x c) t 0 (rw (hx c).long le)

    module _ (rest : (t j : ℕ) → t < s.len → j < length s.equations
        → ltb (lead j) s.unknowns ≡ false → last_plane t j ≡ 0) where
      rest_all : (t j : ℕ) → j < length s.equations → ltb (lead j) s.unknowns ≡ false
          → last_plane t j ≡ 0
      rest_all t j lt e = ⊎_elim (λ low. rest t j low lt e) (λ le. last_past t j le)
          (cases_lt t s.len)

      -- values that come from the pivot rows are a solution
      pub values_are_solution : (x : ℕ → List ℕ) → IsAssignment s.len x
          → ((t p : ℕ) → t < s.len → p < s.unknowns → pivot_row p < length s.equations
          → byte t (x p) ≡ value 0 bit_xor s.unknowns now pivot_row (last_plane t) p
          (λ c. byte t (x c))) → IsSolution s x
      values_are_solution x hx h = from_last x hx (λ t. values_solve 0 bit_xor byte_laws s.unknowns
          now pivot_row (last_plane t) (length s.equations) first lead st (λ c. byte t (x c))
          (rest_all t)
          (λ p lt pivot. ⊎_elim (λ low. h t p low lt pivot) (λ le. value_past x hx t p le)
          (cases_lt t s.len)))

      -- and the only one, where each unknown has a pivot row
      pub answer_one : ((p : ℕ) → p < s.unknowns → pivot_row p < length s.equations)
          → (values : List (List ℕ)) → length values ≡ s.unknowns → All (IsSymbol s.len) values
          → ((t p : ℕ) → t < s.len → p < s.unknowns → byte t (symbol_at s.len values p)
          ≡ value 0 bit_xor s.unknowns now pivot_row (last_plane t) p
          (λ c. byte t (symbol_at s.len values c)))
          → IsAnswer s (answer.One values)
      answer_one pivots values count each h =
          let y : IsAssignment s.len (symbol_at s.len values) = symbol_at_is s.len values each in
          record {
            count = count;
            solves = values_are_solution (symbol_at s.len values) y
                (λ t p low lt pivot. h t p low lt);
            only = λ x hx c lt. same_bytes (x c) (symbol_at s.len values c) ((hx.symbols c).long
                ∙ sym (y c).long) (λ t.
                values_agree 0 bit_xor byte_laws s.unknowns now pivot_row (last_plane t) s.unknowns
                (λ d. byte t (x d)) (λ d. byte t (symbol_at s.len values d))
                (λ p lt2. solution_values 0 bit_xor byte_laws s.unknowns now pivot_row
                (last_plane t) (length s.equations) first lead st (λ d. byte t (x d))
                (last_solves x hx t) p lt2 (pivots p lt2))
                (λ p lt2. ⊎_elim (λ low. h t p low lt2) (λ le. value_past (symbol_at s.len values) y
                t p le) (cases_lt t s.len)) (λ d le lt2. absurd (omega arith)) c lt);
          }

      -- some assignment solves it: zero at the free unknowns
      some_plane : ℕ → ℕ → ℕ
      some_plane t = below 0 bit_xor s.unknowns (length s.equations) now pivot_row (last_plane t)
          s.unknowns (λ c. 0)

      some_at : ℕ → List ℕ
      some_at p = map (λ t. some_plane t p) (range_with_len 0 s.len)

      plane_small : (t j : ℕ) → plane t j < 256
      plane_small t j = ⊎_elim (λ lt. (row_sum_is j).bytes t 0 lt)
          (λ le. rw (get_or_past (sum_of s.len s.equations j) t 0 le) (omega arith))
          (cases_lt t (length (sum_of s.len s.equations j)))

      last_small : (t j : ℕ) → last_plane t j < 256
      last_small t j = xor_of_8 (plane t j)
          (product 0 bit_xor s.unknowns (taken_in s.unknowns s.unknowns now lead j)
          (λ p. plane t (pivot_row p))) (plane_small t j)
          (small_product s.unknowns (taken_in s.unknowns s.unknowns now lead j)
          (λ p. plane t (pivot_row p)) (λ p. plane_small t (pivot_row p)))

      some_length : (p : ℕ) → length (some_at p) ≡ s.len
      unfolding some_at
      some_length p = length-map-range_with_len (λ t. some_plane t p) 0 s.len

      some_byte : (t p : ℕ) → t < s.len → byte t (some_at p) ≡ some_plane t p
      unfolding some_at
      some_byte t p lt = get_or-map-range_with_len (λ k. some_plane k p) 0 s.len t t 0 lt
          (zero-add t)

      some_is : IsAssignment s.len some_at
      unfolding some_plane
      some_is p = record {
        long = some_length p;
        bytes = All-from_get_or (λ b. b < 256) (some_at p) 0
            (λ t lt. rw (some_byte t p (rw (some_length p) at lt))
            (small_below s.unknowns (length s.equations) now pivot_row (last_plane t) (last_small t)
            s.unknowns (λ c. 0) (λ c. omega arith) p));
      }

      some_solution : IsSolution s some_at
      unfolding some_plane
      some_solution = values_are_solution some_at some_is (λ t p low lt pivot. some_byte t p low
          ∙ valued t p lt pivot ∙ value_same 0 bit_xor byte_laws s.unknowns now pivot_row
          (last_plane t) p (some_plane t) (λ c. byte t (some_at c))
          (λ c gt lt2. sym (some_byte t c low)))
        where
          valued : (t p : ℕ) → p < s.unknowns → pivot_row p < length s.equations
              → some_plane t p ≡ value 0 bit_xor s.unknowns now pivot_row (last_plane t) p
              (some_plane t)
          valued t p lt pivot = below_valued 0 bit_xor byte_laws s.unknowns now pivot_row
              (last_plane t) (length s.equations) s.unknowns (λ c. 0) p lt pivot

      pub some_solves : (x : ℕ → List ℕ) × IsSolution s x
      some_solves = (some_at, some_solution)

      -- ---- the first free unknown gives the first null set

      module _ (f : ℕ) (low : f < s.unknowns) (free : length s.equations ≤ pivot_row f)
          (pivots : (p : ℕ) → p < f → pivot_row p < length s.equations)
          (set : List ℕ) (rising : IsStrictlyIncreasing set) (has_f : is_in set f ≡ true)
          (none : (c : ℕ) → f < c → is_in set c ≡ false)
          (back : (p : ℕ) → p < f → is_in set p ≡ product false bool_xor s.unknowns
          (behind now pivot_row p) (is_in set)) where
        up_to : (c : ℕ) → is_in set c ≡ true → c ≤ f
        up_to c e = ⊎_elim (λ lt. absurd (true≢false (sym e ∙ none c lt))) (λ le. le) (cases_lt f c)

        from_rows : (p : ℕ) → p < s.unknowns → pivot_row p < length s.equations
            → is_in set p ≡ value false bool_xor s.unknowns now pivot_row (λ j. false) p (is_in set)
        from_rows p lt pivot = ⊎_elim (λ lt2. back p lt2 ∙ sym (bit_laws.left _))
            (λ le. none p (behind_f p le pivot)
            ∙ sym (bit_laws.left _ ∙ product_zero false bool_xor bit_laws s.unknowns
            (behind now pivot_row p) (is_in set) (λ c lt2. ⊎_elim (λ gt. inr (none c gt))
            (λ le2. inl (rw (le-ltb p c (omega arith)) refl)) (cases_lt f c))))
            (cases_lt p f)
          where
            behind_f : (q : ℕ) → f ≤ q → pivot_row q < length s.equations → f < q
            behind_f q le2 pivot2 = ⊎_elim (λ gt. gt) (λ le3. let e : q ≡ f = omega arith in
                let z = ap pivot_row e in absurd (omega (arith, z, free))) (cases_lt f q)

        meets : Solves false bool_xor s.unknowns (length s.equations) (mask_of s.equations)
            (λ j. false) (is_in set)
        meets = solves_same false bool_xor bit_laws s.unknowns (length s.equations) first
            (mask_of s.equations) (λ j. false) (λ j. false) (is_in set)
            (λ j c lt lt2. sym (as_first j c lt lt2)) (λ j lt. refl) ((st.nulls (is_in set)).1
            (values_solve false bool_xor bit_laws s.unknowns now pivot_row (λ j. false)
            (length s.equations) first lead st (is_in set) (λ j lt e. refl) from_rows))

        null : IsNullWord (matrix_of s) (λ c. false) set
        null = record {
          rising = rising;
          below = all_from_in (λ c. c < s.unknowns) set (λ c e. let le = up_to c e in omega arith);
          nonempty = λ empty. true≢false (sym has_f ∙ ap (λ z. is_in z f) empty);
          outside = λ k d lt. refl;
          even = All-map (λ row. count_by (is_in set) row % 2 ≡ 0) (λ (e : Equation). e.unknowns)
              s.equations (All-from_get_or (λ (e : Equation). count_by (is_in set) e.unknowns % 2
              ≡ 0) s.equations (no_equation 0) (λ j lt2.
              even_from (is_in set) (get_or s.equations j (no_equation 0)).unknowns
              (row_product false bool_xor bit_laws j lt2 (is_in set) ∙ meets j lt2)));
        }

        -- a null set has a member from f on: the pivot rows take all others
        least : (other : List ℕ) → IsNullWord (matrix_of s) (λ c. false) other
            → last_of set ≤ last_of other
        least other h = le_trans (up_to _ (last_in set null.nonempty))
            (⊎_elim (λ lt. absurd (true≢false (sym (nothing lt).0 ∙ (nothing lt).1))) (λ le. le)
            (cases_lt (last_of other) f))
          where
            nothing : last_of other < f → (is_in other (null_column (matrix_of s) (λ d. false) other
                h).0 ≡ true) × (is_in other (null_column (matrix_of s) (λ d. false) other h).0
                ≡ false)
            nothing lt = let c = null_column (matrix_of s) (λ d. false) other h in (
              c.1,
              values_agree false bool_xor bit_laws s.unknowns now pivot_row (λ j. false) f
                  (is_in other) (λ d. false)
                  (λ p lt2. solution_values false bool_xor bit_laws s.unknowns now pivot_row
                  (λ j. false) (length s.equations) first lead st (is_in other)
                  ((st.nulls (is_in other)).0 (solves_same false bool_xor bit_laws s.unknowns
                  (length s.equations) (mask_of s.equations) first (λ j. false) (λ j. false)
                  (is_in other) as_first (λ j lt3. refl) (to_even other h))) p
                  (omega (arith, low)) (pivots p lt2))
                  (λ p lt2. sym (bit_laws.left _ ∙ product_zero false bool_xor bit_laws s.unknowns
                  (behind now pivot_row p) (λ d. false) (λ d lt3. inr refl)))
                  (λ d le lt2. false_from_ne_true (is_in other d)
                  (λ e. let le2 = last_most other h.rising d e in omega arith)) c.0 c.2,
            )

        pub answer_free : IsAnswer s (answer.Free set)
        answer_free = ((some_at, some_solution), record { null = null; least = least })
