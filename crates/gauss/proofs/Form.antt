-- The reduced form of a packed system, by its rows in echelon form.
use Rattle.std.proofs.Common.{◌≡◌, ℕ, ◌+◌, ◌*◌, ◌<◌, ◌≤◌, ◌==◌, ⊎_elim, not, false, List, []}
use Rattle.std.proofs.Common.{length, get_or, map, All, refl, sym, ap, ◌∙◌, subst, arith}
use Rattle.std.proofs.Common.{true≢false, ltb, eqb-true, zero-add, bit_xor}
use Rattle.std.specs.List.{range_with_len}
use Rattle.std.proofs.Math.Bool.{xor as bool_xor}
use Rattle.std.proofs.lemmas.Bool.{cases_lt, le-ltb, lt-ltb, not-true}
use Rattle.std.proofs.lemmas.List.{get_or-map, length-map}
use Rattle.std.proofs.lemmas.List.FromFn.{get_or-map-range_with_len, length-map-range_with_len}
use Rattle.fec_base.specs.Symbol.{symbols_of}
use Rattle.sparse_rows.specs.Closure.{Set, members}
use Rattle.sparse_rows.specs.NullWord.{last_of}
use Rattle.sparse_rows.proofs.Null.{in_at, members_below, members_in, members_rise, passes}
use Rattle.sparse_rows.proofs.Sets.{any_at}
use Rattle.null_witness.specs.ReducedWords.{IsReducedWord}
use Rattle.gauss.specs.Elimination.{AreValues, IsStageIn, behind, lead_of, product, pivot_row}
use Rattle.gauss.specs.Masks.{AreNullMasks, form_of, set_of, stride_of}
use Rattle.gauss.specs.Packed.{IsPacked, bits_of, packed_system, sum_byte, width_of}
use Rattle.gauss.specs.Reduction.{IsNullSet, IsReducedForm}
use Rattle.gauss.proofs.Past.{bits_past}
use Rattle.gauss.proofs.NullSets.{every, last, reduced}
use Rattle.gauss.proofs.Read.{as_first, count, ok, read_solution, stage, symbol_in}

module _ (u len r : ℕ) (first words : List ℕ) (sums : List (List ℕ)) (pivots leads : List ℕ)
    (packed : IsPacked u len r first sums) (same_long : length words ≡ r * width_of u)
    (st : IsStageIn u r u (bits_of (width_of u) first) (bits_of (width_of u) words) pivots leads)
    (zero_rest : (j t : ℕ) → j < r → u ≤ lead_of u leads j → t < len
    → bit_xor (sum_byte sums t j) (product 0 bit_xor u (bits_of (width_of u) words j)
    (λ p. sum_byte sums t (pivot_row r pivots p))) ≡ 0)
    (values : List ℕ) (long : length values ≡ u * len) (small : All (λ b. b < 256) values)
    (done : AreValues u len (bits_of (width_of u) words) (pivot_row r pivots) sums values)
    (sets : ℕ) (bytes : List ℕ) (masks : AreNullMasks (bits_of (width_of u) words) r pivots sets
    bytes) where
  abbrev is_free : Set
  is_free p = not (ltb (pivot_row r pivots p) r)

  abbrev free : List ℕ
  free = members u is_free

  abbrev f : ℕ → ℕ
  f i = get_or free i 0

  abbrev x : ℕ → Set
  x = set_of (stride_of sets) bytes

  sets_are : sets ≡ length free
  sets_are = masks.count ∙ ap (λ n. length (members n is_free)) st.pivot_count

  low : (i : ℕ) → i < sets → f i < u
  low i lt = members_below u is_free i 0 (rw (← sets_are) lt)

  unled : (i : ℕ) → i < sets → r ≤ pivot_row r pivots (f i)
  unled i lt = ⊎_elim (λ pivot. absurd (true≢false (sym (lt-ltb (pivot_row r pivots (f i)) r pivot)
      ∙ not-true (ltb (pivot_row r pivots (f i)) r) (passes is_free (range_with_len 0 u) (f i)
      (in_at free i 0 (rw (← sets_are) lt))))))
      (λ le. le) (cases_lt (pivot_row r pivots (f i)) r)

  all : (p : ℕ) → p < u → r ≤ pivot_row r pivots p → (i : ℕ) × (i < sets) × (f i ≡ p)
  all p lt le = let w = any_at (λ c. c == p) 0 free
      (members_in u is_free p lt (rw (le-ltb (pivot_row r pivots p) r le) refl)) in
      (w.0, rw sets_are w.1, eqb-true (f w.0) p w.2)

  back : (i p : ℕ) → i < sets → p < u
      → x i p ≡ bool_xor (p == f i) (product false bool_xor u (behind (bits_of (width_of u) words)
      (pivot_row r pivots) p) (x i))
  back = subst (λ n. (i p : ℕ) → i < sets → p < n
      → x i p ≡ bool_xor (p == get_or (members n is_free) i 0)
      (product false bool_xor n (behind (bits_of (width_of u) words) (pivot_row r pivots) p) (x i)))
      st.pivot_count masks.back

  abbrev eqs : ℕ
  eqs = length (packed_system u len r first sums).equations

  count_is : eqs ≡ r
  count_is = count u len r first words sums pivots leads packed st

  rows_past : (p c : ℕ) → eqs ≤ pivot_row r pivots p
      → bits_of (width_of u) words (pivot_row r pivots p) c ≡ false
  rows_past p c le = bits_past r (width_of u) (pivot_row r pivots p) words same_long
      (rw count_is at le) c

  unled_eqs : (i : ℕ) → i < sets → eqs ≤ pivot_row r pivots (f i)
  unled_eqs i lt = rw count_is (unled i lt)

  all_eqs : (p : ℕ) → p < u → eqs ≤ pivot_row r pivots p → (i : ℕ) × (i < sets) × (f i ≡ p)
  all_eqs p lt le = all p lt (rw count_is at le)

  -- the set of free unknown i
  abbrev null_at : ℕ → List ℕ
  null_at i = members u (x i)

  null_reduced : (i : ℕ) → i < sets → IsReducedWord (IsNullSet (packed_system u len r first sums))
      (null_at i)
  null_reduced i lt = reduced (packed_system u len r first sums) (ok u len r first words sums pivots
      leads packed st) (bits_of (width_of u) first) (bits_of (width_of u) words)
      (pivot_row r pivots) (lead_of u leads)
      (stage u len r first words sums pivots leads packed st) (as_first u len r first words sums
      pivots leads packed st) sets f x rows_past low unled_eqs back i lt

  null_last : (i : ℕ) → i < sets → last_of (null_at i) ≡ f i
  null_last i lt = last (packed_system u len r first sums) (ok u len r first words sums pivots leads
      packed st) (bits_of (width_of u) first) (bits_of (width_of u) words) (pivot_row r pivots)
      (lead_of u leads)
      (stage u len r first words sums pivots leads packed st) (as_first u len r first words sums
      pivots leads packed st) sets f x rows_past low unled_eqs back i lt

  null_every : (w : List ℕ) → IsReducedWord (IsNullSet (packed_system u len r first sums)) w
      → (i : ℕ) × (i < sets) × (null_at i ≡ w)
  null_every w red = every (packed_system u len r first sums) (ok u len r first words sums pivots
      leads packed st) (bits_of (width_of u) first) (bits_of (width_of u) words)
      (pivot_row r pivots) (lead_of u leads)
      (stage u len r first words sums pivots leads packed st) (as_first u len r first words sums
      pivots leads packed st) sets f x rows_past low unled_eqs back all_eqs w red

  abbrev symbols : List (List ℕ)
  symbols = symbols_of len u values

  abbrev sets_of : List (List ℕ)
  sets_of = map (λ i. members (length symbols) (x i)) (range_with_len 0 sets)

  symbol_count : length symbols ≡ u
  symbol_count = length-map-range_with_len (symbol_in len values) 0 u

  set_count : length sets_of ≡ sets
  set_count = length-map-range_with_len (λ i. members (length symbols) (x i)) 0 sets

  set_is : (i : ℕ) (d : List ℕ) → i < sets → get_or sets_of i d ≡ null_at i
  set_is i d lt = get_or-map-range_with_len (λ j. members (length symbols) (x j)) 0 sets i i d lt
      (zero-add i) ∙ ap (λ n. members n (x i)) symbol_count

  pub read_form : IsReducedForm (packed_system u len r first sums)
      (form_of (symbols_of len u values) sets bytes)
  read_form = record {
    system = ok u len r first words sums pivots leads packed st;
    some = packed.some;
    count = symbol_count;
    solves = read_solution u len r first words sums pivots leads packed st zero_rest values long
        small done;
    reduced = λ i d lt. let low2 : i < sets = rw set_count at lt in
        rw (set_is i d low2) (null_reduced i low2);
    every = λ w red. let a = null_every w red in (a.0, rw set_count a.1, set_is a.0 w a.1 ∙ a.2);
    rising = λ k lt.
        let inside : k + 1 < length sets_of = rw length-map at lt in
        let high : k + 1 < sets = rw set_count at inside in
        let before : k < sets = omega arith in
        let a : get_or (map last_of sets_of) k 0 ≡ f k = get_or-map last_of sets_of k [] 0
        (rw set_count before) ∙ ap last_of (set_is k [] before) ∙ null_last k before in
        let b : get_or (map last_of sets_of) (k + 1) 0 ≡ f (k + 1) = get_or-map last_of sets_of
        (k + 1) [] 0 (rw set_count high) ∙ ap last_of (set_is (k + 1) [] high)
        ∙ null_last (k + 1) high in
        let rises : f k < f (k + 1) = members_rise u is_free k (rw (← sets_are) high) in
        omega (arith, a, b, rises);
  }
