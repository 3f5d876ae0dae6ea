-- A packed system with another equation in place of one.
use mathlib.Core.Path.{fun_ext}
use Rattle.std.proofs.Common.{◌≡◌, ◌≢◌, ℕ, ◌+◌, ◌*◌, ◌/◌, ◌%◌, ◌<◌, ◌≤◌, ◌||◌, ◌==◌, ⊎_elim, false}
use Rattle.std.proofs.Common.{List, [], ◌∷◌, ◌++◌, length, get_or, set, map, filter, replicate, All}
use Rattle.std.proofs.Common.{refl, sym, ap, ap₂, ◌∙◌, subst, arith, eq-eqb, eqb-true, zero-add}
use Rattle.std.proofs.Common.{length-set, get_or-set_same, get_or-set_other}
use Rattle.std.specs.List.{range_with_len}
use Rattle.std.proofs.lemmas.Bool.{lt-ltb, le-ltb, cases_lt, cases_eq, false_from_ne_true, ne_eqb}
use Rattle.std.proofs.lemmas.List.{ext_get_or, get_or_past, length-replicate, get_or-replicate}
use Rattle.std.proofs.lemmas.Nat.Bits.{bit_at-zero}
use Rattle.std.specs.Int.{bit_at}
use Rattle.fec_base.specs.Symbol.{zero_symbol}
use Rattle.std.proofs.lemmas.List.Folds.{list_any-append}
use Rattle.std.proofs.lemmas.List.FromFn.{get_or-map-range_with_len, length-map-range_with_len}
use Rattle.sparse_rows.specs.Closure.{Set, members}
use Rattle.sparse_rows.specs.Matrix.{is_in}
use Rattle.sparse_rows.proofs.Null.{in_all, members_below, members_rise, members_same}
use Rattle.sparse_rows.proofs.Rising.{rising_between}
use Rattle.sparse_rows.proofs.Sets.{or_none, same_test}
use Rattle.sparse_rows.proofs.Increasing.{rising_same}
use Rattle.gauss.specs.Equations.{Equation, System}
use Rattle.gauss.specs.Filling.{equation_at, no_equation, with_equation, with_sum, with_unknown}
use Rattle.gauss.specs.Packed.{bits_of, packed_equation, packed_system, width_of}

-- ---- a system whose equations change at one place

module _ (u len rows : ℕ) (words now : List ℕ) (sums sums_now : List (List ℕ)) where
  -- equation r becomes e, and the others stay
  pub replaced : (r : ℕ) (e : Equation) → r < rows → packed_equation u now sums_now r ≡ e
      → ((j : ℕ) → j < rows → j ≢ r → packed_equation u now sums_now j ≡ packed_equation u words
      sums j)
      → packed_system u len rows now sums_now ≡ with_equation (packed_system u len rows words sums)
      r e
  replaced r e lt at others = ap (λ es. record { unknowns = u; len = len; equations = es })
      (ext_get_or (no_equation len) _ _ (count ∙ sym (length-set olds r e ∙ count_old))
      (λ j lt2. let low : j < rows = rw count at lt2 in
      get_or-map-range_with_len (packed_equation u now sums_now) 0 rows j j (no_equation len) low
      (zero-add j) ∙ ⊎_elim
      (λ (f : j ≡ r). rw f (at ∙ sym (get_or-set_same olds r e (no_equation len)
      (rw count_old lt))))
      (λ ne. others j low ne ∙ sym (get_or-set_other olds r j e (no_equation len) ne
      ∙ get_or-map-range_with_len (packed_equation u words sums) 0 rows j j (no_equation len)
      low (zero-add j)))
      (cases_eq j r)))
    where
      olds : List Equation
      olds = map (packed_equation u words sums) (range_with_len 0 rows)

      count : length (map (packed_equation u now sums_now) (range_with_len 0 rows)) ≡ rows
      count = length-map-range_with_len (packed_equation u now sums_now) 0 rows

      count_old : length olds ≡ rows
      count_old = length-map-range_with_len (packed_equation u words sums) 0 rows

-- the equation at a place
pub at_place : (u len rows : ℕ) (words : List ℕ) (sums : List (List ℕ)) (r : ℕ) → r < rows
    → equation_at (packed_system u len rows words sums) r ≡ packed_equation u words sums r
at_place u len rows words sums r lt = get_or-map-range_with_len (packed_equation u words sums) 0
    rows r r (no_equation len) lt (zero-add r)

-- ---- one more unknown

-- a list's columns with one more at its end
in_with_last : (xs : List ℕ) (f c : ℕ) → is_in (xs ++ f ∷ []) c ≡ (is_in xs c || (f == c))
in_with_last xs f c = list_any-append (λ d. d == c) xs (f ∷ [])
    ∙ ap (λ b. is_in xs c || b) (or_none (f == c))

-- the members with one more behind them
pub members_with : (u c : ℕ) (old now : Set) → c < u → All (λ d. d < c) (members u old)
    → ((d : ℕ) → now d ≡ (old d || (d == c))) → members u now ≡ members u old ++ c ∷ []
members_with u c old now lt behind h = rising_same (members u now) (members u old ++ c ∷ [])
    (members_rise u now)
    (rising_between c (members u old) [] (members_rise u old)
    (λ i inside. absurd (omega (arith, inside))) behind
    (λ i d inside. absurd (omega (arith, inside))))
    (λ d. ⊎_elim
    (λ low. members_same u now d low ∙ h d ∙ sym (in_with_last (members u old) c d
    ∙ ap₂ (λ a b. a || b) (members_same u old d low) (turned d)))
    (λ le. out now d le ∙ sym (in_with_last (members u old) c d ∙ ap₂ (λ a b. a || b) (out old d le)
    (ne_eqb c d (λ e. omega (arith, e)))))
    (cases_lt d u))
  where
    turned : (d : ℕ) → (c == d) ≡ (d == c)
    turned d = same_test (c == d) (d == c) (λ e. eq-eqb d c (sym (eqb-true c d e)))
        (λ e. eq-eqb c d (sym (eqb-true d c e)))

    out : (w : Set) (d : ℕ) → u ≤ d → is_in (members u w) d ≡ false
    out w d le = false_from_ne_true _ (λ e. let low : d < u = in_all (λ k. k < u) (members u w)
        (members_below u w) d e in omega arith)

pub with_column : (u len rows : ℕ) (words now : List ℕ) (sums : List (List ℕ)) (r c : ℕ) → r < rows
    → c < u → All (λ d. d < c) (equation_at (packed_system u len rows words sums) r).unknowns
    → ((d : ℕ) → bits_of (width_of u) now r d ≡ (bits_of (width_of u) words r d || (d == c)))
    → ((j d : ℕ) → j ≢ r → bits_of (width_of u) now j d ≡ bits_of (width_of u) words j d)
    → packed_system u len rows now sums ≡ with_equation (packed_system u len rows words sums) r
    (with_unknown c (equation_at (packed_system u len rows words sums) r))
with_column u len rows words now sums r c lt low behind row others = replaced u len rows words now
    sums sums r _ lt
    (ap (λ us. record { unknowns = us; sum = get_or sums r [] })
    (members_with u c (bits_of (width_of u) words r) (bits_of (width_of u) now r) low
    (subst (λ (e : Equation). All (λ d. d < c) e.unknowns) (at_place u len rows words sums r lt)
    behind) row)
    ∙ ap (with_unknown c) (sym (at_place u len rows words sums r lt)))
    (λ j lt2 ne. ap (λ (w : Set). record { unknowns = members u w; sum = get_or sums j [] })
    (fun_ext (λ d. others j d ne)))

-- ---- another sum

pub with_symbol : (u len rows : ℕ) (words : List ℕ) (sums : List (List ℕ)) (r : ℕ) (bytes : List ℕ)
    → r < rows → length sums ≡ rows
    → packed_system u len rows words (set sums r bytes) ≡ with_equation
    (packed_system u len rows words sums) r
    (with_sum bytes (equation_at (packed_system u len rows words sums) r))
with_symbol u len rows words sums r bytes lt count = replaced u len rows words words sums
    (set sums r bytes) r _ lt
    (ap (λ symbol. record { unknowns = members u (bits_of (width_of u) words r); sum = symbol })
    (get_or-set_same sums r bytes [] (rw count lt))
    ∙ ap (with_sum bytes) (sym (at_place u len rows words sums r lt)))
    (λ j lt2 ne. ap (λ symbol. record {
      unknowns = members u (bits_of (width_of u) words j);
      sum = symbol;
    }) (get_or-set_other sums r j bytes [] ne))

-- ---- how many equations a packed system has
pub count_is : (u len rows : ℕ) (words : List ℕ) (sums : List (List ℕ))
    → length (packed_system u len rows words sums).equations ≡ rows
count_is u len rows words sums = length-map-range_with_len (packed_equation u words sums) 0 rows

-- a row of the system is one of its words' rows
pub inside_rows : (u len rows r : ℕ) (words : List ℕ) (sums : List (List ℕ)) (s : System)
    → packed_system u len rows words sums ≡ s → r < length s.equations → r < rows
inside_rows u len rows r words sums s view lt = rw (count_is u len rows words sums) at
    (subst (λ (t : System). r < length t.equations) (sym view) lt)

-- so many zeros
abbrev pub zeros : ℕ → List ℕ
zeros n = replicate n 0

no_more : (n : ℕ) → length (zeros n) ≡ n
no_more n = length-replicate n 0

-- words and bytes that are all zero are equations of no unknowns
pub empty_system : (u len rows : ℕ) → packed_system u len rows (zeros (rows * width_of u))
    (replicate rows (zero_symbol len))
    ≡ record { unknowns = u; len = len; equations = replicate rows (no_equation len) }
empty_system u len rows = ap (λ es. record { unknowns = u; len = len; equations = es })
    (ext_get_or (no_equation len) _ _ (count ∙ sym (length-replicate rows (no_equation len)))
    (λ j lt. let low : j < rows = rw count at lt in
    get_or-map-range_with_len (packed_equation u (zeros (rows * width_of u))
    (replicate rows (zero_symbol len))) 0 rows j j (no_equation len) low (zero-add j)
    ∙ ap₂ (λ us symbol. record { unknowns = us; sum = symbol }) (none j) (zero j low)
    ∙ sym (get_or-replicate rows j (no_equation len) (no_equation len) low)))
  where
    count : length (map (packed_equation u (zeros (rows * width_of u))
        (replicate rows (zero_symbol len))) (range_with_len 0 rows)) ≡ rows
    count = length-map-range_with_len (packed_equation u (zeros (rows * width_of u))
        (replicate rows (zero_symbol len))) 0 rows

    at : (n k : ℕ) → get_or (zeros n) k 0 ≡ 0
    at n k = ⊎_elim (λ lt. get_or-replicate n k 0 0 lt)
        (λ le. get_or_past (zeros n) k 0 (rw (no_more n) le)) (cases_lt k n)

    no_bit : (j d : ℕ) → bits_of (width_of u) (zeros (rows * width_of u)) j d ≡ false
    no_bit j d = ⊎_elim (λ lt. rw (lt-ltb d (width_of u * 64) lt)
        (ap (λ n. bit_at n (d % 64) == 1) (at (rows * width_of u) (j * width_of u + d / 64))
        ∙ ap (λ n. n == 1) (bit_at-zero (d % 64))))
        (λ le. rw (le-ltb d (width_of u * 64) le) refl) (cases_lt d (width_of u * 64))

    no_member : (xs : List ℕ) → filter (λ d. false) xs ≡ []
    no_member [] = refl
    no_member (d ∷ xs) = no_member xs

    none : (j : ℕ) → members u (bits_of (width_of u) (zeros (rows * width_of u)) j) ≡ []
    none j = ap (members u) (fun_ext (λ d. no_bit j d)) ∙ no_member (range_with_len 0 u)

    zero : (j : ℕ) → j < rows → get_or (replicate rows (zero_symbol len)) j [] ≡ zero_symbol len
    zero j lt = get_or-replicate rows j (zero_symbol len) [] lt
