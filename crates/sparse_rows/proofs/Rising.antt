-- Rows whose columns rise, and a row with one column more.
use Rattle.std.proofs.Common.{IfOk, is_ok, inl, inr, ◌⊎◌, count_by, zero-le, Result, Ok, Err}
use Rattle.std.proofs.Common.{MatchResult, IfErr, ◌≡◌, ℕ, zero, suc, ◌+◌, ◌<◌, ◌≤◌, Bool, true}
use Rattle.std.proofs.Common.{false, cond, ltb, lt-ltb, le-ltb, ltb-true, eqb, eq-eqb, ne_eqb, ◌||◌}
use Rattle.std.proofs.Common.{◌-◌, ⊎_elim, eq-or-lt_of_le, List, [], ◌∷◌, ◌++◌, length, get_or}
use Rattle.std.proofs.Common.{take, drop, All, refl, sym, ap, ap₂, ◌∙◌, arith, suc-add}
use Rattle.std.proofs.Common.{take-append-drop, drop-cons, append-nil, length-take, length-drop}
use Rattle.std.specs.List.{filter, insert}
use Rattle.std.specs.List.Sorted.{IsStrictlyIncreasing}
use Rattle.std.proofs.lemmas.List.{get_or-take, get_or-drop}
use Rattle.std.proofs.lemmas.List.Elements.{All-head, All-tail, All-cons, All-append, All-filter}
use Rattle.std.proofs.lemmas.List.Elements.{All-from_get_or, filter-append, filter_passes}
use Rattle.std.proofs.lemmas.List.Sums.{sum_by-cons}
use Rattle.std.proofs.lemmas.List.Kept.{IsStrictlyIncreasing-filter, AllPairs-from_increasing}
use Rattle.sparse_rows.specs.Matrix.{with_column, is_in}
use Rattle.sparse_rows.specs.Building.{IsRising}
use Rattle.sparse_rows.proofs.Shape.{rising_tail}

-- a test that passes everywhere keeps all
pub filter_all : (p : ℕ → Bool) (xs : List ℕ) → All (λ x. p x ≡ true) xs → filter p xs ≡ xs
filter_all p [] h = refl
filter_all p (x ∷ xs) h = let e : p x ≡ true = All-head (λ y. p y ≡ true) x xs h in
    rw e (ap (λ ys. x ∷ ys) (filter_all p xs (All-tail (λ y. p y ≡ true) x xs h)))

-- a test that passes nowhere keeps none
pub filter_none : (p : ℕ → Bool) (xs : List ℕ) → All (λ x. p x ≡ false) xs → filter p xs ≡ []
filter_none p [] h = refl
filter_none p (x ∷ xs) h = let e : p x ≡ false = All-head (λ y. p y ≡ false) x xs h in
    rw e (filter_none p xs (All-tail (λ y. p y ≡ false) x xs h))

abbrev pub Below : ℕ → List ℕ → Type 0
Below c xs = All (λ x. x < c) xs

abbrev pub Above : ℕ → List ℕ → Type 0
Above c xs = All (λ x. c < x) xs

-- what a test on the columns below c, and one on those above, keeps of a part on one side of c
low_below : (c : ℕ) (xs : List ℕ) → Below c xs → filter (λ x. ltb x c) xs ≡ xs
low_below c xs h = filter_all _ xs (λ i d lt. lt-ltb _ _ (h i d lt))

low_above : (c : ℕ) (xs : List ℕ) → Below c xs → filter (λ x. ltb c x) xs ≡ []
low_above c xs h = filter_none _ xs (λ i d lt. le-ltb _ _ (let e : get_or xs i d < c = h i d lt in
    omega arith))

high_above : (c : ℕ) (xs : List ℕ) → Above c xs → filter (λ x. ltb c x) xs ≡ xs
high_above c xs h = filter_all _ xs (λ i d lt. lt-ltb _ _ (h i d lt))

high_below : (c : ℕ) (xs : List ℕ) → Above c xs → filter (λ x. ltb x c) xs ≡ []
high_below c xs h = filter_none _ xs (λ i d lt. le-ltb _ _ (let e : c < get_or xs i d = h i d lt in
    omega arith))

-- a row in two parts gains a column between them
pub with_column_between : (c : ℕ) (low high : List ℕ) → Below c low → Above c high
    → with_column c (low ++ high) ≡ low ++ c ∷ high
with_column_between c low high below above = ap₂ (λ a b. a ++ c ∷ b)
    (filter-append (λ x. ltb x c) low high ∙ ap₂ (λ a b. a ++ b) (low_below c low below)
    (high_below c high above) ∙ append-nil low)
    (filter-append (λ x. ltb c x) low high ∙ ap₂ (λ a b. a ++ b) (low_above c low below)
    (high_above c high above))

-- a row that has the column between two parts stays
pub with_column_again : (c : ℕ) (low high : List ℕ) → Below c low → Above c high
    → with_column c (low ++ c ∷ high) ≡ low ++ c ∷ high
with_column_again c low high below above =
    let self : ltb c c ≡ false = le-ltb c c (omega arith) in ap₂ (λ a b. a ++ c ∷ b)
    (filter-append (λ x. ltb x c) low (c ∷ high) ∙ ap₂ (λ a b. a ++ b) (low_below c low below)
    (rw self (high_below c high above)) ∙ append-nil low)
    (filter-append (λ x. ltb c x) low (c ∷ high) ∙ ap₂ (λ a b. a ++ b) (low_above c low below)
    (rw self (high_above c high above)))

-- a column goes in where the lower ones end and the higher ones begin
pub insert-is_with_column : (c i : ℕ) (row : List ℕ) → Below c (take i row) → Above c (drop i row)
    → insert row i c ≡ with_column c row
insert-is_with_column c i row below above =
    sym (with_column_between c (take i row) (drop i row) below above)
    ∙ ap (with_column c) (take-append-drop i row)

-- the columns before a place of a rising row, and those after it
pub before_place : (row : List ℕ) (i : ℕ) → IsStrictlyIncreasing row → i < length row
    → Below (get_or row i 0) (take i row)
before_place row i rising lt = All-from_get_or (λ x. x < get_or row i 0) (take i row) 0
    (λ j inside. let first : j < i = omega (arith, inside, length-take i row) in
    rw (get_or-take i row j 0 first) (AllPairs-from_increasing row rising j i 0 first lt))

after_place : (row : List ℕ) (i : ℕ) → IsStrictlyIncreasing row → i < length row
    → Above (get_or row i 0) (drop (suc i) row)
after_place row i rising lt = All-from_get_or (λ x. get_or row i 0 < x) (drop (suc i) row) 0
    (λ j inside. let bound : suc i + j < length row = omega (arith, inside, length-drop (suc i) row)
    in rw (get_or-drop (suc i) row j 0) (AllPairs-from_increasing row rising i (suc i + j) 0
    (omega arith) bound))

-- a rising row that has the column stays
pub with_column_held : (c i : ℕ) (row : List ℕ) → IsStrictlyIncreasing row → i < length row
    → get_or row i 0 ≡ c → row ≡ with_column c row
with_column_held c i row rising lt e =
    let parts : row ≡ take i row ++ c ∷ drop (suc i) row = sym (take-append-drop i row)
    ∙ ap (λ ys. take i row ++ ys) (drop-cons row i 0 lt ∙ ap (λ x. x ∷ drop (suc i) row) e) in
    let below : Below c (take i row) = rw e at (before_place row i rising lt) in
    let above : Above c (drop (suc i) row) = rw e at (after_place row i rising lt) in
    parts ∙ sym (with_column_again c (take i row) (drop (suc i) row) below above)
    ∙ ap (with_column c) (sym parts)

-- a first column below the rest
pub rising_cons : (x : ℕ) (xs : List ℕ) → (0 < length xs → x < get_or xs 0 0)
    → IsStrictlyIncreasing xs → IsStrictlyIncreasing (x ∷ xs)
rising_cons x xs first rising zero lt = first (omega arith)
rising_cons x xs first rising (suc k) lt = rw suc-add (rising k (omega arith))

-- two rising parts with a column between them
pub rising_between : (c : ℕ) (low high : List ℕ) → IsStrictlyIncreasing low
    → IsStrictlyIncreasing high → Below c low → Above c high
    → IsStrictlyIncreasing (low ++ c ∷ high)
rising_between c [] high rl rh below above = rising_cons c high (λ some. above 0 0 some) rh
rising_between c (x ∷ low) high rl rh below above =
    rising_cons x (low ++ c ∷ high) (λ _. next low rl below)
    (rising_between c low high (rising_tail x low rl) rh (All-tail (λ y. y < c) x low below)
    above)
  where
    next : (ys : List ℕ) → IsStrictlyIncreasing (x ∷ ys) → Below c (x ∷ ys)
        → x < get_or (ys ++ c ∷ high) 0 0
    next [] rising h = All-head (λ y. y < c) x [] h
    next (y ∷ ys) rising h = rising 0 (omega arith)

-- a row stays rising and below n
pub with_column_rises : (n c : ℕ) (row : List ℕ) → c < n → IsRising n row
    → IsRising n (with_column c row)
with_column_rises n c row lt h = record {
  rising = rising_between c (filter (λ x. ltb x c) row) (filter (λ x. ltb c x) row)
      (IsStrictlyIncreasing-filter _ row h.rising) (IsStrictlyIncreasing-filter _ row h.rising)
      (λ i d inside. ltb-true _ _ (filter_passes (λ x. ltb x c) row i d inside))
      (λ i d inside. ltb-true _ _ (filter_passes (λ x. ltb c x) row i d inside));
  below = All-append (λ x. x < n) (filter (λ x. ltb x c) row) (c ∷ filter (λ x. ltb c x) row)
      (All-filter (λ x. ltb x c) (λ x. x < n) row h.below)
      (All-cons (λ x. x < n) c _ lt (All-filter (λ x. ltb c x) (λ x. x < n) row h.below));
}

-- whether a row that has the column at a place has it
pub is_in_held : (c i : ℕ) (row : List ℕ) → i < length row → get_or row i 0 ≡ c → is_in row c ≡ true
is_in_held c i [] lt e = absurd (omega arith)
is_in_held c zero (x ∷ row) lt e = rw (eq-eqb x c e) refl
is_in_held c (suc i) (x ∷ row) lt e = or_later (eqb x c) (is_in_held c i row (omega arith) e)
  where
    or_later : (b : Bool) → is_in row c ≡ true → (b || is_in row c) ≡ true
    or_later true h = refl
    or_later false h = h

-- a row with the lower columns on one side of a place and the higher ones on the other hasn't the
-- column
pub is_in_between : (c i : ℕ) (row : List ℕ) → Below c (take i row) → Above c (drop i row)
    → is_in row c ≡ false
is_in_between c i row below above = ap (λ columns. is_in columns c) (sym (take-append-drop i row))
    ∙ absent (take i row) below
  where
    past : (ys : List ℕ) → Above c ys → is_in ys c ≡ false
    past [] h = refl
    past (y ∷ ys) h = rw (ne_eqb y c (λ e. let lt : c < y = All-head (λ x. c < x) y ys h in
        absurd (omega arith))) (past ys (All-tail (λ x. c < x) y ys h))

    absent : (ys : List ℕ) → Below c ys → is_in (ys ++ drop i row) c ≡ false
    absent [] h = past (drop i row) above
    absent (y ∷ ys) h = rw (ne_eqb y c (λ e. let lt : y < c = All-head (λ x. x < c) y ys h in
        absurd (omega arith))) (absent ys (All-tail (λ x. x < c) y ys h))

-- the places of a rising row do not fall
pub rising_places : (row : List ℕ) → IsStrictlyIncreasing row → (i j : ℕ) → i ≤ j → j < length row
    → get_or row i 0 ≤ get_or row j 0
rising_places row rising i j le lt = ⊎_elim (λ e. rw e (omega arith))
    (λ l. let h : get_or row i 0 < get_or row j 0 = AllPairs-from_increasing row rising i j 0 l
    lt in omega arith) (eq-or-lt_of_le le)

-- all columns lie below one that is above the last
pub below_last : (c : ℕ) (row : List ℕ) → IsStrictlyIncreasing row
    → get_or row (length row - 1) 0 < c → Below c row
below_last c row rising lt = All-from_get_or (λ x. x < c) row 0
    (λ i inside. let h : get_or row i 0 ≤ get_or row (length row - 1) 0 = rising_places row rising i
    (length row - 1) (omega arith) (omega arith) in omega arith)

-- what a search that did not find the column says of the row's two parts
abbrev pub IsBetween : ℕ → List ℕ → ℕ → Type 0
IsBetween c row i = (i ≤ length row) × ((k : ℕ) → k < i → get_or row k 0 < c) × ((k : ℕ) → i ≤ k
    → k < length row → c < get_or row k 0)

pub below_place : (c i : ℕ) (row : List ℕ) → IsBetween c row i → Below c (take i row)
below_place c i row h = All-from_get_or (λ x. x < c) (take i row) 0
    (λ j inside. let lt : j < i = omega (arith, inside, length-take i row) in
    rw (get_or-take i row j 0 lt) (h.1 j lt))

pub above_place : (c i : ℕ) (row : List ℕ) → IsBetween c row i → Above c (drop i row)
above_place c i row h = All-from_get_or (λ x. c < x) (drop i row) 0
    (λ j inside. let bound : i + j < length row = omega (arith, inside, length-drop i row) in
    rw (get_or-drop i row j 0) (h.2 (i + j) (omega arith) bound))

pub not_found_below : (r : Result ℕ ℕ) (c : ℕ) (row : List ℕ) (F : ℕ → Type 0)
    → MatchResult r F (IsBetween c row) → IfErr r (λ i. Below c (take i row))
not_found_below (Ok i) c row F h = tt
not_found_below (Err i) c row F h = below_place c i row h

pub not_found_above : (r : Result ℕ ℕ) (c : ℕ) (row : List ℕ) (F : ℕ → Type 0)
    → MatchResult r F (IsBetween c row) → IfErr r (λ i. Above c (drop i row))
not_found_above (Ok i) c row F h = tt
not_found_above (Err i) c row F h = above_place c i row h

-- whether a search found the column is whether the row has it
pub found_is : (r : Result ℕ ℕ) (c : ℕ) (row : List ℕ)
    → IfOk r (λ i. (i < length row) × (get_or row i 0 ≡ c)) → IfErr r (λ i. Below c (take i row))
    → IfErr r (λ i. Above c (drop i row)) → is_ok r ≡ is_in row c
found_is (Ok i) c row held below above = sym (is_in_held c i row held.0 held.1)
found_is (Err i) c row held below above = sym (is_in_between c i row below above)

-- how many columns lie below c, where those do that stand before a place, and no others
count_before : (c i : ℕ) (row : List ℕ) → i ≤ length row → Below c (take i row)
    → All (λ x. c ≤ x) (drop i row) → count_by (λ x. ltb x c) row ≡ i
count_before c zero [] le below above = refl
count_before c zero (x ∷ row) le below above =
    rw (sum_by-cons (λ y. cond (ltb y c) 1 0) x row, le-ltb x c (All-head (λ y. c ≤ y) x row above))
    (ap (λ n. 0 + n) (count_before c zero row zero-le (λ j d lt. absurd (omega (arith, lt)))
    (All-tail (λ y. c ≤ y) x row above)))
count_before c (suc i) [] le below above = absurd (omega arith)
count_before c (suc i) (x ∷ row) le below above =
    let rest : count_by (λ y. ltb y c) row ≡ i = count_before c i row (omega arith)
    (All-tail (λ y. y < c) x (take i row) below) above in
    rw (
      sum_by-cons (λ y. cond (ltb y c) 1 0) x row,
      lt-ltb x c (All-head (λ y. y < c) x (take i row) below),
    ) (omega (arith, rest))

-- the place of a column counts the lower ones
pub place_counts : (r : Result ℕ ℕ) (c i : ℕ) (row : List ℕ) → IsStrictlyIncreasing row
    → IfOk r (λ j. (j < length row) × (get_or row j 0 ≡ c)) → IfErr r (λ j. j ≤ length row)
    → IfErr r (λ j. Below c (take j row)) → IfErr r (λ j. Above c (drop j row))
    → (r ≡ Ok i) ⊎ (r ≡ Err i) → (i ≤ length row) × (i ≡ count_by (λ x. ltb x c) row)
place_counts (Ok j) c i row rising held bound below above (inl e) =
    let j_is : j ≡ i = cc in
    let lt : i < length row = rw j_is at held.0 in
    let found : get_or row i 0 ≡ c = rw j_is at held.1 in
    let low : Below c (take i row) = rw found at (before_place row i rising lt) in
    let high : All (λ x. c ≤ x) (drop i row) = All-from_get_or (λ x. c ≤ x) (drop i row) 0
    (λ q inside. let room : i + q < length row = omega (arith, inside, length-drop i row) in
    let h : get_or row i 0 ≤ get_or row (i + q) 0 = rising_places row rising i (i + q) (omega arith)
    room in
    rw (get_or-drop i row q 0) (omega (arith, found))) in
    (omega arith, sym (count_before c i row (omega arith) low high))
place_counts (Ok j) c i row rising held bound below above (inr e) = absurd (cc)
place_counts (Err j) c i row rising held bound below above (inl e) = absurd (cc)
place_counts (Err j) c i row rising held bound below above (inr e) =
    let j_is : j ≡ i = cc in
    let le : i ≤ length row = rw j_is at bound in
    let low : Below c (take i row) = rw j_is at below in
    let high : Above c (drop i row) = rw j_is at above in (
      le,
      sym (count_before c i row le low (λ q d lt. let h : c < get_or (drop i row) q d = high q d
          lt in omega arith)),
    )
