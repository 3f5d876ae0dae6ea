-- Rows to choose from, with a count for each row, as they are made and as one is taken.
use Rattle.std.proofs.Common.{◌≡◌, ℕ, zero, suc, ◌+◌, ◌-◌, ◌%◌, ◌<◌, ◌≤◌, Bool, true, false, cond}
use Rattle.std.proofs.Common.{eq-eqb, ◌==◌, List, [], ◌∷◌, ◌++◌, length, map, get_or, set, drop}
use Rattle.std.proofs.Common.{count_by, replicate, All, refl, sym, ap, ◌∙◌, subst, arith}
use Rattle.std.proofs.Common.{length-set, length-drop}
use Rattle.std.specs.List.{sum_by, range_with_len}
use Rattle.std.proofs.lemmas.Bool.{eqb-true}
use Rattle.std.proofs.lemmas.List.{get_or-drop, get_or-set_same, get_or-set_other, get_or_read}
use Rattle.std.proofs.lemmas.List.{get_or-replicate, length-replicate, drop-set-add}
use Rattle.std.proofs.lemmas.List.Elements.{All-nil, All-get_or, All-drop, All-set, All-push}
use Rattle.std.proofs.lemmas.List.FromFn.{map-range_with_len_more, length-map-range_with_len}
use Rattle.std.proofs.lemmas.List.Sums.{sum_by-set, sum_by_push, sum_by-drop_more}
use Rattle.std.proofs.lemmas.List.Sums.{count_by-le-length}
use Rattle.park_miller.specs.declared.generator.TheConstants.{MAX_BOUND}
use Rattle.staircase.specs.LeftSide.{without}
use Rattle.staircase.specs.Choices.{IsCounted}

-- the first item is at its place after it went to any
first_stays : (xs : List ℕ) (i : ℕ) → i < length xs → get_or (set xs i (get_or xs 0 0)) 0 0
    ≡ get_or xs 0 0
first_stays xs zero lt = get_or-set_same xs 0 (get_or xs 0 0) 0 lt
first_stays xs (suc i) lt = get_or-set_other xs (suc i) 0 (get_or xs 0 0) 0
    (λ e. absurd (omega arith))

-- a sum over the items loses the one that was taken
pub sum_by-without : (f : ℕ → ℕ) (xs : List ℕ) (i : ℕ) → i < length xs
    → sum_by f (without xs i) + f (get_or xs i 0) ≡ sum_by f xs
sum_by-without f xs i lt =
    let moved : List ℕ = set xs i (get_or xs 0 0) in
    let front : sum_by f moved ≡ f (get_or moved 0 0) + sum_by f (drop 1 moved) =
    sum_by-drop_more f moved 0 0 (omega (arith, length-set xs i (get_or xs 0 0))) in
    let first : f (get_or moved 0 0) ≡ f (get_or xs 0 0) = ap f (first_stays xs i lt) in
    let changed : sum_by f moved + f (get_or xs i 0) ≡ sum_by f xs + f (get_or xs 0 0) =
    sum_by-set f xs i (get_or xs 0 0) 0 lt in
    omega arith

pub All-without : (P : ℕ → Type 0) (xs : List ℕ) (i : ℕ) → i < length xs → All P xs
    → All P (without xs i)
All-without P xs i lt all = All-drop P 1 _
    (All-set P xs i (get_or xs 0 0) (All-get_or P xs 0 0 (omega arith) all) all)

pub length-without : (xs : List ℕ) (i : ℕ) → length (without xs i) ≡ length xs - 1
length-without xs i = length-drop 1 (set xs i (get_or xs 0 0))
    ∙ ap (λ n. n - 1) (length-set xs i (get_or xs 0 0))

drop-drop : (n : ℕ) (xs : List ℕ) → drop (n + 1) xs ≡ drop 1 (drop n xs)
drop-drop zero xs = refl
drop-drop (suc n) [] = let more : suc n + 1 ≡ suc (n + 1) = omega arith in rw more refl
drop-drop (suc n) (x ∷ xs) = let more : suc n + 1 ≡ suc (n + 1) = omega arith in
    rw more (drop-drop n xs)

module _ (first : ℕ) (items counts : List ℕ) (counted : IsCounted first items counts) (i : ℕ)
    (inside : i < length (drop first items)) (row front : ℕ) (read : row ≡ get_or items (first + i)
    row) (read_front : front ≡ get_or items first front) where
  abbrev rest : List ℕ
  rest = drop first items

  within : first + i < length items
  within = omega (arith, length-drop first items, inside)

  -- the row at the place, and the first one
  pub row_is : row ≡ get_or rest i 0
  row_is = get_or_read items (first + i) row within read 0 ∙ sym (get_or-drop first items i 0)

  front_is : front ≡ get_or rest 0 0
  front_is = get_or_read items first front (omega (arith, within)) read_front 0
      ∙ (let at : first ≡ first + 0 = omega arith in ap (λ j. get_or items j 0) at)
      ∙ sym (get_or-drop first items 0 0)

  pub row_below : row < length counts
  row_below = subst (λ r. r < length counts) (sym row_is) (All-get_or (λ r. r < length counts) rest
      i 0 inside counted.below)

  -- what is left
  pub rest_is : drop (first + 1) (set items (first + i) front) ≡ without rest i
  rest_is = drop-drop first (set items (first + i) front)
      ∙ ap (drop 1) (drop-set-add first items i front ∙ ap (set rest i) front_is)

  -- how often a row is left then
  one_less : (r : ℕ) → count_by (λ x. x == r) (without rest i) + cond (row == r) 1 0
      ≡ count_by (λ x. x == r) rest
  one_less r = rw row_is (sum_by-without (λ x. cond (x == r) 1 0) rest i inside)

  module _ (count : ℕ) (read_count : count ≡ get_or counts row count) where
    count_is : count ≡ count_by (λ x. x == row) rest
    count_is = get_or_read counts row count row_below read_count 0 ∙ counted.counted row row_below

    taken_count : count_by (λ x. x == row) (without rest i) + 1 ≡ count
    taken_count = (rw (eq-eqb row row refl) at (one_less row)) ∙ sym count_is

    pub positive : 1 ≤ count
    positive = omega (arith, taken_count)

    counted_at : (r : ℕ) → r < length counts → (b : Bool) → (row == r) ≡ b
        → get_or (set counts row (count - 1)) r 0 ≡ count_by (λ x. x == r) (without rest i)
    counted_at r lt true e =
        let same : row ≡ r = eqb-true row r e in
        subst (λ q. get_or (set counts row (count - 1)) q 0 ≡ count_by (λ x. x == q)
        (without rest i)) same
        (get_or-set_same counts row (count - 1) 0 row_below
        ∙ (let less : count - 1 ≡ count_by (λ x. x == row) (without rest i) = omega
        (arith, taken_count) in less))
    counted_at r lt false e =
        let kept : count_by (λ x. x == r) (without rest i) ≡ count_by (λ x. x == r) rest =
        omega (arith, rw e at (one_less r)) in
        get_or-set_other counts row r (count - 1) 0
        (λ same. absurd (cc (e, eq-eqb row r (sym same)))) ∙ counted.counted r lt ∙ sym kept

    pub taken : IsCounted (first + 1) (set items (first + i) front) (set counts row (count - 1))
    taken = record {
      within = omega (arith, within, length-set items (first + i) front);
      most = rw length-set counted.most;
      few = rw length-set counted.few;
      below = rw (length-set, rest_is) (All-without (λ r. r < length counts) rest i inside
          counted.below);
      counted = λ r lt. rw rest_is (counted_at r (rw length-set at lt) (row == r) refl);
    }

-- the rows in a circle, so many of them, and how often each has come
pub record IsCircle (rows many : ℕ) (items counts : List ℕ) : Type 0 where
  pub circle : items ≡ map (λ h. h % rows) (range_with_len 0 many)
  pub below : All (λ row. row < rows) items
  pub count : length counts ≡ rows
  pub counted : (r : ℕ) → r < rows → get_or counts r 0 ≡ count_by (λ row. row == r) items

pub circle_begins : (rows : ℕ) (items counts : List ℕ) → items ≡ [] → counts ≡ replicate rows 0
    → IsCircle rows 0 items counts
circle_begins rows items counts none zeros = record {
  circle = none;
  below = rw none (All-nil (λ row. row < rows));
  count = rw zeros (length-replicate rows 0);
  counted = λ r lt. rw (none, zeros) (get_or-replicate rows r 0 0 lt);
}

module _ (rows many : ℕ) (items counts : List ℕ) (so_far : IsCircle rows many items counts)
    (some : 1 ≤ rows) where
  abbrev row : ℕ
  row = many % rows

  pub many_is : length items ≡ many
  many_is = ap length so_far.circle ∙ length-map-range_with_len (λ h. h % rows) 0 many

  pub row_inside : many % rows < length counts
  row_inside = omega (arith, so_far.count)

  module _ (count : ℕ) (read : count ≡ get_or counts (many % rows) count) where
    count_now : count ≡ count_by (λ x. x == row) items
    count_now = get_or_read counts row count row_inside read 0 ∙ so_far.counted row (omega arith)

    pub count_bound : count ≤ many
    count_bound = omega (arith, count_now, many_is, count_by-le-length (λ x. x == row) items)

    counts_at : (r : ℕ) → r < rows → (b : Bool) → (row == r) ≡ b
        → get_or (set counts row (count + 1)) r 0 ≡ count_by (λ x. x == r) (items ++ row ∷ [])
    counts_at r lt true e =
        let same : row ≡ r = eqb-true row r e in
        subst (λ q. get_or (set counts row (count + 1)) q 0 ≡ count_by (λ x. x == q)
        (items ++ row ∷ [])) same
        (get_or-set_same counts row (count + 1) 0 row_inside
        ∙ (let more : count_by (λ x. x == row) (items ++ row ∷ []) ≡ count_by (λ x. x == row)
        items + 1 = rw (eq-eqb row row refl) at (sum_by_push (λ x. cond (x == row) 1 0) items
        row) in omega (arith, count_now)))
    counts_at r lt false e =
        let kept : count_by (λ x. x == r) (items ++ row ∷ []) ≡ count_by (λ x. x == r) items + 0 =
        rw e at (sum_by_push (λ x. cond (x == r) 1 0) items row) in
        get_or-set_other counts row r (count + 1) 0
        (λ same. absurd (cc (e, eq-eqb row r (sym same)))) ∙ so_far.counted r lt ∙ (omega arith)

    pub circle_goes_on : IsCircle rows (many + 1) (items ++ row ∷ []) (set counts row (count + 1))
    circle_goes_on = record {
      circle = ap (λ xs. xs ++ row ∷ []) so_far.circle
          ∙ sym (map-range_with_len_more (λ h. h % rows) 0 many many (omega arith));
      below = All-push (λ x. x < rows) items row so_far.below (omega arith);
      count = length-set counts row (count + 1) ∙ so_far.count;
      counted = λ r lt. counts_at r lt (row == r) refl;
    }

-- all of them are left
pub circle_counted : (rows many : ℕ) (items counts : List ℕ) → IsCircle rows many items counts
    → 1 ≤ rows → many ≤ MAX_BOUND → rows ≤ 65536 → IsCounted 0 items counts
circle_counted rows many items counts circle some most few = record {
  within = omega arith;
  most = omega (arith, many_is rows many items counts circle some);
  few = rw circle.count few;
  below = rw circle.count circle.below;
  counted = λ r lt. circle.counted r (rw circle.count at lt);
}
