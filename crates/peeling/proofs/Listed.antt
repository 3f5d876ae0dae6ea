-- The list of what became known.
use mathlib.Core.Path.{fun_ext}
use Rattle.std.proofs.Common.{◌≡◌, ℕ, zero, suc, ◌+◌, ◌<◌, ◌≤◌, ⊎_elim, Bool, true, false, not}
use Rattle.std.proofs.Common.{cond, ◌||◌, ◌&&◌, ◌==◌, List, [], ◌∷◌, ◌++◌, length, get_or, take}
use Rattle.std.proofs.Common.{drop, count_by, refl, sym, ap, ap₂, ◌∙◌, subst, arith, true≢false}
use Rattle.std.proofs.Common.{eqb-true, eq-eqb, length-append, length-take, eq-or-lt_of_le, suc-add}
use Rattle.std.proofs.Common.{le_refl}
use Rattle.std.specs.List.{range_with_len}
use Rattle.std.specs.Ordering.{nat_cmp}
use Rattle.std.proofs.lemmas.Map.Keys.{ge_from_not_lt}
use Rattle.std.specs.List.Sorted.{IsPermutation, IsSorted, IsStrictlyIncreasing}
use Rattle.std.proofs.Math.Seq.{take-append_seam, get_or-append_seam, take-length}
use Rattle.std.proofs.lemmas.Bool.{cases_lt}
use Rattle.std.proofs.lemmas.List.{take-append-le, get_or_append_left, take_more, take_all}
use Rattle.std.proofs.lemmas.List.{get_or-take}
use Rattle.std.proofs.lemmas.List.Folds.{list_any-append}
use Rattle.std.proofs.lemmas.List.Sums.{sum_by-cons, sum_by-append}
use Rattle.std.proofs.lemmas.List.Sorted.{sum_by-IsPermutation, IsPermutation-refl}
use Rattle.sparse_rows.specs.Closure.{Set, members, adding}
use Rattle.sparse_rows.specs.Matrix.{is_in}
use Rattle.sparse_rows.proofs.Sets.{or_none, or_first, or_second, same_test, true_or_false, any_at}
use Rattle.sparse_rows.proofs.Null.{members_rise, members_in, passes, in_at}
use Rattle.sparse_rows.proofs.Increasing.{rising_same}
use Rattle.sparse_rows.proofs.Symbols.{take_take}
use Rattle.peeling.specs.Worklist.{with_all, IsListed}

-- ---- one column more

with_all_push : (s : Set) (list : List ℕ) (d : ℕ) → (c : ℕ)
    → with_all s (list ++ d ∷ []) c ≡ (with_all s list c || (d == c))
with_all_push s list d c = ap (λ b. s c || b) (list_any-append (λ e. e == c) list (d ∷ [])
    ∙ ap (λ b. is_in list c || b) (or_none (d == c))) ∙ sym (assoc (s c) (is_in list c) (d == c))
  where
    assoc : (a b e : Bool) → ((a || b) || e) ≡ (a || (b || e))
    assoc true b e = refl
    assoc false b e = refl

pub listed_push : (before : Set) (list : List ℕ) (known : Set) (d : ℕ) → known d ≡ false
    → IsListed before list known → IsListed before (list ++ d ∷ []) (adding d known)
listed_push before list known d unknown h = record {
  all = λ c. ap (λ b. b || (d == c)) (h.all c) ∙ sym (with_all_push before list d c);
  once = λ i lt. ⊎_elim (λ here. old i here) (λ le. last i (omega (arith, lt, long)))
      (cases_lt i (length list));
}
  where
    long : length (list ++ d ∷ []) ≡ length list + 1
    long = length-append list (d ∷ [])

    old : (i : ℕ) → i < length list
        → with_all before (take i (list ++ d ∷ [])) (get_or (list ++ d ∷ []) i 0) ≡ false
    old i lt = ap₂ (with_all before) (take-append-le i list (d ∷ []) (omega arith))
        (get_or_append_left list (d ∷ []) 0 i lt) ∙ h.once i lt

    last : (i : ℕ) → (i ≡ length list)
        → with_all before (take i (list ++ d ∷ [])) (get_or (list ++ d ∷ []) i 0) ≡ false
    last i e = subst (λ j. with_all before (take j (list ++ d ∷ [])) (get_or (list ++ d ∷ []) j 0)
        ≡ false) (sym e)
        (ap₂ (with_all before) (take-append_seam list (d ∷ [])) (get_or-append_seam list d [] 0)
        ∙ sym (h.all d) ∙ unknown)

-- the first column
pub listed_one : (before : Set) (e : ℕ) → before e ≡ false
    → IsListed before (e ∷ []) (adding e before)
listed_one before e unknown = listed_push before [] before e unknown
    (record { all = λ c. sym (or_none (before c)); once = λ i lt. absurd (omega (arith, lt)) })

-- ---- the list is worked off

-- one column further
pub with_next : (s : Set) (list more : List ℕ) (head c : ℕ) → head < length list
    → c ≡ get_or list head 0 → take (length list) more ≡ list
    → adding c (with_all s (take head list)) ≡ with_all s (take (head + 1) more)
with_next s list more head c lt is front = fun_ext (λ d. sym (with_all_push s (take head list) c d)
    ∙ ap (λ (xs : List ℕ). with_all s xs d) (sym whole))
  where
    first : take (head + 1) more ≡ take (head + 1) list
    first = sym (take_take (head + 1) (length list) more (omega arith)) ∙ ap (take (head + 1)) front

    whole : take (head + 1) more ≡ take head list ++ c ∷ []
    whole = first ∙ take_more list head 0 lt ∙ ap (λ (x : ℕ). take head list ++ x ∷ []) (sym is)

-- nothing is worked off
pub with_none : (s : Set) (list : List ℕ) → with_all s (take 0 list) ≡ s
with_none s list = fun_ext (λ c. or_none (s c))

-- all is worked off
pub with_known : (before : Set) (list : List ℕ) (known : Set) (head : ℕ) → length list ≤ head
    → IsListed before list known → with_all before (take head list) ≡ known
with_known before list known head le h =
    fun_ext (λ c. ap (λ (xs : List ℕ). with_all before xs c) (take_all head list le)
    ∙ sym (h.all c))

-- ---- in rising order

-- how often a column stands in a list
abbrev pub times : ℕ → List ℕ → ℕ
times c xs = count_by (λ d. d == c) xs

times_in : (c : ℕ) (xs : List ℕ) → is_in xs c ≡ true → 1 ≤ times c xs
times_in c [] e = absurd (cc)
times_in c (x ∷ xs) e = rw (sum_by-cons (λ d. cond (d == c) 1 0) x xs)
    (by_case (x == c) refl (times_in c xs))
  where
    by_case : (b : Bool) → (x == c) ≡ b → (is_in xs c ≡ true → 1 ≤ times c xs)
        → 1 ≤ cond (x == c) 1 0 + times c xs
    by_case true f ih = rw f (omega arith)
    by_case false f ih = let tail : 1 ≤ times c xs = ih (rw f at e) in rw f (omega (arith, tail))

times_out : (c : ℕ) (xs : List ℕ) → is_in xs c ≡ false → times c xs ≡ 0
times_out c [] e = refl
times_out c (x ∷ xs) e = rw (sum_by-cons (λ d. cond (d == c) 1 0) x xs)
    (by_case (x == c) refl (times_out c xs))
  where
    by_case : (b : Bool) → (x == c) ≡ b → (is_in xs c ≡ false → times c xs ≡ 0)
        → cond (x == c) 1 0 + times c xs ≡ 0
    by_case true f ih = absurd (true≢false (sym (or_first (x == c) (is_in xs c) f) ∙ e))
    by_case false f ih = let tail : times c xs ≡ 0 = ih (rw f at e) in rw f (omega (arith, tail))

-- a column that stands in two places next to one another
times_pair : (c : ℕ) (xs : List ℕ) (k : ℕ) → k + 1 < length xs → get_or xs k 0 ≡ c
    → get_or xs (k + 1) 0 ≡ c → 2 ≤ times c xs
times_pair c [] k lt e f = absurd (omega (arith, lt))
times_pair c (x ∷ []) k lt e f = absurd (omega (arith, lt))
times_pair c (x ∷ y ∷ xs) zero lt e f =
    rw (
      sum_by-cons (λ d. cond (d == c) 1 0) x (y ∷ xs),
      sum_by-cons (λ d. cond (d == c) 1 0) y xs,
      eq-eqb x c e,
      eq-eqb y c f,
    ) (omega arith)
times_pair c (x ∷ y ∷ xs) (suc k) lt e f =
    let tail : 2 ≤ times c (y ∷ xs) = times_pair c (y ∷ xs) k (omega (arith, lt)) e
    (rw suc-add at f) in
    rw (sum_by-cons (λ d. cond (d == c) 1 0) x (y ∷ xs)) (omega (arith, tail))

-- a list whose columns are each new stands for each once
module _ (list : List ℕ) (once : (i : ℕ) → i < length list → is_in (take i list) (get_or list i 0)
    ≡ false) where
  times_front : (c i : ℕ) → i ≤ length list → times c (take i list) ≤ 1
  times_front c zero le = omega arith
  times_front c (suc i) le =
      let next : suc i ≡ i + 1 = omega arith in
      let parts : take (suc i) list ≡ take i list ++ get_or list i 0 ∷ [] =
      ap (λ k. take k list) next ∙ take_more list i 0 le in
      let sum : times c (take (suc i) list) ≡ times c (take i list) + cond (get_or list i 0 == c) 1
      0 =
      ap (times c) parts ∙ sum_by-append (λ d. cond (d == c) 1 0) (take i list)
      (get_or list i 0 ∷ []) ∙ ap (λ n. times c (take i list) + n)
      (sum_by-cons (λ d. cond (d == c) 1 0) (get_or list i 0) [] ∙ omega arith) in
      by_case (get_or list i 0 == c) refl sum (times_front c i (omega arith))
    where
      by_case : (b : Bool) → (get_or list i 0 == c) ≡ b
          → times c (take (suc i) list) ≡ times c (take i list) + cond (get_or list i 0 == c) 1 0
          → times c (take i list) ≤ 1 → times c (take (suc i) list) ≤ 1
      by_case true e sum ih =
          let none : times c (take i list) ≡ 0 = times_out c (take i list)
          (subst (λ d. is_in (take i list) d ≡ false) (eqb-true _ _ e) (once i le)) in
          let more : times c (take (suc i) list) ≡ times c (take i list) + 1 = rw e at sum in
          omega arith
      by_case false e sum ih = let more : times c (take (suc i) list) ≡ times c (take i list) + 0 =
          rw e at sum in omega arith

  pub times_all : (c : ℕ) → times c list ≤ 1
  times_all c = subst (λ (xs : List ℕ). times c xs ≤ 1) (take-length list)
      (times_front c (length list) (le_refl (length list)))

-- in an order that doesn't fall, columns that stand once rise
rises_once : (xs : List ℕ) → ((k : ℕ) → k + 1 < length xs → get_or xs k 0 ≤ get_or xs (k + 1) 0)
    → ((c : ℕ) → times c xs ≤ 1) → IsStrictlyIncreasing xs
rises_once xs order once k lt = ⊎_elim
    (λ (e : get_or xs k 0 ≡ get_or xs (k + 1) 0). absurd (let two : 2 ≤ times (get_or xs (k + 1) 0)
    xs = times_pair (get_or xs (k + 1) 0) xs k lt e refl in
    let one : times (get_or xs (k + 1) 0) xs ≤ 1 = once (get_or xs (k + 1) 0) in omega arith))
    (λ (less : get_or xs k 0 < get_or xs (k + 1) 0). less) (eq-or-lt_of_le (order k lt))

-- lists with as many of each column have the same columns
same_times : (xs ys : List ℕ) → ((c : ℕ) → times c xs ≡ times c ys) → (c : ℕ) → is_in xs c ≡ true
    → is_in ys c ≡ true
same_times xs ys h c e = ⊎_elim (λ f. f)
    (λ f. absurd (let some : 1 ≤ times c xs = times_in c xs e in let none : times c ys
    ≡ 0 = times_out c ys f in omega (arith, h c))) (true_or_false (is_in ys c))

-- the list without its first column, in rising order, has what became known beside it
pub sorted_members : (n : ℕ) (before known : Set) (e : ℕ) (tail sorted : List ℕ)
    → IsListed before (e ∷ tail) known → ((c : ℕ) → n ≤ c → known c ≡ false)
    → IsPermutation tail sorted → ((k : ℕ) → k + 1 < length sorted
    → get_or sorted k 0 ≤ get_or sorted (k + 1) 0)
    → sorted ≡ members n (λ c. known c && not (adding e before c))
sorted_members n before known e tail sorted h past permuted order =
    rising_same sorted (members n new) (rises_once sorted order (λ c. rw (same c) (tail_once c)))
    (members_rise n new) (λ c. same_test _ _
    (λ f. let g : is_in tail c ≡ true = same_times sorted tail same c f in
    let k : new c ≡ true = tail_new c g in
    members_in n new c (⊎_elim (λ lt. lt)
    (λ le. absurd (true≢false (sym (and_first (known c) (not (adding e before c)) k)
    ∙ past c le))) (cases_lt c n)) k)
    (λ f. same_times tail sorted (λ d. sym (same d)) c
    (new_tail c (passes new (range_with_len 0 n) c f))))
  where
    new : Set
    new c = known c && not (adding e before c)

    same : (c : ℕ) → times c sorted ≡ times c tail
    same c = sum_by-IsPermutation (λ d. cond (d == c) 1 0) tail sorted permuted

    -- columns of the tail are others than the first, and were not before
    at : (i : ℕ) → i < length tail → with_all before (e ∷ take i tail) (get_or tail i 0) ≡ false
    at i lt = h.once (suc i) (omega (arith, lt))

    or_left : (a b : Bool) → (a || b) ≡ false → a ≡ false
    or_left true b f = f
    or_left false b f = refl

    or_right : (a b : Bool) → (a || b) ≡ false → b ≡ false
    or_right true b f = absurd (true≢false f)
    or_right false b f = f

    and_first : (a b : Bool) → (a && b) ≡ true → a ≡ true
    and_first true b f = refl
    and_first false b f = f

    tail_once : (c : ℕ) → times c tail ≤ 1
    tail_once = times_all tail (λ i lt. or_right (e == get_or tail i 0) _
        (or_right (before (get_or tail i 0)) _ (at i lt)))

    tail_new : (c : ℕ) → is_in tail c ≡ true → new c ≡ true
    tail_new c f =
        let r = any_at (λ d. d == c) 0 tail f in
        let z : get_or tail r.0 0 ≡ c = eqb-true _ _ r.2 in
        subst (λ d. new d ≡ true) z (ap₂ (λ a b. a && not b)
        (h.all (get_or tail r.0 0) ∙ or_second (before (get_or tail r.0 0)) _
        (or_second (e == get_or tail r.0 0) _ (in_at tail r.0 0 r.1)))
        (ap₂ ◌||◌ (or_left (before (get_or tail r.0 0)) _ (at r.0 r.1))
        (or_left (e == get_or tail r.0 0) _ (or_right (before (get_or tail r.0 0)) _
        (at r.0 r.1)))))

    new_tail : (c : ℕ) → new c ≡ true → is_in tail c ≡ true
    new_tail c f = by_case (before c) (e == c) (is_in tail c)
        (sym (ap (λ b. b && not (adding e before c)) (h.all c)) ∙ f)
      where
        by_case : (a b d : Bool) → ((a || (b || d)) && not (a || b)) ≡ true → d ≡ true
        by_case true b d g = absurd (true≢false (sym g))
        by_case false true d g = absurd (true≢false (sym g))
        by_case false false true g = refl
        by_case false false false g = g

-- ---- a list that grows behind

pub front_on : (start middle later : List ℕ) → take (length start) middle ≡ start
    → take (length middle) later ≡ middle → take (length start) later ≡ start
front_on start middle later first next =
    let less : length start ≤ length middle =
    omega (arith, ap length first, length-take (length start) middle) in
    sym (take_take (length start) (length middle) later less) ∙ ap (take (length start)) next
    ∙ first

pub front_longer : (list more : List ℕ) → take (length list) more ≡ list → length list ≤ length more
front_longer list more front = omega (arith, ap length front, length-take (length list) more)

pub front_first : (list more : List ℕ) → 0 < length list → take (length list) more ≡ list
    → get_or more 0 0 ≡ get_or list 0 0
front_first list more some front = sym (get_or-take (length list) more 0 0 some)
    ∙ ap (λ (xs : List ℕ). get_or xs 0 0) front

-- ---- sorted without its first column

pub sorted_list : (n : ℕ) (before known : Set) (list rest sorted : List ℕ) → 0 < length list
    → IsListed before list known → ((c : ℕ) → n ≤ c → known c ≡ false)
    → rest ≡ take 0 list ++ drop 1 list
    → IsPermutation rest sorted → IsSorted nat_cmp sorted
    → sorted ≡ members n (λ c. known c && not (adding (get_or list 0 0) before c))
sorted_list n before known [] rest sorted some h past rest_is permuted order =
    absurd (omega (arith, some))
sorted_list n before known (e ∷ tail) rest sorted some h past rest_is permuted order =
    sorted_members n before known e tail sorted h past
    (subst (λ (xs : List ℕ). IsPermutation xs sorted) rest_is permuted)
    (λ k lt. ge_from_not_lt _ _ (order k 0 (omega arith) lt))

-- what is listed is known
pub listed_known : (before : Set) (list : List ℕ) (known : Set) (i : ℕ) → IsListed before list known
    → i < length list → known (get_or list i 0) ≡ true
listed_known before list known i h lt = h.all (get_or list i 0)
    ∙ or_second (before (get_or list i 0)) (is_in list (get_or list i 0)) (in_at list i 0 lt)

-- a list of the arrival alone has nothing beside it
pub listed_alone : (n : ℕ) (before known : Set) (list cleared : List ℕ) → length list ≡ 1
    → IsListed before list known → ((c : ℕ) → n ≤ c → known c ≡ false) → cleared ≡ []
    → cleared ≡ members n (λ c. known c && not (adding (get_or list 0 0) before c))
listed_alone n before known [] cleared one h past none = absurd (omega (arith, one))
listed_alone n before known (e ∷ []) cleared one h past none = none ∙ sorted_list n before known
    (e ∷ []) [] [] (omega arith) h past refl (IsPermutation-refl [])
    (λ k d lt next. absurd (omega (arith, next)))
listed_alone n before known (e ∷ d ∷ list) cleared one h past none = absurd (omega (arith, one))
