-- The items of a list whose places pass a test.
use Rattle.std.proofs.Common.{◌≡◌, ℕ, zero, suc, ◌+◌, ◌<◌, Bool, true, false, cond, List, [], ◌∷◌}
use Rattle.std.proofs.Common.{◌++◌, length, get_or, take, map, filter, All, refl, sym, ap, ◌∙◌}
use Rattle.std.proofs.Common.{arith}
use Rattle.std.specs.List.{enumerate_from}
use Rattle.std.proofs.lemmas.List.{map-append}
use Rattle.std.proofs.lemmas.List.Elements.{All-cons, All-head, All-nil, All-tail, filter_more}
use Rattle.std.proofs.lemmas.List.FromFn.{get_or-enumerate_from, length-enumerate_from}
use Rattle.loss_runs.specs.Trials.{items_where}

-- an item with its place
abbrev place : ℕ × ℕ → ℕ
place p = p.0

abbrev item : ℕ × ℕ → ℕ
item p = p.1

take-enumerate : (n i : ℕ) (xs : List ℕ)
    → take i (enumerate_from n xs) ≡ enumerate_from n (take i xs)
take-enumerate n zero xs = refl
take-enumerate n (suc i) [] = refl
take-enumerate n (suc i) (x ∷ xs) = ap (λ l. (n, x) ∷ l) (take-enumerate (n + 1) i xs)

map_cond : (b : Bool) (p : ℕ × ℕ) → map item (cond b (p ∷ []) []) ≡ cond b (p.1 ∷ []) []
map_cond true p = refl
map_cond false p = refl

-- one item more
pub items_more : (test : ℕ → Bool) (xs : List ℕ) (i d : ℕ) → i < length xs
    → items_where test (take (i + 1) xs)
    ≡ items_where test (take i xs) ++ cond (test i) (get_or xs i d ∷ []) []
items_more test xs i d lt =
    let pairs : List (ℕ × ℕ) = enumerate_from 0 xs in
    let passes : ℕ × ℕ → Bool = λ p. test p.0 in
    let here : get_or pairs i (0, d) ≡ (i, get_or xs i d) =
    get_or-enumerate_from 0 xs i (0, d) lt
    ∙ ap (λ (k : ℕ). (k, get_or xs i d)) (let e : 0 + i ≡ i = omega arith in e) in
    let long : i < length pairs = omega (arith, lt, length-enumerate_from 0 xs) in
    let front : take (i + 1) pairs ≡ enumerate_from 0 (take (i + 1) xs) = take-enumerate 0 (i + 1)
    xs in
    let before : take i pairs ≡ enumerate_from 0 (take i xs) = take-enumerate 0 i xs in
    ap (λ l. map item (filter passes l)) (sym front)
    ∙ ap (map item) (filter_more passes pairs i (0, d) long)
    ∙ map-append item (filter passes (take i pairs))
    (cond (passes (get_or pairs i (0, d))) (get_or pairs i (0, d) ∷ []) [])
    ∙ ap (λ l. map item (filter passes l)
    ++ map item (cond (passes (get_or pairs i (0, d))) (get_or pairs i (0, d) ∷ []) [])) before
    ∙ ap (λ (p : ℕ × ℕ). items_where test (take i xs) ++ map item (cond (passes p) (p ∷ []) []))
    here
    ∙ ap (λ l. items_where test (take i xs) ++ l) (map_cond (test i) (i, get_or xs i d))

-- what holds of all items holds of these
all_from : (P : ℕ → Type 0) (test : ℕ → Bool) (n : ℕ) (xs : List ℕ) → All P xs
    → All P (map item (filter (λ p. test p.0) (enumerate_from n xs)))
all_from P test n [] all = All-nil P
all_from P test n (x ∷ xs) all = by_case (test n)
    (all_from P test (n + 1) xs (All-tail P x xs all)) where
      by_case : (b : Bool) → All P (map item (filter (λ p. test p.0) (enumerate_from (n + 1) xs)))
          → All P (map item (cond b ((n, x) ∷ filter (λ p. test p.0) (enumerate_from (n + 1) xs))
          (filter (λ p. test p.0) (enumerate_from (n + 1) xs))))
      by_case true tail = All-cons P x
          (map item (filter (λ p. test p.0) (enumerate_from (n + 1) xs)))
          (All-head P x xs all) tail
      by_case false tail = tail

pub items_all : (P : ℕ → Type 0) (test : ℕ → Bool) (xs : List ℕ) → All P xs
    → All P (items_where test xs)
items_all P test xs all = all_from P test 0 xs all
