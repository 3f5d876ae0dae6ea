-- Flags, as a set.
use mathlib.Core.Path.{fun_ext}
use Rattle.std.proofs.Common.{◌≡◌, ◌≢◌, ℕ, zero, suc, ◌+◌, ◌<◌, ⊎_elim, Bool, true, false, not}
use Rattle.std.proofs.Common.{cond, ◌==◌, List, [], ◌∷◌, ◌++◌, length, set, filter, replicate, refl}
use Rattle.std.proofs.Common.{sym, ap, ◌∙◌, subst, arith, eqb-true, eq-eqb, true≢false}
use Rattle.std.proofs.Common.{get_or-set_other, get_or-set_same, length-set, ◌≤◌}
use Rattle.std.proofs.lemmas.List.Sums.{sum_by-cons}
use Rattle.std.specs.List.{range_with_len}
use Rattle.std.proofs.lemmas.List.{map-id}
use Rattle.std.proofs.lemmas.List.Filters.{length-filter_both}
use Rattle.std.proofs.lemmas.List.FromFn.{filter_of_map_range_with_len_more, length-range_with_len}
use Rattle.sparse_rows.specs.Closure.{Set, flagged, HasSameMembers, members, adding}
use Rattle.peeling.specs.Lookups.{set_count}
use Rattle.peeling.specs.Peeled.{unset_count}
use Rattle.sparse_rows.proofs.Sets.{true_or_false, or_none, or_true}

-- one flag more
pub flagged_set : (flags : List Bool) (e : ℕ) → e < length flags
    → flagged (set flags e true) ≡ adding e (flagged flags)
flagged_set flags e lt = fun_ext (λ c. ⊎_elim
    (λ h. let z : e ≡ c = eqb-true e c h in
    subst (λ d. flagged (set flags e true) d ≡ adding e (flagged flags) d) z
    (rw (get_or-set_same, eq-eqb e e refl) (sym (or_true (flagged flags e)))))
    (λ h. let ne : c ≢ e = λ z. true≢false (sym (eq-eqb e c (sym z)) ∙ h) in
    rw (get_or-set_other, h) (sym (or_none (flagged flags c))))
    (true_or_false (e == c)))

-- no flags
pub flagged_none : (n : ℕ) → flagged (replicate n false) ≡ (λ c. false)
flagged_none n = fun_ext (λ c. at n c)
  where
    at : (n c : ℕ) → flagged (replicate n false) c ≡ false
    at zero c = refl
    at (suc n) zero = refl
    at (suc n) (suc c) = at n c

-- a flag that is set leaves one less
pub unset_less : (flags : List Bool) (e : ℕ) → e < length flags → flagged flags e ≡ false
    → unset_count (set flags e true) + 1 ≡ unset_count flags
unset_less [] e lt f = absurd (omega arith)
unset_less (b ∷ flags) zero lt f = rw (
  f,
  sum_by-cons (λ flag. cond (not flag) 1 0) true flags,
  sum_by-cons (λ flag. cond (not flag) 1 0) false flags,
) (omega arith)
unset_less (b ∷ flags) (suc e) lt f =
    let rest : unset_count (set flags e true) + 1 ≡ unset_count flags =
    unset_less flags e (omega arith) f in
    rw (
      sum_by-cons (λ flag. cond (not flag) 1 0) b (set flags e true),
      sum_by-cons (λ flag. cond (not flag) 1 0) b flags,
    ) (omega arith)

-- there are at most as many as flags
pub unset_most : (flags : List Bool) → unset_count flags ≤ length flags
unset_most [] = omega arith
unset_most (b ∷ flags) =
    let rest : unset_count flags ≤ length flags = unset_most flags in
    rw (sum_by-cons (λ flag. cond (not flag) 1 0) b flags) (by_case b rest)
  where
    by_case : (b : Bool) → unset_count flags ≤ length flags
        → cond (not b) 1 0 + unset_count flags ≤ length (b ∷ flags)
    by_case true rest = omega (arith, rest)
    by_case false rest = omega (arith, rest)

-- each flag is set or isn't
pub set_and_unset : (flags : List Bool) → set_count flags + unset_count flags ≡ length flags
set_and_unset [] = refl
set_and_unset (b ∷ flags) =
    let rest : set_count flags + unset_count flags ≡ length flags = set_and_unset flags in
    rw (
      sum_by-cons (λ flag. cond flag 1 0) b flags,
      sum_by-cons (λ flag. cond (not flag) 1 0) b flags,
    ) (by_case b rest)
  where
    by_case : (b : Bool) → set_count flags + unset_count flags ≡ length flags
        → cond b 1 0 + set_count flags + (cond (not b) 1 0 + unset_count flags) ≡ length (b ∷ flags)
    by_case true rest = omega (arith, rest)
    by_case false rest = omega (arith, rest)

-- one flag more
pub set_more : (flags : List Bool) (e : ℕ) → e < length flags → flagged flags e ≡ false
    → set_count (set flags e true) ≡ set_count flags + 1
set_more flags e lt f = omega (
  arith,
  unset_less flags e lt f,
  set_and_unset flags,
  set_and_unset (set flags e true),
  length-set flags e true,
)

-- a flag that was set
pub set_again : (flags : List Bool) (e : ℕ) → flagged flags e ≡ true → set flags e true ≡ flags
set_again [] e f = absurd (true≢false (sym f))
set_again (b ∷ flags) zero f = ap (λ a. a ∷ flags) (sym f)
set_again (b ∷ flags) (suc e) f = ap (λ xs. b ∷ xs) (set_again flags e f)

-- all of them
pub none_unset : (flags : List Bool) → ((c : ℕ) → c < length flags → flagged flags c ≡ true)
    → unset_count flags ≡ 0
none_unset [] all = refl
none_unset (b ∷ flags) all =
    let rest : unset_count flags ≡ 0 = none_unset flags (λ c lt. all (suc c) (omega arith)) in
    rw (sum_by-cons (λ flag. cond (not flag) 1 0) b flags, all 0 (omega arith), rest) refl

pub all_set : (flags : List Bool) → unset_count flags ≡ 0 → (c : ℕ) → c < length flags
    → flagged flags c ≡ true
all_set flags none c lt = ⊎_elim (λ f. f)
    (λ f. absurd (let less : unset_count (set flags c true) + 1 ≡ unset_count flags = unset_less
    flags c lt f in omega (arith, none))) (true_or_false (flagged flags c))

-- none
pub set_none : (n : ℕ) → set_count (replicate n false) ≡ 0
set_none zero = refl
set_none (suc n) = let rest : set_count (replicate n false) ≡ 0 = set_none n in
    rw (sum_by-cons (λ flag. cond flag 1 0) false (replicate n false)) (omega (arith, rest))

-- ---- the members of a set, as a list

-- sets with the same members are listed alike
pub members_same : (n : ℕ) (s t : Set) → HasSameMembers s t → members n s ≡ members n t
members_same n s t h = ap (members n) (fun_ext h)

-- one position more
pub members_more : (n : ℕ) (s : Set) → members (n + 1) s ≡ members n s ++ cond (s n) (n ∷ []) []
members_more n s =
    ap (filter s) (sym (map-id (range_with_len 0 (n + 1)))) ∙ filter_of_map_range_with_len_more s
    (λ c. c) 0 n n (omega arith)
    ∙ ap (λ (xs : List ℕ). filter s xs ++ cond (s n) (n ∷ []) []) (map-id (range_with_len 0 n))

-- there are at most n
pub members_few : (n : ℕ) (s : Set) → length (members n s) ≤ n
members_few n s =
    let both : length (filter s (range_with_len 0 n)) + length
    (filter (λ c. not (s c)) (range_with_len 0 n)) ≡ length (range_with_len 0 n) =
    length-filter_both s (λ c. not (s c)) (λ c. refl) (range_with_len 0 n) in
    omega (arith, both, length-range_with_len 0 n)
