-- A class of source symbols and a column behind it make a row.
use Rattle.std.proofs.Common.{◌≡◌, ℕ, ◌+◌, ◌<◌, ◌≤◌, cond, eq-eqb, ◌==◌, Bool, List, [], ◌∷◌, ◌++◌}
use Rattle.std.proofs.Common.{filter, length, get_or, take, drop, All, refl, sym, ap, ◌∙◌, subst}
use Rattle.std.proofs.Common.{arith, append_assoc, length-append}
use Rattle.std.specs.List.{range_with_len, Any}
use Rattle.std.specs.List.Sorted.{IsStrictlyIncreasing}
use Rattle.std.proofs.lemmas.List.{get_or_at, take-append-drop, drop_more}
use Rattle.std.proofs.lemmas.List.Elements.{All-nil, All-weaker, All-push, Contains-push}
use Rattle.std.proofs.lemmas.List.Elements.{filter-append}
use Rattle.std.proofs.lemmas.List.FromFn.{length-range_with_len, get_or-range_with_len}
use Rattle.std.proofs.lemmas.List.Kept.{IsStrictlyIncreasing-filter}
use Rattle.sparse_rows.specs.Matrix.{IsRow}
use Rattle.sparse_rows.proofs.Rising.{rising_between}
use Rattle.parity_2d.proofs.Classes.{class, class_below}

range_rises : (k : ℕ) → IsStrictlyIncreasing (range_with_len 0 k)
range_rises k i lt =
    let next : i + 1 < k = omega (arith, lt, length-range_with_len 0 k) in
    omega (
      arith,
      get_or-range_with_len 0 k i 0 (omega arith),
      get_or-range_with_len 0 k (i + 1) 0 next,
    )

-- a class is its symbols before a member, the member, and those after it
class_split : (class_of : ℕ → ℕ) (k i member : ℕ) → member < k → class_of member ≡ i
    → class class_of k i ≡ filter (λ x. class_of x == i) (take member (range_with_len 0 k))
    ++ member ∷ filter (λ x. class_of x == i) (drop (member + 1) (range_with_len 0 k))
class_split class_of k i member inside same =
    ap (filter own) (sym (take-append-drop member symbols))
    ∙ filter-append own (take member symbols) (drop member symbols)
    ∙ ap (λ xs. filter own (take member symbols) ++ xs) (ap (filter own) from_member
    ∙ ap (λ b. cond b (member ∷ filter own after) (filter own after))
    (eq-eqb (class_of member) i same))
  where
    own : ℕ → Bool
    own x = class_of x == i

    symbols : List ℕ
    symbols = range_with_len 0 k

    after : List ℕ
    after = drop (member + 1) symbols

    at_member : get_or symbols member 0 ≡ member
    at_member = omega (arith, get_or-range_with_len 0 k member 0 inside)

    from_member : drop member symbols ≡ member ∷ after
    from_member = drop_more symbols member 0 (omega (arith, length-range_with_len 0 k))
        ∙ ap (λ x. x ∷ after) at_member

-- a list with a member, and something behind it, has the member
any_between : (P : ℕ → Type 0) (row front back : List ℕ) (member last : ℕ)
    → row ≡ front ++ member ∷ back → P member → Any P (row ++ last ∷ [])
any_between P row front back member last split holds =
    subst (Any P) (sym (ap (λ xs. xs ++ last ∷ []) split ∙ append_assoc front (member ∷ back)
    (last ∷ []))) (
      length front,
      member,
      omega (arith, length-append front (member ∷ back ++ last ∷ [])),
      get_or_at front member (back ++ last ∷ []) member (length front) refl,
      holds,
    )

-- a class with a member, and a last column behind it, is a row
pub row_is : (class_of : ℕ → ℕ) (k i member last : ℕ) → member < k → class_of member ≡ i → k ≤ last
    → IsRow k last (class class_of k i ++ last ∷ [])
row_is class_of k i member last inside same le = record {
  rising = rising_between last row [] (IsStrictlyIncreasing-filter (λ x. class_of x == i)
      (range_with_len 0 k) (range_rises k)) (λ j lt. absurd (omega arith)) below
      (All-nil (λ x. last < x));
  holds = Contains-push row last;
  within = All-push (λ x. x ≤ last) row last (All-weaker (λ x. x < last) (λ x. x ≤ last)
      (λ x lt. omega arith) row below) (omega arith);
  source = any_between (λ x. x < k) row _ _ member last (class_split class_of k i member inside
      same) inside;
}
  where
    row : List ℕ
    row = class class_of k i

    below : All (λ x. x < last) row
    below = All-weaker (λ x. x < k) (λ x. x < last) (λ x lt. omega arith) row
        (class_below class_of k i)
