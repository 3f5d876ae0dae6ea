-- The members of a set below n, and the place of each among them.
use Rattle.std.proofs.Common.{le_antisymm, ◌≡◌, ℕ, zero, suc, ◌+◌, ◌<◌, ◌≤◌, ⊎_elim, true, false}
use Rattle.std.proofs.Common.{cond, List, [], ◌∷◌, ◌++◌, length, get_or, sym, ap, ◌∙◌, arith}
use Rattle.std.proofs.Common.{append-nil, append_assoc, length-append, add-one}
use Rattle.std.proofs.lemmas.Bool.{cases_lt}
use Rattle.std.proofs.lemmas.List.Kept.{AllPairs-from_increasing}
use Rattle.std.proofs.Math.Seq.{get_or-append_seam}
use Rattle.std.specs.List.{range_with_len}
use Rattle.sparse_rows.specs.Closure.{Set, members}
use Rattle.sparse_rows.proofs.Null.{members_rise, members_below, passes, in_at}
use Rattle.sparse_rows.proofs.Shape.{last_or_before}
use Rattle.peeling.proofs.Flags.{members_more}

-- how many members are below c
abbrev pub rank : Set → ℕ → ℕ
rank w c = length (members c w)

-- one column more, that is a member
pub members_yes : (w : Set) (c : ℕ) → w c ≡ true → members (c + 1) w ≡ members c w ++ c ∷ []
members_yes w c e = members_more c w ∙ ap (λ b. members c w ++ cond b (c ∷ []) []) e

-- one column more, that is none
pub members_no : (w : Set) (c : ℕ) → w c ≡ false → members (c + 1) w ≡ members c w
members_no w c e = members_more c w ∙ ap (λ b. members c w ++ cond b (c ∷ []) []) e
    ∙ append-nil (members c w)

-- a member makes the next column's place one more
pub rank_yes : (w : Set) (c : ℕ) → w c ≡ true → rank w (c + 1) ≡ rank w c + 1
rank_yes w c e = ap length (members_yes w c e) ∙ length-append (members c w) (c ∷ [])

-- another column leaves it
pub rank_no : (w : Set) (c : ℕ) → w c ≡ false → rank w (c + 1) ≡ rank w c
rank_no w c e = ap length (members_no w c e)

-- the members below c begin those below n
members_begin : (w : Set) (c n : ℕ) → c ≤ n → (tail : List ℕ) × (members n w ≡ members c w ++ tail)
members_begin w c zero le = let z : c ≡ 0 = omega arith in
    ([], ap (λ b. members b w) (sym z) ∙ sym (append-nil (members c w)))
members_begin w c (suc n) le = ⊎_elim
    (λ e. ([], ap (λ b. members b w) (sym e) ∙ sym (append-nil (members c w))))
    (λ lt. let r = members_begin w c n (omega (arith, lt)) in (
      r.0 ++ cond (w n) (n ∷ []) [],
      ap (λ b. members b w) (sym (add-one n)) ∙ members_more n w
          ∙ ap (λ z. z ++ cond (w n) (n ∷ []) []) r.1 ∙ append_assoc (members c w) r.0
          (cond (w n) (n ∷ []) []),
    ))
    (last_or_before c (suc n) (omega arith))

-- places do not fall
pub rank_grows : (w : Set) (c n : ℕ) → c ≤ n → rank w c ≤ rank w n
rank_grows w c n le = let r = members_begin w c n le in
    omega (arith, ap length r.1 ∙ length-append (members c w) r.0)

-- members rise with their places
pub rank_less : (w : Set) (c d : ℕ) → w c ≡ true → c < d → rank w c < rank w d
rank_less w c d e lt = let g = rank_grows w (c + 1) d (omega arith) in omega (arith, rank_yes w c e)

-- a member's place is below their number
pub rank_below : (w : Set) (n c : ℕ) → c < n → w c ≡ true → rank w c < length (members n w)
rank_below w n c lt e = rank_less w c n e lt

-- the member at a member's place
pub at_rank : (w : Set) (n c : ℕ) → c < n → w c ≡ true → get_or (members n w) (rank w c) 0 ≡ c
at_rank w n c lt e = let r = members_begin w (c + 1) n (omega arith) in
    ap (λ z. get_or z (rank w c) 0) (r.1 ∙ ap (λ z. z ++ r.0) (members_yes w c e)
    ∙ append_assoc (members c w) (c ∷ []) r.0) ∙ get_or-append_seam (members c w) c r.0 0

-- a place below their number has a member
pub member_is : (w : Set) (n i : ℕ) → i < length (members n w) → w (get_or (members n w) i 0) ≡ true
member_is w n i lt = passes w (range_with_len 0 n) _ (in_at (members n w) i 0 lt)

-- which lies below n
pub member_below : (w : Set) (n i : ℕ) → i < length (members n w) → get_or (members n w) i 0 < n
member_below w n i lt = members_below n w i 0 lt

-- members at later places are greater
pub members_less : (w : Set) (n i j : ℕ) → i < j → j < length (members n w)
    → get_or (members n w) i 0 < get_or (members n w) j 0
members_less w n i j lt lt2 = AllPairs-from_increasing (members n w) (members_rise n w) i j 0 lt lt2

-- its place is the one at which it stands
pub rank_at : (w : Set) (n i : ℕ) → i < length (members n w) → rank w (get_or (members n w) i 0) ≡ i
rank_at w n i lt = ⊎_elim
    (λ l. let z = members_less w n (rank w c) i l lt in absurd (omega (arith, back)))
    (λ le. ⊎_elim (λ l. let z = members_less w n i (rank w c) l in_range in
    absurd (omega (arith, back))) (λ le2. le_antisymm le2 le) (cases_lt i (rank w c)))
    (cases_lt (rank w c) i)
  where
    c : ℕ
    c = get_or (members n w) i 0

    back : get_or (members n w) (rank w c) 0 ≡ c
    back = at_rank w n c (member_below w n i lt) (member_is w n i lt)

    in_range : rank w c < length (members n w)
    in_range = rank_below w n c (member_below w n i lt) (member_is w n i lt)
