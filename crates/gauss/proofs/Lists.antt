-- Rising lists of unknowns, and the sets of their members.
use Rattle.std.proofs.Common.{◌≡◌, ℕ, ◌+◌, ◌++◌, ◌<◌, ◌≤◌, ⊎_elim, Bool, true, false, cond, List}
use Rattle.std.proofs.Common.{[], ◌∷◌, get_or, filter, All, refl, sym, ap, ◌∙◌, arith}
use Rattle.std.specs.List.{range_with_len}
use Rattle.std.specs.List.Sorted.{IsStrictlyIncreasing}
use Rattle.std.proofs.lemmas.Bool.{cases_lt, false_from_ne_true}
use Rattle.std.proofs.lemmas.List.{map-id}
use Rattle.std.proofs.lemmas.List.FromFn.{filter_of_map_range_with_len_more}
use Rattle.sparse_rows.specs.Closure.{Set, members}
use Rattle.sparse_rows.specs.Matrix.{is_in}
use Rattle.sparse_rows.proofs.Algebra.{XorLaws, total_same}
use Rattle.sparse_rows.specs.Totals.{total}
use Rattle.sparse_rows.proofs.Null.{in_all, members_below, members_rise, members_same, range_below}
use Rattle.sparse_rows.proofs.Increasing.{rising_same}
use Rattle.gauss.specs.Elimination.{product}

-- ---- lists of unknowns and masks

-- a rising list below u is the list of the members of its set
pub rising_members : (u : ℕ) (word : List ℕ) → IsStrictlyIncreasing word → All (λ c. c < u) word
    → word ≡ members u (is_in word)
rising_members u word rising below = rising_same word (members u (is_in word)) rising
    (members_rise u (is_in word)) (λ c. ⊎_elim
    (λ lt. sym (members_same u (is_in word) c lt))
    (λ le. out word below c le ∙ sym (out (members u (is_in word)) (members_below u (is_in word)) c
    le)) (cases_lt c u))
  where
    out : (w : List ℕ) → All (λ c. c < u) w → (c : ℕ) → u ≤ c → is_in w c ≡ false
    out w h c le = false_from_ne_true (is_in w c) (λ e. let lt : c < u = in_all (λ d. d < u) w h c
        e in omega arith)

module _ {G : Type 0} (o : G) (add : G → G → G) (laws : XorLaws G o add) where
  filter_product : (mask : Set) (x : ℕ → G) (cs : List ℕ)
      → total o add x (filter mask cs) ≡ total o add (λ c. cond (mask c) (x c) o) cs
  filter_product mask x [] = refl
  filter_product mask x (c ∷ cs) = by_case (mask c) refl (filter_product mask x cs)
    where
      by_case : (b : Bool) → mask c ≡ b → total o add x (filter mask cs) ≡ total o add
          (λ d. cond (mask d) (x d) o) cs → total o add x (filter mask (c ∷ cs))
          ≡ add (cond (mask c) (x c) o) (total o add (λ d. cond (mask d) (x d) o) cs)
      by_case true e h = rw e (ap (add (x c)) h)
      by_case false e h = rw e (h ∙ sym (laws.left _))

  -- the sum over a rising list is the product with its set
  pub list_product : (u : ℕ) (word : List ℕ) → IsStrictlyIncreasing word → All (λ c. c < u) word
      → (x : ℕ → G) → total o add x word ≡ product o add u (is_in word) x
  list_product u word rising below x = ap (total o add x) (rising_members u word rising below)
      ∙ filter_product (is_in word) x (range_with_len 0 u)

  pub product_of_same : (u : ℕ) (mask : Set) (x y : ℕ → G) → ((c : ℕ) → c < u → x c ≡ y c)
      → product o add u mask x ≡ product o add u mask y
  product_of_same u mask x y h = total_same o add laws _ _ (range_with_len 0 u)
      (λ k d lt. ap (λ v. cond (mask (get_or (range_with_len 0 u) k d)) v o)
      (h _ (range_below u k d lt)))

-- the members below one more
pub members_more : (u : ℕ) (w : Set) → members (u + 1) w ≡ members u w ++ cond (w u) (u ∷ []) []
members_more u w = ap (filter w) (sym (map-id (range_with_len 0 (u + 1))))
    ∙ filter_of_map_range_with_len_more w (λ (x : ℕ). x) 0 u u (omega arith)
    ∙ ap (λ xs. filter w xs ++ cond (w u) (u ∷ []) []) (map-id (range_with_len 0 u))
