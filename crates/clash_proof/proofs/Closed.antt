-- Closed row sets sum to closed row sets, and it can be told where one ends.
use Rattle.std.proofs.Common.{◌≡◌, ◌≢◌, ℕ, ◌<◌, ◌⊎◌, inl, inr, ⊎_elim, Bool, true, false, cond}
use Rattle.std.proofs.Common.{◌==◌, List, [], ◌∷◌, length, All, refl, sym, ap, ap₂, ◌∙◌}
use Rattle.std.proofs.Common.{true≢false, bit_xor}
use Rattle.std.specs.List.{range_with_len}
use Rattle.std.specs.List.Sorted.{IsStrictlyIncreasing}
use Rattle.std.proofs.Math.Bool.{xor as bool_xor}
use Rattle.sparse_rows.specs.Matrix.{Matrix, has_entry, is_in}
use Rattle.sparse_rows.specs.Closure.{Set, members}
use Rattle.sparse_rows.specs.Columns.{column_of}
use Rattle.sparse_rows.specs.Totals.{total}
use Rattle.sparse_rows.proofs.Algebra.{XorLaws, total_add, total_same, total_zero}
use Rattle.sparse_rows.proofs.Parity.{bit_laws, parity}
use Rattle.sparse_rows.proofs.Planes.{byte_laws}
use Rattle.sparse_rows.proofs.Null.{all_from_in, in_all, members_below, members_rise, members_same}
use Rattle.sparse_rows.proofs.Sets.{true_or_false}
use Rattle.sparse_rows.proofs.Increasing.{rising_same}
use Rattle.null_witness.specs.ReducedWords.{IsLate}
use Rattle.null_witness.specs.LinearFamilies.{IsSumOf, IsLinear}
use Rattle.null_witness.proofs.Bits.{search_below}
use Rattle.null_witness.proofs.First.{xor_one, xor_same}
use Rattle.null_witness.proofs.ReducedWords.{decide_late, sum_either}
use Rattle.gauss.specs.Elimination.{product}
use Rattle.gauss.proofs.Lists.{list_product}
use Rattle.gauss.proofs.Products.{product_same, product_xor}
use Rattle.clash_proof.specs.RowSets.{IsClosed, odd_columns}

-- the sum over the members of a set is the product with it
pub members_total : {G : Type 0} (o : G) (add : G → G → G) (laws : XorLaws G o add) (n : ℕ)
    (v : Set) (y : ℕ → G) → total o add y (members n v) ≡ product o add n v y
members_total o add laws n v y =
    list_product o add laws n (members n v) (members_rise n v) (members_below n v) y
    ∙ product_same o add laws n (is_in (members n v)) v y (members_same n v)

-- whether an odd number of the rows have the column, as a sum of bits
odd_total : (m : Matrix) (rows : List ℕ) (c : ℕ)
    → odd_columns m rows c ≡ total false bool_xor (λ r. has_entry m r c) rows
odd_total m rows c = ap (λ n. n == 1) (parity (λ r. has_entry m r c) rows)
    ∙ by_case (total false bool_xor (λ r. has_entry m r c) rows)
  where
    by_case : (b : Bool) → (cond b 1 0 == 1) ≡ b
    by_case true = refl
    by_case false = refl

-- and as the product of the set of rows with the column
pub odd_product : (m : Matrix) (rows : List ℕ) → IsStrictlyIncreasing rows
    → All (λ r. r < length m.rows) rows → (c : ℕ) → odd_columns m rows c
    ≡ product false bool_xor (length m.rows) (is_in rows) (λ r. has_entry m r c)
odd_product m rows rising below c = odd_total m rows c
    ∙ list_product false bool_xor bit_laws (length m.rows) rows rising below
    (λ r. has_entry m r c)

-- or as the number of the column's rows that are in the set
pub odd_column : (m : Matrix) (rows : List ℕ) → IsStrictlyIncreasing rows
    → All (λ r. r < length m.rows) rows → (c : ℕ)
    → odd_columns m rows c ≡ total false bool_xor (is_in rows) (column_of m c)
odd_column m rows rising below c = odd_product m rows rising below c
    ∙ total_same false bool_xor bit_laws (λ r. cond (is_in rows r) (has_entry m r c) false)
    (λ r. cond (has_entry m r c) (is_in rows r) false) (range_with_len 0 (length m.rows))
    (λ k d lt. swap (is_in rows _) (has_entry m _ c))
    ∙ sym (members_total false bool_xor bit_laws (length m.rows) (λ r. has_entry m r c)
    (is_in rows))
  where
    swap : (a b : Bool) → cond a b false ≡ cond b a false
    swap true true = refl
    swap true false = refl
    swap false true = refl
    swap false false = refl

-- the rows of a sum are rows
pub sum_below : (m : Matrix) (a b word : List ℕ) → All (λ r. r < length m.rows) a
    → All (λ r. r < length m.rows) b → IsSumOf a b word → All (λ r. r < length m.rows) word
sum_below m a b word ba bb sum = all_from_in (λ r. r < length m.rows) word (λ r e. ⊎_elim
    (λ f. in_all (λ d. d < length m.rows) a ba r f.0)
    (λ f. in_all (λ d. d < length m.rows) b bb r f.1)
    (xor_one _ _ (sym (sum_either a b word sum r) ∙ e)))

-- the columns that an odd number of rows of a sum have
pub odd_sum : (m : Matrix) (a b word : List ℕ) → IsStrictlyIncreasing a
    → All (λ r. r < length m.rows) a → IsStrictlyIncreasing b → All (λ r. r < length m.rows) b
    → IsSumOf a b word → (c : ℕ)
    → odd_columns m word c ≡ bool_xor (odd_columns m a c) (odd_columns m b c)
odd_sum m a b word ra ba rb bb sum c =
    odd_product m word sum.rising (sum_below m a b word ba bb sum) c
    ∙ product_same false bool_xor bit_laws (length m.rows) (is_in word)
    (λ r. bool_xor (is_in a r) (is_in b r)) (λ r. has_entry m r c)
    (λ r lt. sum_either a b word sum r)
    ∙ product_xor false bool_xor bit_laws (length m.rows) (is_in a) (is_in b)
    (λ r. has_entry m r c)
    ∙ sym (ap₂ bool_xor (odd_product m a ra ba c) (odd_product m b rb bb c))

module _ (m : Matrix) (s : Set) where
  closed_sum : (a b word : List ℕ) → IsClosed m s a → IsClosed m s b → a ≢ b → IsSumOf a b word
      → IsClosed m s word
  closed_sum a b word ha hb differ sum = record {
    rising = sum.rising;
    below = sum_below m a b word ha.below hb.below sum;
    nonempty = λ none. differ (rising_same a b ha.rising hb.rising
        (λ c. xor_same _ _ (sym (sum_either a b word sum c) ∙ ap (λ w. is_in w c) none)));
    closed = λ c lt e. ⊎_elim (λ f. ha.closed c lt f.0) (λ f. hb.closed c lt f.1)
        (xor_one _ _
        (sym (odd_sum m a b word ha.rising ha.below hb.rising hb.below sum c) ∙ e));
  }

  pub closed_linear : IsLinear (IsClosed m s)
  closed_linear = record {
    rising = λ rows h. h.rising;
    nonempty = λ rows h. h.nonempty;
    sums = closed_sum;
  }

  -- whether the members of a set are closed
  decide_closed : (v : Set) → IsClosed m s (members (length m.rows) v)
      ⊎ (IsClosed m s (members (length m.rows) v) → ⊥)
  decide_closed v = by_case (members (length m.rows) v) (members_rise (length m.rows) v)
      (members_below (length m.rows) v)
    where
      by_case : (w : List ℕ) → IsStrictlyIncreasing w → All (λ r. r < length m.rows) w
          → IsClosed m s w ⊎ (IsClosed m s w → ⊥)
      by_case [] rising below = inr (λ h. h.nonempty refl)
      by_case (r ∷ rs) rising below = ⊎_elim
          (λ w. inr (λ h. true≢false (sym (h.closed w.0 w.1 w.2.0) ∙ w.2.1)))
          (λ all. inl (record {
            rising = rising;
            below = below;
            nonempty = λ z. cc;
            closed = all;
          }))
          (search_below (λ c. (odd_columns m (r ∷ rs) c ≡ true) × (s c ≡ false))
          (λ c. odd_columns m (r ∷ rs) c ≡ true → s c ≡ true) at_column m.n)
        where
          at_column : (c : ℕ) → ((odd_columns m (r ∷ rs) c ≡ true) × (s c ≡ false))
              ⊎ (odd_columns m (r ∷ rs) c ≡ true → s c ≡ true)
          at_column c = ⊎_elim (λ e. inr (λ f. e))
              (λ e. ⊎_elim (λ f. inl (f, e))
              (λ f. inr (λ g. absurd (true≢false (sym g ∙ f))))
              (true_or_false (odd_columns m (r ∷ rs) c))) (true_or_false (s c))

  -- whether a closed row set ends at a row
  pub closed_decided : (p : ℕ) → IsLate (IsClosed m s) p ⊎ (IsLate (IsClosed m s) p → ⊥)
  closed_decided =
      decide_late (IsClosed m s) closed_linear (length m.rows) (λ w h. h.below) decide_closed

-- ---- the sum over rows of the sums over columns

swap_totals : (a : Set) (h : ℕ → Set) (y : ℕ → ℕ) (cs rs : List ℕ)
    → total 0 bit_xor
    (λ c. cond (total false bool_xor (λ r. cond (a r) (h r c) false) rs) (y c) 0) cs
    ≡ total 0 bit_xor (λ r. cond (a r) (total 0 bit_xor (λ c. cond (h r c) (y c) 0) cs) 0) rs
unfolding bool_xor
swap_totals a h y cs [] = total_zero 0 bit_xor byte_laws cs
swap_totals a h y cs (r ∷ rs) =
    total_same 0 bit_xor byte_laws _
    (λ c. bit_xor (cond (cond (a r) (h r c) false) (y c) 0)
    (cond (total false bool_xor (λ q. cond (a q) (h q c) false) rs) (y c) 0)) cs
    (λ k d lt. parts (cond (a r) (h r _) false)
    (total false bool_xor (λ q. cond (a q) (h q _) false) rs) (y _))
    ∙ total_add 0 bit_xor byte_laws (λ c. cond (cond (a r) (h r c) false) (y c) 0)
    (λ c. cond (total false bool_xor (λ q. cond (a q) (h q c) false) rs) (y c) 0) cs
    ∙ ap₂ bit_xor (own (a r)) (swap_totals a h y cs rs)
  where
    parts : (p q : Bool) (v : ℕ)
        → cond (bool_xor p q) v 0 ≡ bit_xor (cond p v 0) (cond q v 0)
    parts true true v = sym (byte_laws.self v)
    parts true false v = sym (byte_laws.comm v 0 ∙ byte_laws.left v)
    parts false true v = sym (byte_laws.left v)
    parts false false v = refl

    own : (b : Bool) → total 0 bit_xor (λ c. cond (cond b (h r c) false) (y c) 0) cs
        ≡ cond b (total 0 bit_xor (λ c. cond (h r c) (y c) 0) cs) 0
    own true = refl
    own false = total_zero 0 bit_xor byte_laws cs

pub swap_products : (n r : ℕ) (a : Set) (h : ℕ → Set) (y : ℕ → ℕ)
    → product 0 bit_xor n (λ c. product false bool_xor r a (λ t. h t c)) y
    ≡ product 0 bit_xor r a (λ t. product 0 bit_xor n (h t) y)
swap_products n r a h y = swap_totals a h y (range_with_len 0 n) (range_with_len 0 r)
