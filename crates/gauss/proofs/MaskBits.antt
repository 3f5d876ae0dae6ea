-- Bits of the masks of unknowns.
use Rattle.std.proofs.Common.{◌≡◌, ◌≢◌, ℕ, ◌+◌, ◌*◌, ◌/◌, ◌%◌, ◌^◌, ◌<◌, ◌≤◌, ◌==◌, ◌||◌, ⊎_elim}
use Rattle.std.proofs.Common.{not, Bool, true, false, cond, List, [], ◌∷◌, length, get_or, set}
use Rattle.std.proofs.Common.{refl, sym, ap, ap₂, ◌∙◌, subst, arith, bit_or, bit_xor, ltb, eq-eqb}
use Rattle.std.proofs.Common.{get_or-set_same, get_or-set_other, w8}
use Rattle.std.specs.Int.{bit_at}
use Rattle.std.specs.List.{range_with_len}
use Rattle.std.proofs.Math.Bool.{xor as bool_xor}
use Rattle.std.proofs.lemmas.Bool.{cases_eq, ne_eqb}
use Rattle.std.proofs.lemmas.Nat.Bits.{bit_at_set_same, bit_at_set_other, bit_at-zero}
use Rattle.std.proofs.lemmas.List.Sums.{length-filter, count_by-le-length}
use Rattle.std.proofs.lemmas.List.FromFn.{length-range_with_len}
use Rattle.sparse_rows.specs.Closure.{Set, members}
use Rattle.sparse_rows.specs.Totals.{total}
use Rattle.sparse_rows.proofs.Sets.{or_none, or_true}
use Rattle.gauss.specs.Elimination.{behind, product, pivot_row}
use Rattle.gauss.specs.Groups.{AreAdded}
use Rattle.gauss.specs.Masks.{AreNullMasks, free_unknowns, set_of, stride_of}
use Rattle.gauss.specs.Packed.{byte_in}
use Rattle.gauss.proofs.Words.{apart, bit_of_xor}

module _ (stride : ℕ) (masks : List ℕ) (c i : ℕ) (inside : i / 8 < stride)
    (room : c * stride + stride ≤ length masks) where
  abbrev at : ℕ
  at = c * stride + i / 8

  abbrev now : List ℕ
  now = set masks at (bit_or (get_or masks at 0) (1 * 2 ^ (i % 8) % 256))

  -- bit i is put in
  pub put_own : (j : ℕ) → set_of stride now j c ≡ (set_of stride masks j c || (j == i))
  put_own j = ⊎_elim
      (λ (e : j / 8 ≡ i / 8). ap (λ n. bit_at n (j % 8) == 1)
      (ap (λ k. get_or now (c * stride + k) 0) e ∙ get_or-set_same masks at _ 0
      (omega (arith, room, inside)))
      ∙ ⊎_elim
      (λ (f : j % 8 ≡ i % 8). ap (λ k. bit_at (bit_or (get_or masks at 0) (1 * 2 ^ (i % 8) % 256)) k
      == 1) f ∙ ap (λ b. b == 1) (bit_at_set_same w8 (get_or masks at 0) (i % 8) (omega arith))
      ∙ sym (ap (λ b. (bit_at (get_or masks (c * stride + j / 8) 0) (j % 8) == 1) || b)
      (eq-eqb j i (omega (arith, e, f))) ∙ or_true _))
      (λ ne. ap (λ b. b == 1) (bit_at_set_other w8 (get_or masks at 0) (i % 8) (omega arith) (j % 8)
      ne) ∙ ap (λ k. bit_at (get_or masks (c * stride + k) 0) (j % 8) == 1) (sym e)
      ∙ sym (ap (λ b. (bit_at (get_or masks (c * stride + j / 8) 0) (j % 8) == 1) || b)
      (ne_eqb j i (λ z. ne (ap (λ n. n % 8) z))) ∙ or_none _))
      (cases_eq (j % 8) (i % 8)))
      (λ ne. ap (λ n. bit_at n (j % 8) == 1) (get_or-set_other masks at (c * stride + j / 8) _ 0
      (λ e. ne (omega (arith, e))))
      ∙ sym (ap (λ b. (bit_at (get_or masks (c * stride + j / 8) 0) (j % 8) == 1) || b)
      (ne_eqb j i (λ e. ne (ap (λ n. n / 8) e))) ∙ or_none _))
      (cases_eq (j / 8) (i / 8))

  -- those of other unknowns stay
  pub put_others : (j d : ℕ) → j / 8 < stride → d ≢ c → set_of stride now j d ≡ set_of stride masks
      j d
  put_others j d lt ne = ap (λ n. bit_at n (j % 8) == 1)
      (get_or-set_other masks at (d * stride + j / 8) _ 0 (λ e. ⊎_elim
      (λ low. omega (arith, low, e)) (λ high. omega (arith, high, e, inside))
      (apart stride d c (j / 8) ne lt)))

-- ---- the bits of a sum of bytes

bit_total : (k : ℕ) (mask : Set) (x : ℕ → ℕ) (cs : List ℕ)
    → (bit_at (total 0 bit_xor (λ c. cond (mask c) (x c) 0) cs) k == 1) ≡ total false bool_xor
    (λ c. cond (mask c) (bit_at (x c) k == 1) false) cs
bit_total k mask x [] = ap (λ n. n == 1) (bit_at-zero k)
bit_total k mask x (c ∷ cs) = bit_of_xor k (cond (mask c) (x c) 0)
    (total 0 bit_xor (λ d. cond (mask d) (x d) 0) cs) ∙ ap₂ bool_xor (by_case (mask c))
    (bit_total k mask x cs)
  where
    by_case : (b : Bool) → (bit_at (cond b (x c) 0) k == 1) ≡ cond b (bit_at (x c) k == 1) false
    by_case true = refl
    by_case false = ap (λ n. n == 1) (bit_at-zero k)

-- ---- the masks after back substitution

pub few_members : (n : ℕ) (w : Set) → length (members n w) ≤ n
few_members n w = let columns : List ℕ = range_with_len 0 n in
    omega (arith, length-filter w columns, count_by-le-length w columns, length-range_with_len 0 n)

pub made : (rows sets stride : ℕ) (bits : ℕ → Set) (pivots free old put now : List ℕ)
    → length pivots ≤ 65536 → free ≡ free_unknowns rows pivots → sets ≡ length free
    → stride ≡ stride_of sets → old ≡ put
    → ((i c : ℕ) → i < length free → c < length pivots
    → set_of stride put i c ≡ (c == get_or free i 0))
    → AreAdded (length pivots) stride (behind bits (pivot_row rows pivots)) now old now
    → length now ≡ length pivots * stride → AreNullMasks bits rows pivots sets now
made rows sets stride bits pivots free old put now few is count wide from puts added long = record {
  count = count ∙ ap length is;
  masks = record {
    few = few;
    most = omega (
      arith,
      count,
      ap length is,
      few_members (length pivots) (λ p. not (ltb (pivot_row rows pivots p) rows)),
    );
    long = long ∙ ap (λ n. length pivots * n) wide;
  };
  back = λ i p lt lt2. subst (λ n. set_of n now i p
      ≡ bool_xor (p == get_or (free_unknowns rows pivots) i 0)
      (product false bool_xor (length pivots) (behind bits (pivot_row rows pivots) p)
      (set_of n now i))) wide
      (ap (λ n. bit_at n (i % 8) == 1) (added p (i / 8) lt2 (omega (arith, wide, lt)))
      ∙ bit_of_xor (i % 8) (byte_in stride old (i / 8) p) (product 0 bit_xor (length pivots)
      (behind bits (pivot_row rows pivots) p) (byte_in stride now (i / 8)))
      ∙ ap₂ bool_xor
      (ap (λ xs. set_of stride xs i p) from ∙ puts i p (rw (← count) lt) lt2
      ∙ ap (λ xs. p == get_or xs i 0) is)
      (bit_total (i % 8) (behind bits (pivot_row rows pivots) p) (byte_in stride now (i / 8))
      (range_with_len 0 (length pivots))));
}
