-- Bits of rows of words: what a sum of words and a bit that is turned make of them.
use Rattle.std.proofs.Common.{◌≡◌, ◌≢◌, ℕ, zero, suc, ◌+◌, ◌-◌, ◌*◌, ◌/◌, ◌%◌, ◌^◌, ◌<◌, ◌≤◌, ◌⊎◌}
use Rattle.std.proofs.Common.{inl, inr, ⊎_elim, false, ◌&&◌, ◌==◌, List, ◌++◌, length, take, drop}
use Rattle.std.proofs.Common.{get_or, set, refl, sym, ap, ap₂, ◌∙◌, arith, ltb, ◌||◌, bit_xor}
use Rattle.std.proofs.Common.{bit_or, eq-eqb, get_or-set_same, get_or-set_other}
use Rattle.std.specs.Int.{bit_at}
use borrow.Rule.Slice.PartMut.{put_mid}
use Rattle.std.proofs.Math.Bool.{xor as bool_xor}
use Rattle.std.proofs.Math.Nat.{mul-le-mul_right, suc-mul, mod-eq_of_lt}
use Rattle.std.proofs.Math.Pow.{pow-lt}
use Rattle.std.proofs.lemmas.Bool.{lt-ltb, le-ltb, cases_lt, cases_eq, ne_eqb}
use Rattle.std.proofs.lemmas.Nat.{mod_below, pow_pos, div-add-mod'}
use Rattle.std.proofs.lemmas.Nat.Bits.{bit_at_cat_low, bit_at_above, bit_at_xor, bit_at-lt}
use Rattle.std.proofs.lemmas.Nat.Bits.{bit_at-pow_same, bit_at-pow_other, bit_at_set_same}
use Rattle.std.proofs.lemmas.Nat.Bits.{bit_at_set_other}
use Rattle.std.proofs.lemmas.List.{get_or_append_left, get_or-append_right, get_or-take}
use Rattle.std.proofs.lemmas.List.{get_or-drop, length-take-le, length-drop}
use mir.Syntax.{w64}
use Rattle.sparse_rows.proofs.Parity.{bit_laws}
use Rattle.sparse_rows.proofs.Sets.{or_none, or_true}
use Rattle.gauss.specs.Packed.{bits_of}

-- ---- a part of a list that was written

module _ (xs ys : List ℕ) (a k : ℕ) (room : a + k ≤ length xs) (long : length ys ≡ k) where
  front : length (take a xs) ≡ a
  front = length-take-le a xs (omega (arith, room))

  pub put_inside : (i : ℕ) → i < k → get_or (put_mid a k xs ys) (a + i) 0 ≡ get_or ys i 0
  put_inside i lt = get_or-append_right (take a xs) _ a (a + i) 0 front (omega arith)
      ∙ ap (λ n. get_or (ys ++ drop k (drop a xs)) n 0) at
      ∙ get_or_append_left ys (drop k (drop a xs)) 0 i (rw long lt)
    where
      at : a + i - a ≡ i
      at = omega arith

  pub put_outside : (i : ℕ) → (i < a) ⊎ (a + k ≤ i) → get_or (put_mid a k xs ys) i 0 ≡ get_or xs i 0
  put_outside i (inl lt) = get_or_append_left (take a xs) _ 0 i (rw front lt)
      ∙ get_or-take a xs i 0 lt
  put_outside i (inr le) = get_or-append_right (take a xs) _ a i 0 front (omega arith)
      ∙ get_or-append_right ys (drop k (drop a xs)) k (i - a) 0 long (omega arith)
      ∙ get_or-drop k (drop a xs) (i - a - k) 0 ∙ get_or-drop a xs (k + (i - a - k)) 0
      ∙ ap (λ n. get_or xs n 0) at
    where
      at : a + (k + (i - a - k)) ≡ i
      at = omega arith

-- an item of a part
pub part_of : (xs : List ℕ) (a n k i : ℕ) → n ≡ k → i < k
    → get_or (take n (drop a xs)) i 0 ≡ get_or xs (a + i) 0
part_of xs a n k i e lt = ap (λ m. get_or (take m (drop a xs)) i 0) e ∙ get_or-take k (drop a xs) i
    0 lt ∙ get_or-drop a xs i 0

pub part_length : (xs : List ℕ) (a n k : ℕ) → n ≡ k → a + k ≤ length xs
    → length (take n (drop a xs)) ≡ k
part_length xs a n k e room = ap (λ m. length (take m (drop a xs))) e ∙ length-take-le k (drop a xs)
    (omega (arith, room, length-drop a xs))

-- ---- places of rows

-- the place of a word of another row lies before the row or behind it
pub apart : (width j r q : ℕ) → j ≢ r → q < width → (j * width + q < r * width)
    ⊎ (r * width + width ≤ j * width + q)
apart width j r q ne lt = ⊎_elim
    (λ (low : j < r). let room : suc j * width ≤ r * width = mul-le-mul_right width low in
    let e : suc j * width ≡ j * width + width = suc-mul j width in inl (omega (arith, room, e)))
    (λ (le : r ≤ j). let high : suc r ≤ j = omega (arith, ne) in let room : suc r * width ≤ j *
    width = mul-le-mul_right width high in let e : suc r * width ≡ r * width + width =
    suc-mul r width in inr (omega (arith, room, e)))
    (cases_lt j r)

-- a row lies within so many rows
pub row_room : (rows width r : ℕ) → r < rows → r * width + width ≤ rows * width
row_room rows width r lt = let room : suc r * width ≤ rows * width = mul-le-mul_right width lt in
    let e : suc r * width ≡ r * width + width = suc-mul r width in omega (arith, room, e)

-- ---- bits

bit_sum : (x y : ℕ) → x < 2 → y < 2 → ((x + y) % 2 == 1) ≡ bool_xor (x == 1) (y == 1)
unfolding bool_xor
bit_sum zero zero hx hy = refl
bit_sum zero (suc zero) hx hy = refl
bit_sum (suc zero) zero hx hy = refl
bit_sum (suc zero) (suc zero) hx hy = refl
bit_sum (suc (suc x)) y hx hy = absurd (omega arith)
bit_sum x (suc (suc y)) hx hy = absurd (omega arith)

pub bit_of_xor : (i a b : ℕ) → (bit_at (bit_xor a b) i == 1) ≡ bool_xor (bit_at a i == 1)
    (bit_at b i == 1)
bit_of_xor i a b = ap (λ z. z == 1) (bit_at_xor a b i) ∙ bit_sum (bit_at a i) (bit_at b i)
    (bit_at-lt a i) (bit_at-lt b i)

-- a one that is shifted
pub shifted_one : (k : ℕ) → k < 64 → 1 * 2 ^ k % 18446744073709551616 ≡ 2 ^ k
shifted_one k lt = ap (λ n. n % 18446744073709551616) (omega arith) ∙ mod-eq_of_lt below
  where
    below : 2 ^ k < 18446744073709551616
    below = pow-lt {i = k} {j = 64} lt

-- the one bit of a shifted one
pub one_bit : (k i : ℕ) → k < 64 → (bit_at (1 * 2 ^ k % 18446744073709551616) i == 1) ≡ (i == k)
one_bit k i lt = ap (λ n. bit_at n i == 1) (shifted_one k lt)
    ∙ ⊎_elim (λ e. rw e (ap (λ b. b == 1) (bit_at-pow_same k) ∙ sym (eq-eqb k k refl)))
    (λ ne. ap (λ b. b == 1) (bit_at-pow_other k i ne) ∙ sym (ne_eqb i k ne)) (cases_eq i k)

-- the lowest k bits of a number
pub low_bits : (n k i : ℕ) → k < 64 → (bit_at (n % (1 * 2 ^ k % 18446744073709551616)) i == 1)
    ≡ (ltb i k && (bit_at n i == 1))
low_bits n k i lt = ap (λ m. bit_at (n % m) i == 1) (shifted_one k lt) ∙ ⊎_elim
    (λ low. rw (lt-ltb i k low) (ap (λ b. b == 1)
    (sym (bit_at_cat_low (n / 2 ^ k) k (n % 2 ^ k) i low)
    ∙ ap (λ m. bit_at m i) (div-add-mod' n (2 ^ k)))))
    (λ high. rw (le-ltb i k high) (ap (λ b. b == 1)
    (bit_at_above (n % 2 ^ k) k i (mod_below n (2 ^ k) (pow_pos k)) high))) (cases_lt i k)

-- rows with the same words have the same bits
pub same_bits : (width : ℕ) (now words : List ℕ) (j r : ℕ)
    → ((q : ℕ) → q < width → get_or now (j * width + q) 0 ≡ get_or words (r * width + q) 0)
    → (c : ℕ) → bits_of width now j c ≡ bits_of width words r c
same_bits width now words j r h c = ⊎_elim
    (λ lt. ap (λ n. ltb c (width * 64) && (bit_at n (c % 64) == 1)) (h (c / 64) (omega arith)))
    (λ le. rw (le-ltb c (width * 64) le) refl) (cases_lt c (width * 64))

-- a row whose words are sums of words has the bits that one of the rows has and the other has not
pub sum_bits : (width : ℕ) (now words other : List ℕ) (j r t : ℕ)
    → ((q : ℕ) → q < width → get_or now (j * width + q) 0 ≡ bit_xor (get_or words (r * width + q) 0)
    (get_or other (t * width + q) 0))
    → (c : ℕ) → bits_of width now j c ≡ bool_xor (bits_of width words r c) (bits_of width other t c)
sum_bits width now words other j r t h c = ⊎_elim
    (λ lt. rw (lt-ltb c (width * 64) lt)
    (ap (λ n. bit_at n (c % 64) == 1) (h (c / 64) (omega arith))
    ∙ bit_of_xor (c % 64) (get_or words (r * width + c / 64) 0)
    (get_or other (t * width + c / 64) 0)))
    (λ le. rw (le-ltb c (width * 64) le) (sym (bit_laws.self false))) (cases_lt c (width * 64))

-- a bit that is turned
pub flipped_bits : (width : ℕ) (words : List ℕ) (r c d : ℕ) → r * width + width ≤ length words
    → c < width * 64
    → bits_of width (set words (r * width + c / 64) (bit_xor (get_or words (r * width + c / 64) 0)
    (1 * 2 ^ (c % 64) % 18446744073709551616))) r d ≡ bool_xor (bits_of width words r d)
    (d == c)
flipped_bits width words r c d room lt = ⊎_elim
    (λ inside. rw (lt-ltb d (width * 64) inside) (⊎_elim
    (λ (e : d / 64 ≡ c / 64). ap (λ n. bit_at n (d % 64) == 1)
    (ap (λ k. get_or now (r * width + k) 0) e ∙ get_or-set_same words at _ 0
    (omega (arith, room)))
    ∙ bit_of_xor (d % 64) (get_or words at 0) (1 * 2 ^ (c % 64) % 18446744073709551616)
    ∙ ap₂ bool_xor (ap (λ k. bit_at (get_or words (r * width + k) 0) (d % 64) == 1) (sym e))
    (one_bit (c % 64) (d % 64) (omega arith) ∙ same_place e))
    (λ ne. ap (λ n. bit_at n (d % 64) == 1) (get_or-set_other words at (r * width + d / 64) _ 0
    (λ e. ne (omega (arith, e)))) ∙ sym (bit_laws.comm _ false ∙ bit_laws.left _)
    ∙ ap (bool_xor (bit_at (get_or words (r * width + d / 64) 0) (d % 64) == 1))
    (sym (ne_eqb d c (λ e. ne (ap (λ n. n / 64) e)))))
    (cases_eq (d / 64) (c / 64))))
    (λ le. rw (le-ltb d (width * 64) le, ne_eqb d c (λ e. omega (arith, e)))
    (sym (bit_laws.self false))) (cases_lt d (width * 64))
  where
    at : ℕ
    at = r * width + c / 64

    now : List ℕ
    now = set words at (bit_xor (get_or words at 0) (1 * 2 ^ (c % 64) % 18446744073709551616))

    same_place : d / 64 ≡ c / 64 → (d % 64 == c % 64) ≡ (d == c)
    same_place e = ⊎_elim (λ f. eq-eqb (d % 64) (c % 64) f ∙ sym (eq-eqb d c (omega (arith, e, f))))
        (λ ne. ne_eqb (d % 64) (c % 64) ne ∙ sym (ne_eqb d c (λ z. ne (ap (λ n. n % 64) z))))
        (cases_eq (d % 64) (c % 64))

-- a bit that is put in
pub put_bits : (width : ℕ) (words : List ℕ) (r c d : ℕ) → r * width + width ≤ length words
    → c < width * 64
    → bits_of width (set words (r * width + c / 64) (bit_or (get_or words (r * width + c / 64) 0)
    (1 * 2 ^ (c % 64) % 18446744073709551616))) r d ≡ (bits_of width words r d || (d == c))
put_bits width words r c d room lt = ⊎_elim
    (λ inside. rw (lt-ltb d (width * 64) inside) (⊎_elim
    (λ (e : d / 64 ≡ c / 64). ap (λ n. bit_at n (d % 64) == 1)
    (ap (λ k. get_or now (r * width + k) 0) e ∙ get_or-set_same words at _ 0
    (omega (arith, room)))
    ∙ ⊎_elim
    (λ (f : d % 64 ≡ c % 64). ap (λ i. bit_at
    (bit_or (get_or words at 0) (1 * 2 ^ (c % 64) % 18446744073709551616)) i == 1) f
    ∙ ap (λ b. b == 1) (bit_at_set_same w64 (get_or words at 0) (c % 64) (omega arith))
    ∙ sym (ap (λ b. (bit_at (get_or words (r * width + d / 64) 0) (d % 64) == 1) || b)
    (eq-eqb d c (omega (arith, e, f))) ∙ or_true _))
    (λ ne. ap (λ b. b == 1) (bit_at_set_other w64 (get_or words at 0) (c % 64) (omega arith)
    (d % 64) ne) ∙ ap (λ k. bit_at (get_or words (r * width + k) 0) (d % 64) == 1) (sym e)
    ∙ sym (ap (λ b. (bit_at (get_or words (r * width + d / 64) 0) (d % 64) == 1) || b)
    (ne_eqb d c (λ z. ne (ap (λ n. n % 64) z))) ∙ or_none _))
    (cases_eq (d % 64) (c % 64)))
    (λ ne. ap (λ n. bit_at n (d % 64) == 1) (get_or-set_other words at (r * width + d / 64) _ 0
    (λ e. ne (omega (arith, e)))) ∙ sym
    (ap (λ b. (bit_at (get_or words (r * width + d / 64) 0) (d % 64) == 1) || b)
    (ne_eqb d c (λ e. ne (ap (λ n. n / 64) e))) ∙ or_none _))
    (cases_eq (d / 64) (c / 64))))
    (λ le. rw (le-ltb d (width * 64) le, ne_eqb d c (λ e. omega (arith, e))) refl)
    (cases_lt d (width * 64))
  where
    at : ℕ
    at = r * width + c / 64

    now : List ℕ
    now = set words at (bit_or (get_or words at 0) (1 * 2 ^ (c % 64) % 18446744073709551616))
