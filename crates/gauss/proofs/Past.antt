-- Rows past the end: they have no bits.
use Rattle.std.proofs.Common.{◌≡◌, ℕ, ◌+◌, ◌*◌, ◌/◌, ◌%◌, ◌^◌, ◌≤◌, ◌==◌, ⊎_elim, false, List}
use Rattle.std.proofs.Common.{length, get_or, refl, ap, ◌∙◌, arith}
use Rattle.std.specs.Int.{bit_at}
use Rattle.std.proofs.Math.Nat.{mul-le-mul_right, zero-div}
use Rattle.std.proofs.lemmas.Bool.{cases_lt, le-ltb, lt-ltb}
use Rattle.std.proofs.lemmas.List.{get_or_past}
use Rattle.std.proofs.lemmas.Nat.Bits.{bit_at-zero}
use Rattle.gauss.specs.Packed.{bits_of, byte_of}

-- a word of such a row is zero
word_past : (rows width j k : ℕ) (words : List ℕ) → length words ≡ rows * width → rows ≤ j
    → get_or words (j * width + k) 0 ≡ 0
word_past rows width j k words long le = get_or_past words (j * width + k) 0 past
  where
    past : length words ≤ j * width + k
    past = let room : rows * width ≤ j * width = mul-le-mul_right width le in
        omega (arith, long, room)

pub bits_past : (rows width j : ℕ) (words : List ℕ) → length words ≡ rows * width → rows ≤ j
    → (c : ℕ) → bits_of width words j c ≡ false
bits_past rows width j words long le c = ⊎_elim
    (λ lt. rw (lt-ltb c (width * 64) lt)
    (ap (λ n. bit_at n (c % 64) == 1) (word_past rows width j (c / 64) words long le)
    ∙ ap (λ n. n == 1) (bit_at-zero (c % 64))))
    (λ le2. rw (le-ltb c (width * 64) le2) refl) (cases_lt c (width * 64))

pub byte_past : (rows width j group : ℕ) (words : List ℕ) → length words ≡ rows * width → rows ≤ j
    → byte_of width words j group ≡ 0
byte_past rows width j group words long le = ap (λ n. n / 2 ^ (group % 8 * 8) % 256)
    (word_past rows width j (group / 8) words long le)
    ∙ ap (λ n. n % 256) (zero-div (2 ^ (group % 8 * 8)))
