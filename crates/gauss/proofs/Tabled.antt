-- A group of unknowns eliminated by a table: the rows as they will be take the step of a plain
-- elimination.
use mathlib.Core.Path.{fun_ext}
use Rattle.std.proofs.Common.{◌≡◌, ◌≢◌, ℕ, ◌+◌, ◌*◌, ◌/◌, ◌%◌, ◌^◌, ◌<◌, ◌≤◌, ⊎_elim, Bool, true}
use Rattle.std.proofs.Common.{false, cond, not, ◌&&◌, ◌==◌, List, length, get_or, set, refl, sym}
use Rattle.std.proofs.Common.{ap, ap₂, ◌∙◌, subst, arith, eq-eqb, ltb, nat_eq, bit_and, le_refl}
use Rattle.std.proofs.Common.{get_or-set_same, get_or-set_other}
use Rattle.std.specs.Int.{bit_at}
use Rattle.std.specs.Bool.{beq}
use Rattle.std.proofs.Math.Bool.{xor as bool_xor}
use Rattle.std.proofs.Math.Nat.{div-div-eq-div-mul, mul-le-mul_right, zero-div}
use Rattle.std.proofs.lemmas.Nat.{pow-add, div-add-mod'}
use Rattle.std.proofs.lemmas.Nat.Bits.{bit_at_cat_low, bit_at-zero, shr_and_one}
use Rattle.std.proofs.lemmas.List.{get_or_past}
use Rattle.std.proofs.lemmas.Bool.{lt-ltb, le-ltb, cases_lt, cases_eq, ne_eqb}
use Rattle.sparse_rows.specs.Closure.{Set}
use Rattle.sparse_rows.proofs.Parity.{bit_laws}
use Rattle.gauss.specs.Packed.{bits_of, byte_of}
use Rattle.gauss.specs.Table.{virtual}
use Rattle.gauss.specs.Elimination.{IsCandidate, IsTaken, lead_of}
use Rattle.gauss.proofs.Taken.{taken_is}

-- ---- bytes

-- a bit of a part of eight bits
part_bit : (n s q : ℕ) → q < 8 → bit_at n (s + q) ≡ bit_at (n / 2 ^ s % 256) q
part_bit n s q lt = ap (λ m. n / m % 2) (pow-add 2 s q)
    ∙ ap (λ m. m % 2) (sym (div-div-eq-div-mul n (2 ^ s) (2 ^ q)))
    ∙ ap (λ m. bit_at m q) (sym (div-add-mod' (n / 2 ^ s) 256)) ∙ bit_at_cat_low (n / 2 ^ s / 256) 8
    (n / 2 ^ s % 256) q lt

-- a row's bit is one of its byte
pub bit_of_byte : (width : ℕ) (words : List ℕ) (j g i : ℕ) → i / 8 ≡ g → i < width * 64
    → bits_of width words j i ≡ (bit_at (byte_of width words j g) (i % 8) == 1)
bit_of_byte width words j g i e lt = rw (lt-ltb i (width * 64) lt)
    (ap₂ (λ k m. bit_at (get_or words (j * width + k) 0) m == 1) word place
    ∙ ap (λ b. b == 1) (part_bit (get_or words (j * width + g / 8) 0) (g % 8 * 8) (i % 8)
    (omega arith)))
  where
    word : i / 64 ≡ g / 8
    word = omega (arith, e)

    place : i % 64 ≡ g % 8 * 8 + i % 8
    place = omega (arith, e)

-- past the rows the byte is zero
pub byte_past : (width rows : ℕ) (words : List ℕ) (j g : ℕ) → length words ≡ rows * width → rows ≤ j
    → byte_of width words j g ≡ 0
byte_past width rows words j g long le = ap (λ n. n / 2 ^ (g % 8 * 8) % 256)
    (get_or_past words (j * width + g / 8) 0 (omega (arith, long, mul-le-mul_right width le)))
    ∙ ap (λ n. n % 256) (zero-div (2 ^ (g % 8 * 8)))

-- ---- one unknown

-- a row that is added to the table where a row with the byte will have the unknown
added : (b : Bool) (x y z : Bool) → bool_xor x (cond b (bool_xor y z) y)
    ≡ cond b (bool_xor (bool_xor x y) z) (bool_xor x y)
added true x y z = sym (bit_laws.assoc x y z)
added false x y z = refl

module _ (u width g i t rows : ℕ) (words mid now table table_now : List ℕ) (pivots leads : List ℕ)
    (is : IsCandidate u rows i (virtual u width g words table leads) leads t) (below : i < u)
    (count : length leads ≡ rows)
    (group : i / 8 ≡ g) (inside : i < width * 64)
    (made : (c : ℕ) → bits_of width mid t c ≡ bool_xor (bits_of width words t c)
    (bits_of width table (byte_of width words t g) c))
    (turned : (c : ℕ) → bits_of width now t c ≡ bool_xor (bits_of width mid t c) (c == i))
    (kept : (j c : ℕ) → j ≢ t → bits_of width now j c ≡ bits_of width words j c)
    (bytes : (j : ℕ) → j ≢ t → byte_of width now j g ≡ byte_of width words j g)
    (small : (j : ℕ) → byte_of width words j g < 256)
    (updated : (b c : ℕ) → b < 256
    → bits_of width table_now b c ≡ cond
    (bool_xor (bit_at b (i % 8) == 1) (bits_of width table b i))
    (bool_xor (bits_of width table b c) (bits_of width now t c)) (bits_of width table b c))
  where
    abbrev pub before : ℕ → Set
    before = virtual u width g words table leads

    abbrev pub after : ℕ → Set
    after = virtual u width g now table_now (set leads t i)

    -- the rows as they will be, with the bit of the pivot row turned
    without : ℕ → Set
    without j c = cond (j == t) (bool_xor (before t c) (c == i)) (before j c)

    unled : ltb (lead_of u leads t) u ≡ false
    unled = le-ltb (lead_of u leads t) u is.unled

    led_now : ltb (lead_of u (set leads t i) t) u ≡ true
    led_now = ap (λ n. ltb n u) (get_or-set_same leads t i u (omega (arith, count, is.inside)))
        ∙ lt-ltb i u below

    lead_same : (j : ℕ) → j ≢ t → lead_of u (set leads t i) j ≡ lead_of u leads j
    lead_same j ne = get_or-set_other leads t j i u ne

    pivot_is : (c : ℕ) → bits_of width now t c ≡ without t c
    unfolding without
    pivot_is c = turned c ∙ ap (λ b. bool_xor b (c == i)) (made c) ∙ rw (eq-eqb t t refl, unled)
        refl

    without_other : (j c : ℕ) → j ≢ t → without j c ≡ before j c
    unfolding without
    without_other j c ne = rw (ne_eqb j t ne) refl

    at_pivot : (c : ℕ) → after t c ≡ cond (not (ltb (lead_of u (set leads t i) t) u) && without t i)
        (bool_xor (without t c) (without t c)) (without t c)
    at_pivot c = rw led_now (pivot_is c)

    at_led : (j c : ℕ) → j ≢ t → ltb (lead_of u leads j) u ≡ true
        → after j c ≡ cond (not (ltb (lead_of u (set leads t i) j) u) && without j i)
        (bool_xor (without j c) (without t c)) (without j c)
    at_led j c ne led = rw (lead_same j ne, led) (kept j c ne
        ∙ sym (without_other j c ne ∙ rw led refl))

    will_be : (j c : ℕ) → j ≢ t → ltb (lead_of u leads j) u ≡ false
        → bool_xor (bits_of width words j c) (bits_of width table (byte_of width words j g) c)
        ≡ without j c
    will_be j c ne free = sym (without_other j c ne ∙ rw free refl)

    at_free : (j c : ℕ) → j ≢ t → ltb (lead_of u leads j) u ≡ false
        → after j c ≡ cond (not (ltb (lead_of u (set leads t i) j) u) && without j i)
        (bool_xor (without j c) (without t c)) (without j c)
    at_free j c ne free = rw (lead_same j ne, free)
        (ap₂ (λ x b. bool_xor x (bits_of width table_now b c)) (kept j c ne) (bytes j ne)
        ∙ ap (bool_xor (bits_of width words j c)) (updated (byte_of width words j g) c (small j)
        ∙ ap₂ (λ x z. cond (bool_xor x (bits_of width table (byte_of width words j g) i))
        (bool_xor (bits_of width table (byte_of width words j g) c) z)
        (bits_of width table (byte_of width words j g) c))
        (sym (bit_of_byte width words j g i group inside)) (pivot_is c))
        ∙ added (bool_xor (bits_of width words j i) (bits_of width table (byte_of width words j g)
        i))
        (bits_of width words j c) (bits_of width table (byte_of width words j g) c) (without t c)
        ∙ ap₂ (λ b x. cond b (bool_xor x (without t c)) x) (will_be j i ne free)
        (will_be j c ne free))

    clears : (j c : ℕ) → after j c ≡ cond (not (ltb (lead_of u (set leads t i) j) u) && without j i)
        (bool_xor (without j c) (without t c)) (without j c)
    clears j c = ⊎_elim (λ e. subst
        (λ k. after k c ≡ cond (not (ltb (lead_of u (set leads t i) k) u) && without k i)
        (bool_xor (without k c) (without t c)) (without k c)) (sym e) (at_pivot c))
        (λ ne. by_lead ne (ltb (lead_of u leads j) u) refl) (cases_eq j t)
      where
        by_lead : j ≢ t → (b : Bool) → ltb (lead_of u leads j) u ≡ b
            → after j c ≡ cond (not (ltb (lead_of u (set leads t i) j) u) && without j i)
            (bool_xor (without j c) (without t c)) (without j c)
        by_lead ne true e = at_led j c ne e
        by_lead ne false e = at_free j c ne e

    -- one step by the table is one step of a plain elimination of the rows as they will be
    pub step_is : IsTaken u rows i t before after pivots leads (set pivots i t) (set leads t i)
    unfolding without
    step_is = taken_is u rows i t before without after (without t) pivots leads is below count
        (λ c. rw (eq-eqb t t refl) refl) (λ j c ne. without_other j c ne) (λ c. refl) clears

-- ---- tests of two bits

pub test_is : (n s : ℕ) (b other t : Bool) → b ≡ other
    → not (beq (nat_eq (bit_and (n / 2 ^ s) 1) 1) b) ≡ t → bool_xor (bit_at n s == 1) other ≡ t
unfolding bool_xor
test_is n s b other t e h = ap₂ bool_xor (ap (λ m. m == 1) (sym (shr_and_one n s))) (sym e) ∙ h

-- ---- a table of zeros, and the rows that it was added to

zero_bit : (width : ℕ) (words : List ℕ) (j c : ℕ) → ((k : ℕ) → get_or words k 0 ≡ 0)
    → bits_of width words j c ≡ false
zero_bit width words j c none =
    ⊎_elim (λ lt. rw (lt-ltb c (width * 64) lt)
    (ap (λ n. bit_at n (c % 64) == 1) (none (j * width + c / 64))
    ∙ ap (λ n. n == 1) (bit_at-zero (c % 64)))) (λ le. rw (le-ltb c (width * 64) le) refl)
    (cases_lt c (width * 64))

-- before the first unknown of a group the rows are as they will be
pub virtual_none : (u width g : ℕ) (words table leads : List ℕ) → ((k : ℕ) → get_or table k 0 ≡ 0)
    → virtual u width g words table leads ≡ bits_of width words
virtual_none u width g words table leads none =
    fun_ext (λ j. fun_ext (λ c. by_case (ltb (lead_of u leads j) u) (bits_of width words j c)
    (bits_of width table (byte_of width words j g) c)
    (zero_bit width table (byte_of width words j g) c none)))
  where
    by_case : (b : Bool) (x y : Bool) → y ≡ false → cond b x (bool_xor x y) ≡ x
    by_case true x y e = refl
    by_case false x y e = ap (bool_xor x) e ∙ bit_laws.comm x false ∙ bit_laws.left x

pub none_zero : (width : ℕ) (words : List ℕ) (c : ℕ) → ((k : ℕ) → get_or words k 0 ≡ 0)
    → bits_of width words 0 c ≡ false
none_zero width words c none = zero_bit width words 0 c none

-- a row past the end has no bit, and gets none
pub virtual_past : (u width g rows : ℕ) (words table leads : List ℕ) (j c : ℕ)
    → length words ≡ rows * width → length leads ≡ rows → rows ≤ j
    → ((d : ℕ) → bits_of width table 0 d ≡ false) → virtual u width g words table leads j c
    ≡ bits_of width words j c
virtual_past u width g rows words table leads j c long count le zero =
    ap (λ n. cond (ltb n u) (bits_of width words j c) (bool_xor (bits_of width words j c)
    (bits_of width table (byte_of width words j g) c))) (get_or_past leads j u (rw count le))
    ∙ rw (le-ltb u u (le_refl u)) (ap (λ b. bool_xor (bits_of width words j c)
    (bits_of width table b c)) (byte_past width rows words j g long le)
    ∙ ap (bool_xor (bits_of width words j c)) (zero c) ∙ bit_laws.comm _ false
    ∙ bit_laws.left _)
