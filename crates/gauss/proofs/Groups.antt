-- Back substitution of symbols by a table of each group of eight unknowns. A group is a test on the
-- unknown,
-- and so nothing is shifted: each law is an equation of masks, unknown by unknown.
use Rattle.std.proofs.Common.{◌≡◌, ℕ, ◌+◌, ◌-◌, ◌*◌, ◌/◌, ◌%◌, ◌^◌, ◌<◌, ⊎_elim, Bool, true, false}
use Rattle.std.proofs.Common.{cond, not, ◌&&◌, ◌==◌, refl, sym, ap, ap₂, ◌∙◌, arith, ltb, eq-eqb}
use Rattle.std.specs.Int.{bit_at}
use Rattle.std.proofs.Math.Bool.{xor as bool_xor}
use Rattle.std.proofs.lemmas.Bool.{lt-ltb, le-ltb, cases_lt, cases_eq, ne_eqb}
use Rattle.std.proofs.lemmas.Nat.Bits.{bit_at-zero, bit_at_above, bit_at_cat_low, bit_at_cat_high}
use Rattle.std.proofs.lemmas.Nat.Bits.{bit_at-pow_same, bit_at-pow_other}
use Rattle.sparse_rows.specs.Closure.{Set}
use Rattle.sparse_rows.proofs.Algebra.{XorLaws}
use Rattle.sparse_rows.proofs.Parity.{bit_laws}
use Rattle.gauss.specs.Elimination.{product}
use Rattle.gauss.specs.Groups.{entry, in_group}
use Rattle.gauss.proofs.Products.{product_same, product_xor, product_none}
use Rattle.gauss.proofs.Clearing.{product_one, which}

-- the bits of a number, as a set
abbrev pub bits_in : ℕ → Set
bits_in b q = bit_at b q == 1

xor_no : (b : Bool) → b ≡ bool_xor b false
xor_no b = sym (bit_laws.comm b false ∙ bit_laws.left b)

-- the bits of 2 ^ q + b, where b has none from q on: those of b, and q
double_bits : (q b r : ℕ) → b < 2 ^ q → bits_in (1 * 2 ^ q + b) r ≡ bool_xor (bits_in b r) (r == q)
double_bits q b r lt = ⊎_elim
    (λ low. ap (λ n. n == 1) (bit_at_cat_low 1 q b r low)
    ∙ sym (ap (bool_xor (bits_in b r)) (ne_eqb r q (λ e. omega (arith, e))) ∙ sym (xor_no _)))
    (⊎_elim
    (λ (e : r ≡ q). ap (λ n. n == 1) (bit_at_cat_high 1 q b r lt (omega (arith, e))
    ∙ ap (bit_at 1) (none e) ∙ bit_at-pow_same 0)
    ∙ sym (ap₂ bool_xor (ap (λ n. n == 1) (bit_at_above b q r lt (omega (arith, e)))) (eq-eqb r q e)
    ∙ bit_laws.left true))
    (λ high. ap (λ n. n == 1) (bit_at_cat_high 1 q b r lt (omega arith) ∙ bit_at-pow_other 0 (r - q)
    (λ e. omega (arith, e)))
    ∙ sym (ap₂ bool_xor (ap (λ n. n == 1) (bit_at_above b q r lt (omega arith)))
    (ne_eqb r q (λ e. omega (arith, e))) ∙ bit_laws.self false)))
    (which r q)
  where
    none : r ≡ q → r - q ≡ 0
    none e = omega (arith, e)

-- the members of a mask in group g and those behind it
abbrev pub from_group : ℕ → Set → Set
from_group g mask c = not (ltb (c / 8) g) && mask c

module _ {G : Type 0} (o : G) (add : G → G → G) (laws : XorLaws G o add) (u : ℕ) where
  pub entry_none : (g : ℕ) (x : ℕ → G) → entry o add u g x 0 ≡ o
  entry_none g x = product_none o add laws u (in_group g (λ c. bits_in 0 (c % 8))) x
      (λ c lt. ap (λ m. (c / 8 == g) && (m == 1)) (bit_at-zero (c % 8)) ∙ no (c / 8 == g))
    where
      no : (b : Bool) → (b && false) ≡ false
      no true = refl
      no false = refl

  -- the second half of the entries: the first half with one symbol more, if there is one
  pub entry_double : (g q b : ℕ) (x : ℕ → G) → q < 8 → b < 2 ^ q → entry o add u g x (1 * 2 ^ q + b)
      ≡ add (entry o add u g x b) (cond (ltb (8 * g + q) u) (x (8 * g + q)) o)
  entry_double g q b x lt low = product_same o add laws u _
      (λ c. bool_xor (in_group g (λ d. bits_in b (d % 8)) c) (c == 8 * g + q)) x (λ c lt2. at c)
      ∙ product_xor o add laws u (in_group g (λ d. bits_in b (d % 8))) (λ c. c == 8 * g + q) x
      ∙ ap (add (entry o add u g x b))
      (⊎_elim (λ inside. product_one o add laws u (8 * g + q) x inside
      ∙ sym (rw (lt-ltb (8 * g + q) u inside) refl))
      (λ past. product_none o add laws u (λ c. c == 8 * g + q) x
      (λ c lt2. ne_eqb c (8 * g + q) (λ e. omega (arith, e)))
      ∙ sym (rw (le-ltb (8 * g + q) u past) refl)) (cases_lt (8 * g + q) u))
    where
      place : (c : ℕ) → c / 8 ≡ g → (c % 8 == q) ≡ (c == 8 * g + q)
      place c e = ⊎_elim (λ f. eq-eqb (c % 8) q f
          ∙ sym (eq-eqb c (8 * g + q) (omega (arith, e, f)))) (λ ne. ne_eqb (c % 8) q ne
          ∙ sym (ne_eqb c (8 * g + q) (λ z. ne (omega (arith, z, lt))))) (cases_eq (c % 8) q)

      at : (c : ℕ) → in_group g (λ d. bits_in (1 * 2 ^ q + b) (d % 8)) c
          ≡ bool_xor (in_group g (λ d. bits_in b (d % 8)) c) (c == 8 * g + q)
      at c = ⊎_elim (λ e. rw (eq-eqb (c / 8) g e) (double_bits q b (c % 8) low
          ∙ ap (bool_xor (bits_in b (c % 8))) (place c e)))
          (λ ne. rw (ne_eqb (c / 8) g ne, ne_eqb c (8 * g + q) (λ z. ne (omega (arith, z, lt))))
          (sym (bit_laws.self false))) (cases_eq (c / 8) g)

  -- what a row has in the group is the entry of its byte
  pub entry_of_row : (g b : ℕ) (mask : Set) (x : ℕ → G)
      → ((c : ℕ) → c < u → c / 8 ≡ g → mask c ≡ bits_in b (c % 8))
      → entry o add u g x b ≡ product o add u (in_group g mask) x
  entry_of_row g b mask x same = product_same o add laws u _ _ x
      (λ c lt. ⊎_elim (λ e. rw (eq-eqb (c / 8) g e) (sym (same c lt e)))
      (λ ne. rw (ne_eqb (c / 8) g ne) refl) (cases_eq (c / 8) g))

  -- backward: one group more behind
  pub backward_step : (g : ℕ) (mask : Set) (x : ℕ → G) → product o add u (from_group g mask) x
      ≡ add (product o add u (from_group (g + 1) mask) x) (product o add u (in_group g mask) x)
  backward_step g mask x = product_same o add laws u _ (λ c. bool_xor (from_group (g + 1) mask c)
      (in_group g mask c)) x (λ c lt. ⊎_elim
      (λ low. rw (
        lt-ltb (c / 8) (g + 1) (omega arith),
        lt-ltb (c / 8) g low,
        ne_eqb (c / 8) g (λ e. omega (arith, e)),
      ) (sym (bit_laws.self false)))
      (⊎_elim (λ e. rw (
        lt-ltb (c / 8) (g + 1) (omega (arith, e)),
        le-ltb (c / 8) g (omega (arith, e)),
        eq-eqb (c / 8) g e,
      ) (sym (bit_laws.left (mask c))))
      (λ high. rw (
        le-ltb (c / 8) (g + 1) (omega arith),
        le-ltb (c / 8) g (omega arith),
        ne_eqb (c / 8) g (λ e. omega (arith, e)),
      ) (xor_no (mask c))))
      (which (c / 8) g)) ∙ product_xor o add laws u (from_group (g + 1) mask) (in_group g mask) x
