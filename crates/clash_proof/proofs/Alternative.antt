-- Equations have a solution, or some of them sum to one without unknowns whose sum isn't zero.
use Rattle.std.proofs.Common.{◌≡◌, ◌≢◌, ℕ, zero, suc, ◌<◌, ◌⊎◌, inl, inr, ⊎_elim, Bool, true}
use Rattle.std.proofs.Common.{false, cond, ◌&&◌, ◌==◌, List, [], ◌∷◌, refl, sym, ap, ap₂, ◌∙◌}
use Rattle.std.proofs.Common.{subst, arith, eq-eqb, bit_xor, lit<}
use native.Mathlib.Numerals.{add-one}
use Rattle.std.specs.List.{range_with_len}
use Rattle.std.proofs.Math.Bool.{xor as bool_xor}
use Rattle.std.proofs.lemmas.Bool.{ne_eqb}
use Rattle.std.proofs.lemmas.Nat.{xor_of_8}
use Rattle.sparse_rows.specs.Closure.{Set}
use Rattle.sparse_rows.specs.Totals.{total}
use Rattle.sparse_rows.proofs.Algebra.{XorLaws, right, total_add, total_same}
use Rattle.sparse_rows.proofs.Parity.{bit_laws}
use Rattle.sparse_rows.proofs.Planes.{byte_laws}
use Rattle.sparse_rows.proofs.Sets.{true_or_false}
use Rattle.sparse_rows.proofs.Shape.{last_or_before}
use Rattle.null_witness.proofs.Bits.{search_below}
use Rattle.gauss.specs.Elimination.{product, Solves}
use Rattle.gauss.proofs.Clearing.{product_one}
use Rattle.gauss.proofs.Growing.{product_more}
use Rattle.gauss.proofs.Lists.{product_of_same}
use Rattle.gauss.proofs.Products.{mask_after, product_none, product_xor, product_zero, sum_after}

-- some bytes solve the equations
abbrev pub Solvable : ℕ → ℕ → (ℕ → Set) → (ℕ → ℕ) → Type 0
Solvable u r mask sum =
    (x : ℕ → ℕ) × ((c : ℕ) → x c < 256) × Solves 0 bit_xor u r mask sum x

-- some of the equations sum to one without unknowns whose sum isn't zero
abbrev pub Contradictory : ℕ → ℕ → (ℕ → Set) → (ℕ → ℕ) → Type 0
Contradictory u r mask sum = (comb : Set)
    × ((c : ℕ) → c < u → product false bool_xor r comb (λ j. mask j c) ≡ false)
    × (product 0 bit_xor r comb sum ≢ 0)

pub cond_small : (b : Bool) (v w : ℕ) → v < 256 → w < 256 → cond b v w < 256
cond_small true v w hv hw = hv
cond_small false v w hv hw = hw

pub total_small : (z : ℕ → ℕ) → ((c : ℕ) → z c < 256) → (cs : List ℕ)
    → total 0 bit_xor z cs < 256
total_small z h [] = lit< tt
total_small z h (c ∷ cs) = xor_of_8 (z c) (total 0 bit_xor z cs) (h c) (total_small z h cs)

pub product_small : (u : ℕ) (mask : Set) (x : ℕ → ℕ) → ((c : ℕ) → x c < 256)
    → product 0 bit_xor u mask x < 256
product_small u mask x h =
    total_small _ (λ c. cond_small (mask c) (x c) 0 (h c) (lit< tt)) (range_with_len 0 u)

pub nonzero : (n : ℕ) → (n ≢ 0) ⊎ (n ≡ 0)
nonzero zero = inr refl
nonzero (suc n) = inl (λ z. absurd (omega arith))

module _ {G : Type 0} (o : G) (add : G → G → G) (laws : XorLaws G o add) where
  product_suc : (u : ℕ) (mask : Set) (x : ℕ → G) → product o add (suc u) mask x
      ≡ add (product o add u mask x) (cond (mask u) (x u) o)
  product_suc u mask x = ap (λ n. product o add n mask x) (sym (add-one u))
      ∙ product_more o add laws u mask x

  choose : (w : Set) (v : G) (cs : List ℕ)
      → total o add (λ c. cond (w c) v o) cs ≡ cond (total false bool_xor w cs) v o
  unfolding bool_xor
  choose w v [] = refl
  choose w v (c ∷ cs) = ap (add (cond (w c) v o)) (choose w v cs)
      ∙ by_case (w c) (total false bool_xor w cs)
    where
      by_case : (p q : Bool) → add (cond p v o) (cond q v o) ≡ cond (bool_xor p q) v o
      by_case true true = laws.self v
      by_case true false = right o add laws v
      by_case false true = laws.left v
      by_case false false = laws.left o

  -- a sum of equations after row t was added to some is one of those before
  changed : (r t : ℕ) → t < r → (hit comb : Set) (y : ℕ → G)
      → product o add r comb (sum_after add hit t y)
      ≡ product o add r
      (λ j. bool_xor (comb j) (product false bool_xor r comb hit && (j == t))) y
  changed r t lt hit comb y =
      total_same o add laws _
      (λ j. add (cond (comb j) (y j) o) (cond (cond (comb j) (hit j) false) (y t) o))
      (range_with_len 0 r) (λ k d lt2. parts (comb _) (hit _) (y _))
      ∙ total_add o add laws (λ j. cond (comb j) (y j) o)
      (λ j. cond (cond (comb j) (hit j) false) (y t) o) (range_with_len 0 r)
      ∙ ap (add (product o add r comb y))
      (choose (λ j. cond (comb j) (hit j) false) (y t) (range_with_len 0 r)
      ∙ added (product false bool_xor r comb hit))
      ∙ sym (product_xor o add laws r comb
      (λ j. product false bool_xor r comb hit && (j == t)) y)
    where
      parts : (a h : Bool) (z : G) → cond a (cond h (add z (y t)) z) o
          ≡ add (cond a z o) (cond (cond a h false) (y t) o)
      parts true true z = refl
      parts true false z = sym (right o add laws z)
      parts false h z = sym (laws.left o)

      added : (b : Bool) → cond b (y t) o ≡ product o add r (λ j. b && (j == t)) y
      added true = sym (product_one o add laws r t y lt)
      added false = sym (product_none o add laws r (λ j. false) y (λ c lt2. refl))

module _ (r : ℕ) where
  -- no row has the last unknown
  no_row : (u : ℕ) (mask : ℕ → Set) (sum : ℕ → ℕ)
      → ((t : ℕ) → t < r → mask t u ≡ false)
      → Solvable u r mask sum ⊎ Contradictory u r mask sum
      → Solvable (suc u) r mask sum ⊎ Contradictory (suc u) r mask sum
  no_row u mask sum none before = ⊎_elim
      (λ w. inl (
        w.0,
        w.1,
        λ j lt. product_suc 0 bit_xor byte_laws u (mask j) w.0
            ∙ ap (λ b. bit_xor (product 0 bit_xor u (mask j) w.0) (cond b (w.0 u) 0)) (none j lt)
            ∙ right 0 bit_xor byte_laws _ ∙ w.2 j lt,
      ))
      (λ w. inr (
        w.0,
        (λ c lt. ⊎_elim
            (λ e. subst (λ d. product false bool_xor r w.0 (λ j. mask j d) ≡ false) (sym e)
            (product_zero false bool_xor bit_laws r w.0 (λ j. mask j u)
            (λ j lt2. inr (none j lt2))))
            (λ lt2. w.1 c lt2) (last_or_before c u lt)),
        w.2,
      ))
      before

  -- row t has it, and is added to each row that does
  one_row : (u : ℕ) (mask : ℕ → Set) (sum : ℕ → ℕ) → ((j : ℕ) → sum j < 256) → (t : ℕ) → t < r
      → mask t u ≡ true
      → Solvable u r (mask_after (λ j. mask j u) t mask) (sum_after bit_xor (λ j. mask j u) t sum)
      ⊎ Contradictory u r (mask_after (λ j. mask j u) t mask)
      (sum_after bit_xor (λ j. mask j u) t sum)
      → Solvable (suc u) r mask sum ⊎ Contradictory (suc u) r mask sum
  one_row u mask sum small t lt holds before = ⊎_elim
      (λ w. inl (solution w.0, solution_small w.0 w.1, solves w.0 w.2))
      (λ w. inr (
        combined w.0,
        unknowns w.0 w.1,
        λ z. w.2 (changed 0 bit_xor byte_laws r t lt hit w.0 sum ∙ z),
      ))
      before
    where
      hit : Set
      hit j = mask j u

      last : (ℕ → ℕ) → ℕ
      last x = bit_xor (sum t) (product 0 bit_xor u (mask t) x)

      solution : (ℕ → ℕ) → ℕ → ℕ
      solution x c = cond (c == u) (last x) (x c)

      solution_small : (x : ℕ → ℕ) → ((c : ℕ) → x c < 256) → (c : ℕ) → solution x c < 256
      solution_small x h c = cond_small (c == u) (last x) (x c)
          (xor_of_8 (sum t) (product 0 bit_xor u (mask t) x) (small t)
          (product_small u (mask t) x h)) (h c)

      solves : (x : ℕ → ℕ)
          → Solves 0 bit_xor u r (mask_after hit t mask) (sum_after bit_xor hit t sum) x
          → Solves 0 bit_xor (suc u) r mask sum (solution x)
      solves x h j lt2 = product_suc 0 bit_xor byte_laws u (mask j) (solution x)
          ∙ ap₂ bit_xor
          (product_of_same 0 bit_xor byte_laws u (mask j) (solution x) x
          (λ c lt3. rw (ne_eqb c u (λ e. omega arith)) refl))
          (ap (λ v. cond (mask j u) v 0) at_last)
          ∙ by_case (mask j u) (h j lt2)
        where
          at_last : solution x u ≡ last x
          at_last = rw (eq-eqb u u refl) refl

          by_case : (b : Bool)
              → product 0 bit_xor u (λ c. cond b (bool_xor (mask j c) (mask t c)) (mask j c)) x
              ≡ cond b (bit_xor (sum j) (sum t)) (sum j)
              → bit_xor (product 0 bit_xor u (mask j) x) (cond b (last x) 0) ≡ sum j
          by_case true e =
              ap (bit_xor (product 0 bit_xor u (mask j) x))
              (byte_laws.comm (sum t) (product 0 bit_xor u (mask t) x))
              ∙ sym (byte_laws.assoc (product 0 bit_xor u (mask j) x)
              (product 0 bit_xor u (mask t) x) (sum t))
              ∙ ap (λ z. bit_xor z (sum t))
              (sym (product_xor 0 bit_xor byte_laws u (mask j) (mask t) x) ∙ e)
              ∙ byte_laws.assoc (sum j) (sum t) (sum t)
              ∙ ap (bit_xor (sum j)) (byte_laws.self (sum t))
              ∙ right 0 bit_xor byte_laws (sum j)
          by_case false e = right 0 bit_xor byte_laws _ ∙ e

      combined : Set → Set
      combined comb j = bool_xor (comb j) (product false bool_xor r comb hit && (j == t))

      unknowns : (comb : Set)
          → ((c : ℕ) → c < u
          → product false bool_xor r comb (λ j. mask_after hit t mask j c) ≡ false)
          → (c : ℕ) → c < suc u
          → product false bool_xor r (combined comb) (λ j. mask j c) ≡ false
      unknowns comb h c lt2 =
          sym (changed false bool_xor bit_laws r t lt hit comb (λ j. mask j c))
          ∙ ⊎_elim
          (λ e. subst (λ d. product false bool_xor r comb (sum_after bool_xor hit t (λ j. mask j d))
          ≡ false) (sym e)
          (product_zero false bool_xor bit_laws r comb (sum_after bool_xor hit t (λ j. mask j u))
          (λ j lt3. inr (gone (mask j u)))))
          (λ lt3. h c lt3) (last_or_before c u lt2)
        where
          gone : (b : Bool) → cond b (bool_xor b (mask t u)) b ≡ false
          gone true = ap (bool_xor true) holds ∙ bit_laws.self true
          gone false = refl

  pub alternative : (u : ℕ) (mask : ℕ → Set) (sum : ℕ → ℕ) → ((j : ℕ) → sum j < 256)
      → Solvable u r mask sum ⊎ Contradictory u r mask sum
  alternative zero mask sum small = ⊎_elim
      (λ w. inr (
        (λ j. j == w.0),
        (λ c lt. absurd (omega arith)),
        λ z. w.2 (sym (product_one 0 bit_xor byte_laws r w.0 sum w.1) ∙ z),
      ))
      (λ zeros. inl ((λ c. 0), (λ c. lit< tt), λ j lt. sym (zeros j lt)))
      (search_below (λ j. sum j ≢ 0) (λ j. sum j ≡ 0) (λ j. nonzero (sum j)) r)
  alternative (suc u) mask sum small = ⊎_elim
      (λ w. one_row u mask sum small w.0 w.1 w.2
      (alternative u (mask_after (λ j. mask j u) w.0 mask)
      (sum_after bit_xor (λ j. mask j u) w.0 sum)
      (λ j. cond_small (mask j u) (bit_xor (sum j) (sum w.0)) (sum j)
      (xor_of_8 (sum j) (sum w.0) (small j) (small w.0)) (small j))))
      (λ none. no_row u mask sum none (alternative u mask sum small))
      (search_below (λ t. mask t u ≡ true) (λ t. mask t u ≡ false)
      (λ t. true_or_false (mask t u)) r)
