-- What a mask takes from symbols, and that adding a row to others keeps the solutions.
use Rattle.std.proofs.Common.{◌≡◌, ◌≢◌, ℕ, ◌<◌, ◌⊎◌, ⊎_elim, Bool, true, false, not, cond, ◌||◌}
use Rattle.std.proofs.Common.{◌==◌, [], ◌∷◌, get_or, filter, refl, sym, ap, ap₂, ◌∙◌, subst, arith}
use Rattle.std.proofs.Common.{true≢false, eqb-true, eq-eqb}
use Rattle.std.specs.List.{range_with_len}
use Rattle.std.proofs.Math.Bool.{xor as bool_xor}
use Rattle.std.proofs.lemmas.Bool.{cases_lt, false_from_ne_true, ne_eqb, not-true}
use Rattle.sparse_rows.specs.Closure.{Set, members}
use Rattle.sparse_rows.specs.Matrix.{is_in}
use Rattle.sparse_rows.proofs.Algebra.{XorLaws, total_same, total_add, total_split, total_agree}
use Rattle.sparse_rows.proofs.Algebra.{total_zero, right, cancel}
use Rattle.sparse_rows.specs.Totals.{total}
use Rattle.sparse_rows.proofs.Sets.{same_test}
use Rattle.sparse_rows.proofs.Increasing.{rising_same}
use Rattle.gauss.specs.Elimination.{product, Solves}
use Rattle.sparse_rows.proofs.Null.{members_rise, members_same, members_below, in_all, range_below}

-- the only member of the set of the columns that are p
only : (u p : ℕ) → p < u → filter (λ c. c == p) (range_with_len 0 u) ≡ p ∷ []
only u p lt = rising_same (members u (λ c. c == p)) (p ∷ []) (members_rise u (λ c. c == p))
    (λ k lt2. absurd (omega (arith, lt2))) same
  where
    same : (c : ℕ) → is_in (members u (λ d. d == p)) c ≡ is_in (p ∷ []) c
    same c = ⊎_elim (λ lt2. members_same u (λ d. d == p) c lt2
        ∙ flip (c == p) (p == c) (same_test _ _ (λ e. eq-eqb p c (sym (eqb-true c p e)))
        (λ e. eq-eqb c p (sym (eqb-true p c e)))))
        (λ le. false_from_ne_true _ (λ e. let lt2 : c < u = in_all (λ d. d < u)
        (members u (λ d. d == p)) (members_below u (λ d. d == p)) c e in absurd (omega arith))
        ∙ sym (rw (ne_eqb p c (λ e. omega arith)) refl)) (cases_lt c u)
      where
        flip : (a b : Bool) → a ≡ b → a ≡ (b || false)
        flip true b e = rw (← e) refl
        flip false b e = rw (← e) refl

-- the rows with row t added to each that is hit
abbrev pub mask_after : (ℕ → Bool) → ℕ → (ℕ → Set) → ℕ → Set
mask_after hit t mask j c = cond (hit j) (bool_xor (mask j c) (mask t c)) (mask j c)

-- the sums with that of row t added to each that is hit
abbrev pub sum_after : {G : Type 0} → (G → G → G) → (ℕ → Bool) → ℕ → (ℕ → G) → ℕ → G
sum_after add hit t sum j = cond (hit j) (add (sum j) (sum t)) (sum j)

module _ {G : Type 0} (o : G) (add : G → G → G) (laws : XorLaws G o add) where
  -- a sum with one part that isn't zero
  pub total_at : (u p : ℕ) (y : ℕ → G) → p < u → ((c : ℕ) → c < u → c ≢ p → y c ≡ o)
      → total o add y (range_with_len 0 u) ≡ y p
  total_at u p y lt h =
      total_same o add laws y alone (range_with_len 0 u)
      (λ k d lt2. at_each (get_or (range_with_len 0 u) k d) (range_below u k d lt2))
      ∙ total_split o add laws (λ c. c == p) alone (range_with_len 0 u)
      ∙ ap₂ add (ap (total o add alone) (only u p lt) ∙ right o add laws (alone p) ∙ alone_at)
      (total_agree o add laws (λ c. not (c == p)) alone (λ c. o)
      (λ c e. alone_off c (not-true (c == p) e)) (range_with_len 0 u) ∙ none)
      ∙ right o add laws (y p)
    where
      alone : ℕ → G
      alone c = cond (c == p) (y c) o

      alone_at : alone p ≡ y p
      alone_at = rw (eq-eqb p p refl) refl

      alone_off : (c : ℕ) → (c == p) ≡ false → alone c ≡ o
      alone_off c e = rw e refl

      none : total o add (λ c. o) (filter (λ c. not (c == p)) (range_with_len 0 u)) ≡ o
      none = total_zero o add laws _

      at_each : (c : ℕ) → c < u → y c ≡ alone c
      at_each c lt2 = by_case (c == p) refl
        where
          by_case : (b : Bool) → (c == p) ≡ b → y c ≡ cond (c == p) (y c) o
          by_case true e = rw e refl
          by_case false e = rw e (h c lt2 (λ z. true≢false (sym (eq-eqb c p z) ∙ e)))

  -- where the parts agree below u the products do
  pub product_same : (u : ℕ) (a b : Set) (x : ℕ → G) → ((c : ℕ) → c < u → a c ≡ b c)
      → product o add u a x ≡ product o add u b x
  product_same u a b x h = total_same o add laws _ _ (range_with_len 0 u)
      (λ k d lt. ap (λ t. cond t (x (get_or (range_with_len 0 u) k d)) o)
      (h _ (range_below u k d lt)))

  pub product_none : (u : ℕ) (a : Set) (x : ℕ → G) → ((c : ℕ) → c < u → a c ≡ false)
      → product o add u a x ≡ o
  product_none u a x h = product_same u a (λ c. false) x h
      ∙ total_zero o add laws (range_with_len 0 u)

  pub product_xor : (u : ℕ) (a b : Set) (x : ℕ → G) → product o add u (λ c. bool_xor (a c) (b c)) x
      ≡ add (product o add u a x) (product o add u b x)
  unfolding bool_xor
  product_xor u a b x = total_same o add laws _ _ (range_with_len 0 u)
      (λ k d lt. by_case (a _) (b _) (x _)) ∙ total_add o add laws (λ c. cond (a c) (x c) o)
      (λ c. cond (b c) (x c) o) (range_with_len 0 u)
    where
      by_case : (p q : Bool) (v : G) → cond (bool_xor p q) v o ≡ add (cond p v o) (cond q v o)
      by_case true true v = sym (laws.self v)
      by_case true false v = sym (right o add laws v)
      by_case false true v = sym (laws.left v)
      by_case false false v = sym (laws.left o)

  -- where each unknown below u is out of the mask or has zero
  pub product_zero : (u : ℕ) (a : Set) (x : ℕ → G) → ((c : ℕ) → c < u → (a c ≡ false) ⊎ (x c ≡ o))
      → product o add u a x ≡ o
  product_zero u a x h = total_same o add laws _ (λ c. o) (range_with_len 0 u)
      (λ k d lt. at_each (get_or (range_with_len 0 u) k d) (range_below u k d lt))
      ∙ total_zero o add laws (range_with_len 0 u)
    where
      at_zero : (b : Bool) (v : G) → v ≡ o → cond b v o ≡ o
      at_zero true v e = e
      at_zero false v e = refl

      at_each : (c : ℕ) → c < u → cond (a c) (x c) o ≡ o
      at_each c lt = ⊎_elim (λ e. ap (λ b. cond b (x c) o) e) (λ e. at_zero (a c) (x c) e) (h c lt)

  -- ---- row operations

  -- what solves the rows solves them with one row added to others
  pub op_keeps : (u r : ℕ) (hit : ℕ → Bool) (t : ℕ) (mask : ℕ → Set) (sum : ℕ → G) (x : ℕ → G)
      → t < r → Solves o add u r mask sum x
      → Solves o add u r (mask_after hit t mask) (sum_after add hit t sum) x
  op_keeps u r hit t mask sum x lt h j lt2 = by_case (hit j)
    where
      by_case : (b : Bool) → product o add u (λ c. cond b (bool_xor (mask j c) (mask t c))
          (mask j c)) x ≡ cond b (add (sum j) (sum t)) (sum j)
      by_case true = product_xor u (mask j) (mask t) x ∙ ap₂ add (h j lt2) (h t lt)
      by_case false = h j lt2

  -- and back, where the row that is added isn't hit
  pub op_undoes : (u r : ℕ) (hit : ℕ → Bool) (t : ℕ) (mask : ℕ → Set) (sum : ℕ → G) (x : ℕ → G)
      → t < r → hit t ≡ false → Solves o add u r (mask_after hit t mask) (sum_after add hit t sum) x
      → Solves o add u r mask sum x
  op_undoes u r hit t mask sum x lt e h j lt2 = by_case (hit j) refl (h j lt2)
    where
      row_t : product o add u (mask t) x ≡ sum t
      row_t = subst (λ b. product o add u (λ c. cond b (bool_xor (mask t c) (mask t c)) (mask t c))
          x ≡ cond b (add (sum t) (sum t)) (sum t)) e (h t lt)

      by_case : (b : Bool) → hit j ≡ b
          → product o add u (λ c. cond b (bool_xor (mask j c) (mask t c)) (mask j c)) x
          ≡ cond b (add (sum j) (sum t)) (sum j) → product o add u (mask j) x ≡ sum j
      by_case true f g = cancel o add laws (sum t) _ _ (ap (λ z. add z (product o add u (mask j) x))
          (sym row_t) ∙ laws.comm _ _ ∙ sym (product_xor u (mask j) (mask t) x) ∙ g ∙ laws.comm _ _)
      by_case false f g = g
