-- A product with one more unknown.
use Rattle.std.proofs.Common.{◌≡◌, ℕ, ◌+◌, cond, List, [], ◌∷◌, ◌++◌, sym, ap, ◌∙◌, arith}
use Rattle.std.specs.List.{range_with_len}
use Rattle.std.proofs.lemmas.List.{map-id}
use Rattle.std.proofs.lemmas.List.FromFn.{map-range_with_len_more}
use Rattle.sparse_rows.specs.Closure.{Set}
use Rattle.sparse_rows.proofs.Algebra.{XorLaws, right}
use Rattle.sparse_rows.specs.Totals.{total}
use Rattle.gauss.specs.Elimination.{product}

range_more : (n : ℕ) → range_with_len 0 (n + 1) ≡ range_with_len 0 n ++ n ∷ []
range_more n = sym (map-id (range_with_len 0 (n + 1))) ∙ map-range_with_len_more (λ (x : ℕ). x) 0 n
    n (omega arith) ∙ ap (λ xs. xs ++ n ∷ []) (map-id (range_with_len 0 n))

module _ {G : Type 0} (o : G) (add : G → G → G) (laws : XorLaws G o add) where
  total_push : (x : ℕ → G) (cs : List ℕ) (c : ℕ)
      → total o add x (cs ++ c ∷ []) ≡ add (total o add x cs) (x c)
  total_push x [] c = right o add laws (x c) ∙ sym (laws.left (x c))
  total_push x (d ∷ cs) c = ap (add (x d)) (total_push x cs c)
      ∙ sym (laws.assoc (x d) (total o add x cs) (x c))

  pub product_more : (n : ℕ) (mask : Set) (x : ℕ → G)
      → product o add (n + 1) mask x ≡ add (product o add n mask x) (cond (mask n) (x n) o)
  product_more n mask x = ap (total o add (λ c. cond (mask c) (x c) o)) (range_more n)
      ∙ total_push (λ c. cond (mask c) (x c) o) (range_with_len 0 n) n

  -- a sum to which the next part is added, if the mask has it
  pub product_step : (n : ℕ) (mask : Set) (x : ℕ → G) (first sum now : G)
      → sum ≡ add first (product o add n mask x) → now ≡ add sum (cond (mask n) (x n) o)
      → now ≡ add first (product o add (n + 1) mask x)
  product_step n mask x first sum now h e = e ∙ ap (λ s. add s (cond (mask n) (x n) o)) h
      ∙ laws.assoc first (product o add n mask x) (cond (mask n) (x n) o)
      ∙ ap (add first) (sym (product_more n mask x))
