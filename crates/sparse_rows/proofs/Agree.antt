-- What agrees on the source symbols and makes the rows sum alike agrees everywhere.
use Rattle.std.proofs.Common.{⊎_elim, ◌≡◌, ℕ, zero, suc, ◌+◌, ◌<◌, ◌≤◌, [], length, get_or, arith}
use Rattle.std.proofs.Common.{le_refl, add-zero, add-suc, ltb-true}
use Rattle.sparse_rows.specs.Matrix.{Matrix, HasShape}
use Rattle.sparse_rows.proofs.Algebra.{XorLaws, one_left}
use Rattle.sparse_rows.specs.Totals.{total}
use Rattle.sparse_rows.proofs.Shape.{below, last_outside, last_or_before}

module _ {G : Type 0} (o : G) (add : G → G → G) (laws : XorLaws G o add) where
  agree_source_to : (m : Matrix) → HasShape m → (x y : ℕ → G)
      → ((i : ℕ) → i < length m.rows → total o add x (get_or m.rows i []) ≡ total o add y
      (get_or m.rows i []))
      → ((c : ℕ) → c < m.k → x c ≡ y c) → (b : ℕ) → b ≤ length m.rows → (c : ℕ) → c < m.k + b
      → x c ≡ y c
  agree_source_to m shape x y same h zero le c lt = h c (rw add-zero at lt)
  agree_source_to m shape x y same h (suc b) le c lt =
      let ih : (d : ℕ) → d < m.k + b → x d ≡ y d = agree_source_to m shape x y same h b
      (omega arith) in
      ⊎_elim (λ e. rw e (one_left o add laws (below (m.k + b)) x y
      (λ d f. ih d (ltb-true d (m.k + b) f)) (get_or m.rows b []) (m.k + b)
      (last_outside m shape b le) (same b le)))
      (λ lt2. ih c lt2) (last_or_before c (m.k + b) (rw add-suc at lt))

  -- what agrees on the source columns, and makes each row sum alike, agrees on all columns
  pub agree_source : (m : Matrix) → HasShape m → (x y : ℕ → G)
      → ((i : ℕ) → i < length m.rows → total o add x (get_or m.rows i []) ≡ total o add y
      (get_or m.rows i []))
      → ((c : ℕ) → c < m.k → x c ≡ y c) → (c : ℕ) → c < m.n → x c ≡ y c
  agree_source m shape x y same h c lt = agree_source_to m shape x y same h (length m.rows)
      (le_refl _) c (rw shape.count lt)
