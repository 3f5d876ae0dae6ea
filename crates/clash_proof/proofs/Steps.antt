-- Sums over lists that are walked one by one.
use Rattle.std.proofs.Common.{◌≡◌, ℕ, ◌+◌, ◌<◌, ◌≤◌, Bool, true, false, not, List, [], ◌∷◌, ◌++◌}
use Rattle.std.proofs.Common.{length, get_or, take, sym, ap, ◌∙◌, refl}
use Rattle.std.proofs.Math.Bool.{xor as bool_xor}
use Rattle.std.proofs.lemmas.List.{take_all, take_more}
use Rattle.sparse_rows.specs.Totals.{total}
use Rattle.sparse_rows.proofs.Algebra.{XorLaws, right}

module _ {G : Type 0} (o : G) (add : G → G → G) (laws : XorLaws G o add) where
  total_push : (x : ℕ → G) (cs : List ℕ) (c : ℕ)
      → total o add x (cs ++ c ∷ []) ≡ add (total o add x cs) (x c)
  total_push x [] c = right o add laws (x c) ∙ sym (laws.left (x c))
  total_push x (d ∷ cs) c = ap (add (x d)) (total_push x cs c)
      ∙ sym (laws.assoc (x d) (total o add x cs) (x c))

  -- the sum over one more of a list
  pub total_more : (x : ℕ → G) (cs : List ℕ) (i : ℕ) → i < length cs
      → total o add x (take (i + 1) cs) ≡ add (total o add x (take i cs)) (x (get_or cs i 0))
  total_more x cs i lt = ap (total o add x) (take_more cs i 0 lt)
      ∙ total_push x (take i cs) (get_or cs i 0)

  pub total_all : (x : ℕ → G) (cs : List ℕ) (i : ℕ) → length cs ≤ i
      → total o add x (take i cs) ≡ total o add x cs
  total_all x cs i le = ap (total o add x) (take_all i cs le)

-- a bit is turned where another is set
pub turned : (b : Bool) → not b ≡ bool_xor b true
unfolding bool_xor
turned true = refl
turned false = refl

pub unturned : (b : Bool) → b ≡ bool_xor b false
unfolding bool_xor
unturned true = refl
unturned false = refl
