-- Inside: sums over any group.
use Rattle.std.specs.Prelude.{ℕ, List, [], ◌∷◌}

-- the sum of what x gives to the columns
abbrev pub total : {G : Type 0} → G → (G → G → G) → (ℕ → G) → List ℕ → G
total o add x [] = o
total o add x (c ∷ cs) = add (x c) (total o add x cs)
