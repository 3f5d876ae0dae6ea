-- Which further positions settle a source block, and how many it takes at the least.
use Rattle.std.specs.Prelude.{◌≡◌, ◌≤◌, ℕ, ◌||◌, true, List, [], ◌∷◌, ⊤, length, map}
use Rattle.sparse_rows.specs.Matrix.{Matrix, is_in}
use Rattle.sparse_rows.specs.Codeword.{Arrival, symbol_at}
use Rattle.sparse_rows.specs.Closure.{Set, adding}
use Rattle.sparse_rows.specs.NullWord.{IsNullWord}

-- the positions of the set, and those of the list
abbrev pub together : Set → List ℕ → Set
together s request position = s position || is_in request position

-- each null word of the set holds one of the positions: with symbols at all of them, none is left
abbrev pub Settles : Matrix → Set → List ℕ → Type 0
Settles m s request = (word : List ℕ) → ¬ IsNullWord m (together s request) word

-- so many positions settle it, and fewer never do
pub record IsDeficiency (m : Matrix) (s : Set) (count : ℕ) : Type 0 where
  pub enough : (request : List ℕ) × Settles m s request × (length request ≡ count)
  pub least : (request : List ℕ) → Settles m s request → count ≤ length request

-- some null word of the set holds the position
abbrev pub IsInnovative : Matrix → Set → ℕ → Type 0
IsInnovative m s position =
    (word : List ℕ) × IsNullWord m s word × (is_in word position ≡ true)

-- each of the positions is held by some null word of the set and of those before it
abbrev pub AreInnovative : Matrix → Set → List ℕ → Type 0
AreInnovative m s [] = ⊤
AreInnovative m s (position ∷ request) =
    IsInnovative m s position × AreInnovative m (adding position s) request

-- the symbols that a word has at these positions, as arrivals
abbrev pub answers : ℕ → List (List ℕ) → List ℕ → List Arrival
answers len word request = map (λ position. (position, symbol_at len word position)) request
