-- Which null word goes through a position, and whether arrivals determine its symbol.
use Rattle.std.specs.Prelude.{◌≡◌, ℕ, true, List}
use Rattle.sparse_rows.specs.Matrix.{Matrix, is_in}
use Rattle.sparse_rows.specs.Codeword.{Arrival, symbol_at}
use Rattle.sparse_rows.specs.Closure.{Set}
use Rattle.sparse_rows.specs.NullWord.{IsNullWord}
use Rattle.sparse_rows.specs.Fitting.{IsFitting}
use Rattle.null_witness.specs.ReducedWords.{IsFirstReducedWord}

-- of the reduced null words of the set that hold the position the one whose last position is least
abbrev pub IsThrough : Matrix → Set → ℕ → List ℕ → Type 0
IsThrough m s position =
    IsFirstReducedWord (IsNullWord m s) (λ word. is_in word position ≡ true)

-- all codewords that fit the arrivals have the same symbol at the position
abbrev pub IsDetermined : Matrix → ℕ → List Arrival → ℕ → Type 0
IsDetermined m len arrivals position =
    (word other : List (List ℕ)) → IsFitting m len arrivals word → IsFitting m len arrivals other
    → symbol_at len word position ≡ symbol_at len other position
