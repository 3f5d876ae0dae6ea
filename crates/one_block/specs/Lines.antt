-- Inside: the lines of the output.
use Rattle.std.specs.Prelude.{ℕ, List, ◌++◌, codes, decimal}
use Rattle.std.specs.List.{flat_map}

-- texts of numbers, each behind a space
abbrev pub spaced : {I : Type 0} → (I → List ℕ) → List I → List ℕ
spaced text numbers = flat_map (λ n. codes " " ++ text n) numbers

-- a line of words and what stands behind them
abbrev pub line : List ℕ → List ℕ → List ℕ
line words more = words ++ more ++ codes "\n"

-- the line of a symbol: a word, its identifier and its bytes
abbrev pub symbol_line : List ℕ → ℕ → List ℕ → List ℕ
symbol_line word esi bytes = line (word ++ codes " " ++ decimal esi ++ codes ":")
    (spaced decimal bytes)

-- the lines of rows
abbrev pub row_lines : List (List ℕ) → List ℕ
row_lines rows = flat_map (λ row. line (codes "row") (spaced decimal row)) rows
