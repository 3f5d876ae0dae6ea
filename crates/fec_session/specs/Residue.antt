-- What peeling leaves to elimination.
use Rattle.std.specs.Prelude.{ℕ, not, cond, Bool, true, false, List, [], ◌∷◌}
use Rattle.std.specs.Prelude.{length, map, filter, slice_index}
use Rattle.std.specs.List.{range_with_len}
use Rattle.fec_base.specs.Symbol.{xor_sum}
use Rattle.sparse_rows.specs.Closure.{flagged, members, outside}
use Rattle.peeling.specs.Decoder.{Decoder, kept}
use Rattle.gauss.specs.Equations.{Equation, System}

-- the columns whose symbol isn't known, rising
abbrev pub unknown_columns : Decoder → List ℕ
unknown_columns d = members d.matrix.n (λ c. not (flagged d.known c))

-- the place of a column among them: how many of them are below it
abbrev pub place : Decoder → ℕ → ℕ
place d c = length (members c (λ b. not (flagged d.known b)))

-- the columns at some places
abbrev pub columns_at : Decoder → List ℕ → List ℕ
columns_at d places = map (slice_index (unknown_columns d)) places

-- the places of some columns
abbrev pub places_of : Decoder → List ℕ → List ℕ
places_of d columns = map (place d) columns

-- a row as an equation: the places of its unknown columns, and the sum of its known symbols
abbrev pub equation_of : Decoder → List ℕ → Equation
equation_of d row = record {
  unknowns = map (place d) (outside (flagged d.known) row);
  sum = xor_sum d.len (kept d) (filter (flagged d.known) row);
}

-- whether the list has an item
abbrev pub has_any : List ℕ → Bool
has_any [] = false
has_any (c ∷ cs) = true

-- whether the row has an unknown column
abbrev pub is_open : Decoder → List ℕ → Bool
is_open d row = has_any (outside (flagged d.known) row)

-- the rows with an unknown column, as equations between the unknown symbols
abbrev pub residue : Decoder → System
residue d = record {
  unknowns = length (unknown_columns d);
  len = d.len;
  equations = map (equation_of d) (filter (is_open d) d.matrix.rows);
}

-- the symbol of a column: the one that is kept, or where none is the one of y at the column's place
abbrev pub completed : Decoder → (ℕ → List ℕ) → ℕ → List ℕ
completed d y c = cond (flagged d.known c) (kept d c) (y (place d c))

-- the word with the known symbols, and those of y at the unknown columns
abbrev pub filled : Decoder → (ℕ → List ℕ) → List (List ℕ)
filled d y = map (completed d y) (range_with_len 0 d.matrix.n)
