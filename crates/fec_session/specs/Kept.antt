-- Inside: how a source block and what is told of an arrival are kept.
use Rattle.std.specs.Prelude.{◌≡◌, ◌<◌, ℕ, true, List, [], All, length, map, Option, None, Some}
use Rattle.std.specs.List.{range_with_len}
use Rattle.sparse_rows.specs.Codeword.{symbol_at}
use Rattle.sparse_rows.specs.Closure.{flagged}
use Rattle.peeling.specs.Decoder.{Decoder}
use Rattle.peeling.specs.Lookups.{HasAllSource}
use Rattle.fec_session.specs.Residue.{completed, unknown_columns}
use Rattle.fec_session.specs.declared.verdict.Solved.{Solved}

-- the symbols that elimination gave to the unknown columns: none where peeling gave the source
abbrev pub values_of : Option Solved → List (List ℕ)
values_of None = []
values_of (Some solved) = solved.values

-- the source symbols: those that the decoder keeps, and elimination's for the others
abbrev pub source_of : Decoder → List (List ℕ) → List (List ℕ)
source_of d values = map (completed d (symbol_at d.len values)) (range_with_len 0 d.matrix.k)

-- a symbol for each unknown column
pub record AreValues (d : Decoder) (columns : List ℕ) (values : List (List ℕ)) : Type 0 where
  pub columns_are : columns ≡ unknown_columns d
  pub count : length values ≡ length columns
  pub long : All (λ symbol. length symbol ≡ d.len) values

-- the decoder keeps each source symbol, or elimination gave those that it doesn't keep
abbrev pub HasSymbols : Decoder → Option Solved → Type 0
HasSymbols d None = HasAllSource d
HasSymbols d (Some solved) = AreValues d solved.columns.items solved.values

-- a position of the code whose symbol is known
abbrev pub IsKnownPosition : Decoder → ℕ → Type 0
IsKnownPosition d e = (e < d.matrix.n) × (flagged d.known e ≡ true)
