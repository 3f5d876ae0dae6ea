-- What came for the positions of a source block, one entry after the other.
use Rattle.std.specs.Prelude.{ℕ, List, [], map, slice_index_or}
use Rattle.sparse_rows.specs.Matrix.{Matrix}
use Rattle.sparse_rows.specs.Codeword.{Arrival}
use Rattle.sparse_rows.specs.Fitting.{IsFitting}

-- an entry: its index, its position, and the bytes that came for it
pub record Entry : Type 0 where
  pub index : ℕ
  pub position : ℕ
  pub bytes : List ℕ

-- what is read past the end of a list of entries
abbrev pub no_entry : Entry
no_entry = record { index = 0; position = 0; bytes = [] }

-- entry i of the list
abbrev pub entry_at : List Entry → ℕ → Entry
entry_at entries i = slice_index_or entries i no_entry

-- the entries as arrivals
abbrev pub arrivals_of : List Entry → List Arrival
arrivals_of entries = map (λ (e : Entry). (e.position, e.bytes)) entries

-- some codeword fits the entries
abbrev pub HasFitting : Matrix → ℕ → List Entry → Type 0
HasFitting m len entries = (word : List (List ℕ)) × IsFitting m len (arrivals_of entries) word
