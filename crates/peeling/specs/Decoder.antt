-- What contracts see of a decoder.
use Rattle.std.specs.Prelude.{◌≡◌, ◌≤◌, ℕ, Bool, List, length}
use Rattle.std.specs.Prelude.{All}
use Rattle.fec_base.specs.Symbol.{IsSymbol}
use Rattle.sparse_rows.specs.Matrix.{Matrix, IsCode}
use Rattle.sparse_rows.specs.Codeword.{symbol_at}
use Rattle.sparse_rows.specs.Closure.{HasSameMembers, flagged, closure}

-- a decoder
pub record Decoder : Type 0 where
  -- its code, and the length of a symbol
  pub matrix : Matrix
  pub len : ℕ
  -- for each position whether it arrived, whether its symbol is kept, and that symbol
  pub arrived : List Bool
  pub known : List Bool
  pub symbols : List (List ℕ)
  -- whether the arrivals contradict one another
  pub clashed : Bool
  -- the positions that the last arrival rebuilt
  pub fresh : List ℕ

-- the symbol that is kept at a position
abbrev pub kept : Decoder → ℕ → List ℕ
kept d = symbol_at d.len d.symbols

-- flags and a symbol for each position of a code; the known positions are the closure of those that
-- arrived
pub record IsDecoder (d : Decoder) : Type 0 where
  pub code : IsCode d.matrix
  pub some : 1 ≤ d.len
  pub most : d.len ≤ 65535
  pub arrived : length d.arrived ≡ d.matrix.n
  pub known : length d.known ≡ d.matrix.n
  pub symbols : length d.symbols ≡ d.matrix.n
  pub bytes : All (IsSymbol d.len) d.symbols
  pub closed : HasSameMembers (flagged d.known) (closure d.matrix (flagged d.arrived))
