-- Inside: zero symbols that arrive at some positions.
use Rattle.std.specs.Prelude.{ℕ, List, map}
use Rattle.fec_base.specs.Symbol.{zero_symbol}
use Rattle.sparse_rows.specs.Codeword.{Arrival}

-- a zero symbol of one byte at each position
abbrev pub zero_arrivals : List ℕ → List Arrival
zero_arrivals positions = map (λ c. (c, zero_symbol 1)) positions
