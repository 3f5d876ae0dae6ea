-- The codewords that fit the arrivals of a block.
use Rattle.std.specs.Prelude.{◌≢◌, ℕ, List, take}
use Rattle.sparse_rows.specs.Matrix.{Matrix}
use Rattle.sparse_rows.specs.Codeword.{IsCodeword, Arrival, Fits, symbol_at}

-- a codeword that fits the arrivals
pub record IsFitting (m : Matrix) (len : ℕ) (arrivals : List Arrival) (word : List (List ℕ)) :
    Type 0 where
  pub codeword : IsCodeword m len word
  pub fits : Fits arrivals (symbol_at len word)

-- codewords of two sources fit the arrivals
pub record IsUndetermined (m : Matrix) (len : ℕ) (arrivals : List Arrival) : Type 0 where
  pub word : List (List ℕ)
  pub other : List (List ℕ)
  pub word_fits : IsFitting m len arrivals word
  pub other_fits : IsFitting m len arrivals other
  pub differ : take m.k word ≢ take m.k other
