-- What the arrivals of a block determine.
use Rattle.std.specs.Prelude.{◌≡◌, ℕ, ◌<◌, true, List, take}
use Rattle.sparse_rows.specs.Matrix.{Matrix}
use Rattle.sparse_rows.specs.Codeword.{IsAssignment, Arrival, Fits, SumsToZeroWithin, positions}
use Rattle.sparse_rows.specs.Codeword.{symbol_at}
use Rattle.sparse_rows.specs.Closure.{closure}
use Rattle.sparse_rows.specs.Fitting.{IsFitting}

-- the peeling closure of what arrived holds every source symbol
abbrev pub HoldsSource : Matrix → List Arrival → Type 0
HoldsSource m arrivals =
    (position : ℕ) → position < m.k → closure m (positions arrivals) position ≡ true

-- x agrees with every arrival, and makes each row within the closure of their positions sum to zero
pub record IsConsistent (m : Matrix) (len : ℕ) (arrivals : List Arrival) (x : ℕ → List ℕ) :
    Type 0 where
  pub symbols : IsAssignment len x
  pub fits : Fits arrivals x
  pub rows : SumsToZeroWithin m len (closure m (positions arrivals)) x

-- the arrivals leave these bytes alone to the position
pub record IsForced (m : Matrix) (len : ℕ) (arrivals : List Arrival) (position : ℕ) (bytes : List ℕ)
    : Type 0 where
  -- each codeword that fits the arrivals has them there
  pub codeword : (word : List (List ℕ)) → IsFitting m len arrivals word
      → symbol_at len word position ≡ bytes
  -- and where none does, whatever still agrees with the arrivals and with the rows within their
  -- closure
  pub assignment : (x : ℕ → List ℕ) → IsConsistent m len arrivals x → x position ≡ bytes

-- some codeword fits the arrivals, and all that fit have this source
pub record IsSource (m : Matrix) (len : ℕ) (arrivals : List Arrival) (source : List (List ℕ)) :
    Type 0 where
  pub word : List (List ℕ)
  pub fits : IsFitting m len arrivals word
  pub only : (other : List (List ℕ)) → IsFitting m len arrivals other → take m.k other ≡ source
