-- Inside: how far peeling has come.
use Rattle.std.specs.Prelude.{◌≡◌, ◌≢◌, ℕ, Bool, false, not, List, [], ◌∷◌, length, count_by, All}
use Rattle.fec_base.specs.Symbol.{IsSymbol, zero_symbol}
use Rattle.sparse_rows.specs.Matrix.{Matrix}
use Rattle.sparse_rows.specs.Codeword.{symbol_at, IsAssignment, SumsToZeroWithin}
use Rattle.sparse_rows.specs.Closure.{Set, flagged, IsWithin, HasSameMembers, outside, round}
use Rattle.sparse_rows.specs.Closure.{closure}
use Rattle.peeling.specs.Agree.{Agree}

-- each of n positions has a flag and a symbol, and a symbol whose flag isn't set is zero
pub record IsLaid (n len : ℕ) (known : List Bool) (symbols : List (List ℕ)) : Type 0 where
  pub flags : length known ≡ n
  pub count : length symbols ≡ n
  pub each : All (IsSymbol len) symbols
  pub zero : (position : ℕ) → flagged known position ≡ false
      → symbol_at len symbols position ≡ zero_symbol len

-- how many flags aren't set
abbrev pub unset_count : List Bool → ℕ
unset_count flags = count_by not flags

-- no column is the only one of the row outside the set
abbrev pub IsAtRest : Set → List ℕ → Type 0
IsAtRest s row = (column : ℕ) → outside s row ≢ column ∷ []

-- a round adds nothing to the known columns
abbrev pub IsPeeledOut : Matrix → List Bool → Type 0
IsPeeledOut m known = HasSameMembers (round m (flagged known)) (flagged known)

-- from a set of columns with the symbols x, peeling has come to a set with the symbols y
pub record IsPeeled (m : Matrix) (len : ℕ) (base : Set) (x : ℕ → List ℕ) (known : Set)
    (y : ℕ → List ℕ) : Type 0 where
  -- which holds the first and lies in its closure
  pub holds : IsWithin base known
  pub within : IsWithin known (closure m base)
  -- earlier symbols stay
  pub keeps : Agree base x y
  -- what agrees with x and makes each row within the closure sum to zero agrees with y
  pub forced : (z : ℕ → List ℕ) → IsAssignment len z → SumsToZeroWithin m len (closure m base) z
      → Agree base x z → Agree known y z

-- the same of flags and symbols
abbrev pub PeelsTo : Matrix → ℕ → List Bool → List (List ℕ) → List Bool → List (List ℕ) → Type 0
PeelsTo m len known symbols more next = IsPeeled m len (flagged known) (symbol_at len symbols)
    (flagged more) (symbol_at len next)
