-- Inside: how far a worklist of columns has come.
use Rattle.std.specs.Prelude.{◌≡◌, ◌≢◌, ◌<◌, ◌&&◌, ◌||◌, ◌==◌, ℕ, Bool, true, false, List, [], ◌∷◌}
use Rattle.std.specs.Prelude.{length, take, drop, slice_index_or}
use Rattle.sparse_rows.specs.Matrix.{Matrix, row_of, is_in}
use Rattle.sparse_rows.specs.Codeword.{symbol_at, SumsToZero}
use Rattle.sparse_rows.specs.Closure.{Set, flagged, IsWithin, HasSameMembers, outside}
use Rattle.peeling.specs.declared.unknowns.Unknowns.{Unknowns}
use Rattle.peeling.specs.Peeled.{IsLaid, IsPeeled}
use Rattle.peeling.specs.Unknowns.{IsCounted}

-- the set with the columns of a list
abbrev pub with_all : Set → List ℕ → Set
with_all s columns c = s c || is_in columns c

-- the rows of a list have seen column c, and all rows have seen the set
abbrev pub seen_by : List ℕ → ℕ → Set → ℕ → Set
seen_by rows c s i d = s d || (is_in rows i && (c == d))

-- the symbols of each row that became known sum to zero: its columns are all known now, and were
-- not before
abbrev pub NewRowsHold : Matrix → ℕ → Set → Set → (ℕ → List ℕ) → Type 0
NewRowsHold m len before known x = (i : ℕ) → i < length m.rows → outside known (row_of m i) ≡ []
    → outside before (row_of m i) ≢ [] → SumsToZero len x (row_of m i)

-- peeling has come from the columns base with the symbols x to those known with the symbols y, each
-- row i has seen its columns in seen i, and holds says whether each row that has seen all of its
-- columns since those before sums to zero
pub record IsUnderWay (m : Matrix) (len : ℕ) (before base : Set) (x : ℕ → List ℕ)
    (seen : ℕ → Set) (known : Set) (y : ℕ → List ℕ) (holds : Bool) : Type 0 where
  pub peeled : IsPeeled m len base x known y
  pub saw : (i : ℕ) → IsWithin before (seen i)
  pub sees : (i : ℕ) → IsWithin (seen i) known
  -- a row with one column left has it known
  pub single : (i d : ℕ) → i < length m.rows → outside (seen i) (row_of m i) ≡ d ∷ []
      → known d ≡ true
  pub sums : holds ≡ true → (i : ℕ) → i < length m.rows → outside (seen i) (row_of m i) ≡ []
      → outside before (row_of m i) ≢ [] → SumsToZero len y (row_of m i)
  pub fails : holds ≡ false → ¬ NewRowsHold m len before known y

-- the same of what is kept: flags, what each row has left, and the symbols of the positions with
-- the rows' sums behind them
pub record IsWorked (m : Matrix) (len : ℕ) (before base : Set) (x : ℕ → List ℕ)
    (seen : ℕ → Set) (known : List Bool) (cells : List (List ℕ)) (rows : List Unknowns)
    (holds : Bool) : Type 0 where
  pub kept : IsLaid m.n len known (take m.n cells)
  pub counted : IsCounted m len seen (symbol_at len (take m.n cells)) rows (drop m.n cells)
  pub under_way : IsUnderWay m len before base x seen (flagged known)
      (symbol_at len (take m.n cells)) holds

-- the list has what is known and was not before, each column once
pub record IsListed (before : Set) (list : List ℕ) (known : Set) : Type 0 where
  pub all : HasSameMembers known (with_all before list)
  pub once : (i : ℕ) → i < length list
      → with_all before (take i list) (slice_index_or list i 0) ≡ false
