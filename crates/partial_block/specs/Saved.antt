-- What is saved of a source block.
use Rattle.std.specs.Prelude.{◌≡◌, ◌≢◌, ◌<◌, ◌↔◌, ℕ, List, [], length, slice_index_or}
use Rattle.sparse_rows.specs.Matrix.{Matrix}
use Rattle.sparse_rows.specs.Codeword.{Arrival, positions, symbol_at}
use Rattle.sparse_rows.specs.Fitting.{IsFitting}
use Rattle.partial_block.specs.Through.{IsThrough, IsDetermined}

-- for each source symbol its bytes, and the null word through it: no positions where it is
-- determined, and no bytes where it isn't
pub record Saved : Type 0 where
  pub symbols : List (List ℕ)
  pub throughs : List (List ℕ)

-- the bytes of source symbol e
abbrev pub saved_at : Saved → ℕ → List ℕ
saved_at saved e = slice_index_or saved.symbols e []

-- the null word through source symbol e
abbrev pub through_at : Saved → ℕ → List ℕ
through_at saved e = slice_index_or saved.throughs e []

-- a source symbol has no null word through it exactly where it is determined, and then has the
-- bytes that it has in each codeword that fits; else the null word is the one through it
pub record IsSavedOf (m : Matrix) (len : ℕ) (arrivals : List Arrival) (saved : Saved) : Type 0 where
  pub determined : (e : ℕ) → e < m.k
      → (through_at saved e ≡ []) ↔ IsDetermined m len arrivals e
  pub symbol : (e : ℕ) → e < m.k → through_at saved e ≡ []
      → (word : List (List ℕ)) → IsFitting m len arrivals word
      → symbol_at len word e ≡ saved_at saved e
  pub through : (e : ℕ) → e < m.k → through_at saved e ≢ []
      → IsThrough m (positions arrivals) e (through_at saved e)

-- there are k source symbols, and those that are determined have len bytes
pub record HasSources (k len : ℕ) (saved : Saved) : Type 0 where
  pub symbols : length saved.symbols ≡ k
  pub throughs : length saved.throughs ≡ k
  pub long : (e : ℕ) → e < k → through_at saved e ≡ [] → length (saved_at saved e) ≡ len
