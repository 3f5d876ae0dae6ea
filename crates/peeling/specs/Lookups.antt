-- What a new decoder is, and what its calls tell.
use Rattle.std.specs.Prelude.{◌≡◌, ◌<◌, ◌&&◌, not, ℕ, Bool, true, false, List, [], length}
use Rattle.std.specs.Prelude.{replicate, count_by}
use Rattle.sparse_rows.specs.Matrix.{Matrix}
use Rattle.sparse_rows.specs.Closure.{flagged, members}
use Rattle.sparse_rows.specs.Columns.{entries}
use Rattle.peeling.specs.Decoder.{Decoder}

-- how many flags are set
abbrev pub set_count : List Bool → ℕ
set_count flags = count_by (λ flag. flag) flags

-- the positions whose flag is set now and was not before, rising
abbrev pub new_positions : List Bool → List Bool → List ℕ
new_positions before now = members (length now)
    (λ position. flagged now position && not (flagged before position))

-- the number of pairs of a row and one of its columns whose symbol is known
abbrev pub known_entries : Decoder → ℕ
known_entries d = entries d.matrix (flagged d.known)

-- each source symbol is known
abbrev pub HasAllSource : Decoder → Type 0
HasAllSource d = (position : ℕ) → position < d.matrix.k → flagged d.known position ≡ true

-- a decoder for the code and symbols of this length, at which nothing arrived
pub record IsEmpty (m : Matrix) (size : ℕ) (d : Decoder) : Type 0 where
  pub matrix : d.matrix ≡ m
  pub len : d.len ≡ size
  pub arrived : d.arrived ≡ replicate m.n false
  pub known : d.known ≡ replicate m.n false
  pub clashed : d.clashed ≡ false
  pub fresh : d.fresh ≡ []
