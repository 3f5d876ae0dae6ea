-- What holds of the prefixes of an order.
use Rattle.std.specs.Prelude.{◌≡◌, ◌≤◌, ℕ, List, take}
use Rattle.sparse_rows.specs.Matrix.{Matrix, is_in}
use Rattle.sparse_rows.specs.NullWord.{IsNullWord}
use Rattle.fec_threshold.specs.LeastPrefix.{IsLeastPrefix}

-- a null word of a prefix is one of each shorter prefix
abbrev pub ShorterPrefixHasNullWord : Type 0
ShorterPrefixHasNullWord = (m : Matrix) (order : List ℕ) (p q : ℕ) (word : List ℕ) → p ≤ q
    → IsNullWord m (is_in (take q order)) word → IsNullWord m (is_in (take p order)) word

-- an order has at most one least prefix
abbrev pub LeastPrefixIsOne : Type 0
LeastPrefixIsOne = (m : Matrix) (order : List ℕ) (p q : ℕ) → IsLeastPrefix m order p
    → IsLeastPrefix m order q → p ≡ q
