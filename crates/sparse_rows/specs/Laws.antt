-- What holds of every matrix that has the shape.
use Rattle.std.specs.Prelude.{◌≡◌, ℕ, ◌<◌, List, All, Any, length}
use Rattle.fec_base.specs.Symbol.{IsSymbol}
use Rattle.sparse_rows.specs.Matrix.{Matrix, HasShape}
use Rattle.sparse_rows.specs.Codeword.{IsEncoded}
use Rattle.sparse_rows.specs.Closure.{Set}
use Rattle.sparse_rows.specs.NullWord.{IsNullWord}

-- each source has a codeword
abbrev pub SourceHasCodeword : Type 0
SourceHasCodeword = (m : Matrix) (len : ℕ) (source : List (List ℕ)) → HasShape m
    → length source ≡ m.k → All (IsSymbol len) source
    → (word : List (List ℕ)) × IsEncoded m len source word

-- and only one
abbrev pub SourceHasOneCodeword : Type 0
SourceHasOneCodeword = (m : Matrix) (len : ℕ) (source word other : List (List ℕ)) → HasShape m
    → IsEncoded m len source word → IsEncoded m len source other → word ≡ other

-- a null word of any set has a source column
abbrev pub NullWordHoldsSource : Type 0
NullWordHoldsSource = (m : Matrix) (s : Set) (word : List ℕ) → HasShape m → IsNullWord m s word
    → Any (λ column. column < m.k) word
