-- What an arrival makes known is no guess.
use Rattle.std.specs.Prelude.{◌≡◌, ℕ, List, [], ◌∷◌, ◌++◌, All}
use Rattle.sparse_rows.specs.Codeword.{Arrival, positions}
use Rattle.sparse_rows.specs.Closure.{fresh}
use Rattle.sparse_rows.specs.Determined.{IsForced}
use Rattle.peeling.specs.Decoder.{Decoder, kept}
use Rattle.peeling.specs.Stands.{Receives, StandsFor}

-- what a decoder rebuilds at an arrival: the new members of the closure of what arrived, each with
-- the bytes that the arrivals leave to it
pub record RebuildsBy
    (new : Decoder) (arrivals : List Arrival) (position : ℕ) (bytes : List ℕ) : Type 0 where
  pub places : new.fresh ≡ fresh new.matrix (positions arrivals) position
  pub forced : All (λ e. IsForced new.matrix new.len (arrivals ++ (position, bytes) ∷ []) e
      (kept new e)) new.fresh

-- so it is at each decoder that receives one arrival more
abbrev pub RebuiltAreForced : Type 0
RebuiltAreForced =
    (old new : Decoder) (arrivals : List Arrival) (position : ℕ) (bytes : List ℕ)
    → StandsFor old arrivals → Receives old new position bytes
    → RebuildsBy new arrivals position bytes
