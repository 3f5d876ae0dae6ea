-- A source block that was determined.
use Rattle.std.specs.Prelude.{ℕ, Bool, List}

-- its source symbols, and whether peeling alone gave them
pub record Block : Type 0 where
  pub source : List (List ℕ)
  pub by_peeling : Bool
