-- The shuffle of a list: exchanges of items at drawn places.
use Rattle.std.specs.Prelude.{ℕ, ◌+◌, ◌-◌, List, length, swap}
use Rattle.std.proofs.Common.{zero, suc}
use Rattle.park_miller.specs.Generator.{next, drawn}

-- the list after the exchanges at the places from this one down to 1: the item at each changes
-- places with one at a drawn place, its own or a lower one
abbrev pub exchanged : ℕ → List ℕ → ℕ → List ℕ
exchanged zero list state = list
exchanged (suc below) list state =
    exchanged below (swap list (suc below) (drawn (suc below + 1) (next state))) (next state)

-- the list after the exchanges at its places from the last one down to 1
abbrev pub shuffled : List ℕ → ℕ → List ℕ
shuffled list state = exchanged (length list - 1) list state
