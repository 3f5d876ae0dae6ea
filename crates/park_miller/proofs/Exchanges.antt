-- A shuffle that has come down to a place.
use Rattle.std.proofs.Common.{◌≡◌, ℕ, zero, suc, ◌+◌, ◌-◌, ◌<◌, ◌≤◌, max, List, length, refl, ap}
use Rattle.std.proofs.Common.{◌∙◌, arith}
use Rattle.std.specs.Prelude.{swap, IsPermutation}
use Rattle.std.proofs.lemmas.List.Sorted.{IsPermutation-trans}
use Rattle.park_miller.specs.Generator.{next, after, drawn}
use Rattle.park_miller.specs.Shuffle.{exchanged, shuffled}

-- the exchanges from this place up are done, each with its draw, and those below lead to the
-- shuffle of the whole list
pub record IsShuffledDownTo (whole : List ℕ) (start place : ℕ) (list : List ℕ) (state : ℕ) : Type 0
  where
    pub left : exchanged (place - 1) list state ≡ shuffled whole start
    pub drew : state ≡ after (length whole - max place 1) start
    pub permutation : IsPermutation whole list

-- the exchange at a place comes before those below it
exchanged-swap : (place : ℕ) (list : List ℕ) (state : ℕ) → 0 < place
    → exchanged (place - 1) (swap list place (drawn (place + 1) (next state))) (next state)
    ≡ exchanged place list state
exchanged-swap zero list state some = absurd (omega arith)
exchanged-swap (suc below) list state some =
    let one_less : suc below - 1 ≡ below = omega arith in rw one_less refl

-- one exchange more
pub IsShuffledDownTo-more : (whole : List ℕ) (start place : ℕ) (list : List ℕ) (state : ℕ)
    (list' : List ℕ) (other state' : ℕ) → IsShuffledDownTo whole start place list state → 1 < place
    → place ≤ length whole → state' ≡ next state → other ≡ drawn (place - 1 + 1) state'
    → list' ≡ swap list (place - 1) other → IsPermutation list list'
    → IsShuffledDownTo whole start (place - 1) list' state'
IsShuffledDownTo-more whole start place list state list' other state' so_far above within stepped
    drew exchanges moved =
    let exchange = exchanged-swap (place - 1) list state (omega arith) in
    let one_more : length whole - max (place - 1) 1 ≡ suc (length whole - max place 1) =
    omega arith in
    record {
      left = cc;
      drew = rw one_more (stepped ∙ ap next so_far.drew);
      permutation = IsPermutation-trans _ _ _ so_far.permutation moved;
    }
