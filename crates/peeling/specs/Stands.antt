-- The arrivals that a decoder stands for.
use Rattle.std.specs.Prelude.{◌≡◌, ℕ, true, false, List, [], ◌∷◌, ◌++◌, slice_set}
use Rattle.sparse_rows.specs.Codeword.{Arrival, positions}
use Rattle.sparse_rows.specs.Closure.{flagged, HasSameMembers, closure, fresh}
use Rattle.sparse_rows.specs.Determined.{IsConsistent}
use Rattle.peeling.specs.Agree.{Agree}
use Rattle.peeling.specs.Decoder.{Decoder, kept}

-- the decoder stands for the arrivals
pub record StandsFor (d : Decoder) (arrivals : List Arrival) : Type 0 where
  -- the flags are the positions that arrived, and a symbol is kept exactly in their closure
  pub arrived : HasSameMembers (flagged d.arrived) (positions arrivals)
  pub known : HasSameMembers (flagged d.known) (closure d.matrix (positions arrivals))
  -- where it isn't clashed the kept symbols are consistent with the arrivals, and where it is
  -- clashed nothing is
  pub agrees : d.clashed ≡ false → IsConsistent d.matrix d.len arrivals (kept d)
  pub contradicts : d.clashed ≡ true → (x : ℕ → List ℕ) → ¬ IsConsistent d.matrix d.len arrivals x

-- the new decoder is the old one with one arrival more
pub record Receives (old new : Decoder) (position : ℕ) (bytes : List ℕ) : Type 0 where
  -- it stands for what the old one stood for, and this arrival
  pub stands : (arrivals : List Arrival) → StandsFor old arrivals
      → StandsFor new (arrivals ++ (position, bytes) ∷ [])
  -- the flag of the position is set, and the closure is known, whatever the bytes
  pub arrived : new.arrived ≡ slice_set old.arrived position true
  pub known : HasSameMembers (flagged new.known) (closure old.matrix (flagged new.arrived))
  -- what became known beside the position is fresh
  pub fresh_is : new.fresh ≡ fresh old.matrix (flagged old.arrived) position
  -- every symbol that was kept stays, and a position that was not known has the bytes
  pub keeps : Agree (flagged old.known) (kept old) (kept new)
  pub own : flagged old.known position ≡ false → kept new position ≡ bytes
  -- a repeat changes nothing but the flag, whether it is clashed, and what is fresh
  pub repeat : flagged old.known position ≡ true
      → new ≡ record old { arrived = new.arrived; clashed = new.clashed; fresh = [] }
  -- a contradiction is never forgotten
  pub stays_clashed : old.clashed ≡ true → new.clashed ≡ true
  -- the code and the length of a symbol stay
  pub code : new.matrix ≡ old.matrix
  pub len : new.len ≡ old.len
