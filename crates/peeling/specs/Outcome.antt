-- What a decoder answers to an arrival.
use Rattle.std.specs.Prelude.{◌≡◌, ◌↔◌, ℕ, true, false, List, IsTrue}
use Rattle.sparse_rows.specs.Closure.{flagged}
use Rattle.peeling.specs.Decoder.{Decoder, kept}
use Rattle.peeling.specs.declared.peeler.Arrival.{Arrival}
use Rattle.peeling.specs.declared.peeler.Arrival.TheVariants.{Fresh, Repeat}

-- fresh where the position wasn't known; else a repeat, and whether the bytes are those that were
-- kept
abbrev pub IsOutcome : Arrival → Decoder → ℕ → List ℕ → Type 0
IsOutcome Fresh d position bytes = flagged d.known position ≡ false
IsOutcome (Repeat same) d position bytes = (flagged d.known position ≡ true)
    × (IsTrue same ↔ (bytes ≡ kept d position))
