use Rattle.std.proofs.Common.{◌≡◌, ℕ, ◌<◌, false, get_or, length}
use Rattle.sparse_rows.specs.Closure.{flagged}
use Rattle.null_witness.proofs.check_word.are_missing.Given as goal

abbrev pub invariant-loop-position : goal.invariant-loop-position
invariant-loop-position l = (i : ℕ) → i < l.position-index → (get_or l.word i 0 < length l.arrived)
    × (flagged l.arrived (get_or l.word i 0) ≡ false)
