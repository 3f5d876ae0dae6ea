use Rattle.std.proofs.Common.{ℕ, ◌<◌}
use Rattle.gauss.specs.Elimination.{pivot_row}
use Rattle.gauss.proofs.solving.first_free.Given as goal

abbrev pub invariant-loop-unknown : goal.invariant-loop-unknown
invariant-loop-unknown l = (p : ℕ) → p < l.unknown → pivot_row l.rows l.pivots p < l.rows
