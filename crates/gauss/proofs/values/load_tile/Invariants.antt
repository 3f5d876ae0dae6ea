use Rattle.std.proofs.Common.{◌≡◌, ℕ, ◌+◌, ◌<◌}
use Rattle.gauss.specs.Packed.{byte_in, sum_byte}
use Rattle.gauss.specs.Echelon.{pivots_in}
use Rattle.gauss.proofs.values.load_tile.Given as goal

abbrev pub invariant-loop-p : goal.invariant-loop-p
invariant-loop-p l = (q t : ℕ) → q < l.p → t < l.tile.size → byte_in l.tile.size l.part t q ≡
    sum_byte l.sums
    (l.tile.start + t) (pivots_in l.form q)
