use Rattle.std.proofs.Common.{◌-◌}
use Rattle.gauss.specs.Elimination.{before}
use Rattle.gauss.specs.Groups.{AreAdded}
use Rattle.gauss.specs.Echelon.{bits_in, pivots_in, unknowns_in}
use Rattle.gauss.proofs.Groups.{from_group}
use Rattle.gauss.proofs.substitution.add_recorded.Given as goal

abbrev pub invariant-loop-k : goal.invariant-loop-k
invariant-loop-k l = AreAdded (unknowns_in l.form) l.len
    (λ p. from_group (l.groups - l.k) (before (bits_in l.form) (pivots_in l.form)
    p)) l.initial.symbols l.initial.symbols l.symbols
