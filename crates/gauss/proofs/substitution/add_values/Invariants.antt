use Rattle.std.proofs.Common.{◌-◌}
use Rattle.gauss.specs.Elimination.{behind}
use Rattle.gauss.specs.Groups.{AreAdded}
use Rattle.gauss.specs.Echelon.{bits_in, pivots_in, unknowns_in}
use Rattle.gauss.proofs.Groups.{from_group}
use Rattle.gauss.proofs.substitution.add_values.Given as goal

abbrev pub invariant-loop-k : goal.invariant-loop-k
invariant-loop-k l = AreAdded (unknowns_in l.form) l.len
    (λ p. from_group (l.groups - l.k) (behind (bits_in l.form) (pivots_in l.form)
    p)) l.symbols l.initial.symbols l.symbols
