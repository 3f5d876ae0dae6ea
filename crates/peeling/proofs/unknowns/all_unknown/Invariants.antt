use Rattle.std.proofs.Common.{◌≡◌, take, map}
use Rattle.peeling.specs.Unknowns.{unknowns_of}
use Rattle.peeling.proofs.unknowns.all_unknown.Given as goal

abbrev pub invariant-loop-r : goal.invariant-loop-r
invariant-loop-r l = l.rows.items ≡ map unknowns_of (take l.r l.code.rows)
