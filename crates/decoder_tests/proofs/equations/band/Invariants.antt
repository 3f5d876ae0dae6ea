use Rattle.std.proofs.Common.{◌≡◌, ◌≤◌, ℕ, [], length}
use Rattle.gauss.specs.Filling.{equation_at}
use Rattle.decoder_tests.proofs.equations.band.Given as goal

abbrev pub invariant-loop-i : goal.invariant-loop-i
invariant-loop-i l = record {
  unknowns : l.eqs.unknowns ≡ l.unknowns;
  len : l.eqs.len ≡ 1;
  count : length l.eqs.equations ≡ l.equations;
  empty : (j : ℕ) → l.i ≤ j → (equation_at l.eqs j).unknowns ≡ [];
}
