use Rattle.std.proofs.Common.{◌≡◌, ◌≢◌, ◌<◌, ℕ, All, length}
use Rattle.gauss.specs.Filling.{equation_at}
use Rattle.decoder_tests.proofs.equations.put_equation.Given as goal

abbrev pub invariant-loop-unknown : goal.invariant-loop-unknown
invariant-loop-unknown l = record {
  unknowns : l.eqs.unknowns ≡ l.initial.eqs.unknowns;
  len : l.eqs.len ≡ l.initial.eqs.len;
  count : length l.eqs.equations ≡ length l.initial.eqs.equations;
  others : (j : ℕ) → j ≢ l.r → equation_at l.eqs j ≡ equation_at l.initial.eqs j;
  behind : All (λ c. c < l.unknown) (equation_at l.eqs l.r).unknowns;
}
