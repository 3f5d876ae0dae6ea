-- The codewords that fit, and the solutions of the residue, in pairs.
use Rattle.std.proofs.Common.{refl, sym}
use Rattle.fec_session.specs.Pairing.{CodewordsPairWithSolutions, open_symbols}
use Rattle.fec_session.proofs.Residues.{to_solution, from_solution, filled_at, back}

pub pairs : CodewordsPairWithSolutions
pairs d arrivals is stands ok = record {
  solution = to_solution d is arrivals stands ok;
  codeword = from_solution d is arrivals stands ok;
  same_codeword = λ word fits. sym (back d is arrivals stands ok word fits (open_symbols d word)
      (to_solution d is arrivals stands ok word fits) (λ i lt. refl));
  same_solution = λ y solves i lt. filled_at d is arrivals stands ok y solves i lt;
}
