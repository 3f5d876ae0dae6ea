use Rattle.std.proofs.Common.{⊎_elim, refl}
use Rattle.sparse_rows.specs.Codeword.{positions}
use Rattle.clash_proof.proofs.Refuted.{none_fits, reduced_refutes, refuted_or}
use Rattle.clash_proof.proofs.laws.closed_rows_show_that_nothing_fits.Goals as goal

pub returns-clause-rows : goal.returns-clause-rows
returns-clause-rows c m len arrivals x shape inside hx fits = (
  λ none. ⊎_elim (λ w. absurd (none w.0 w.1)) (λ r. r)
      (refuted_or m shape len (positions arrivals) x hx arrivals inside (λ d. refl) fits),
  λ r. none_fits m shape len arrivals x hx fits r.0 r.1 r.2,
)

pub returns-clause-reduced : goal.returns-clause-reduced
returns-clause-reduced c m len s x rows shape hx closed contra =
    reduced_refutes m shape len s x rows hx closed contra
