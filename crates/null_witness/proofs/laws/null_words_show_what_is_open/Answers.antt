use Rattle.null_witness.proofs.Determined.{null_of_two, two_of_null}
use Rattle.null_witness.proofs.laws.null_words_show_what_is_open.Goals as goal

pub returns : goal.returns
returns c m len arrivals fitting shape some fits = (
  null_of_two m shape len arrivals,
  λ r. two_of_null m shape len arrivals fitting fits r.0 r.1
      some,
)
