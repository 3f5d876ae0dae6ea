use Rattle.std.proofs.Common.{take, ap}
use Rattle.repair_request.proofs.Meaning.{after_peeling, before_peeling, gives_source, innovative_open}
use Rattle.repair_request.proofs.Meaning.{missing_source}
use Rattle.repair_request.proofs.Meaning.{only_one, settled}
use Rattle.repair_request.proofs.laws.settling_determines_a_block.Goals as goal

pub returns-clause-source : goal.returns-clause-source
returns-clause-source c m len arrivals word request shape some fits =
    let undetermined = c.null_words_show_what_is_open.ensures in
    let determined = c.null_words_show_what_is_not_determined.ensures.determined in (
      gives_source m len arrivals word request shape some fits undetermined determined,
      λ told. settled m len arrivals word request shape some fits undetermined determined
          (take m.k word) told.only,
    )

pub returns-clause-codeword : goal.returns-clause-codeword
returns-clause-codeword c m len arrivals word request shape some fits =
    let undetermined = c.null_words_show_what_is_open.ensures in
    let determined = c.null_words_show_what_is_not_determined.ensures.determined in (
      only_one m len arrivals word request shape some fits undetermined determined,
      λ only. settled m len arrivals word request shape some fits undetermined determined
          (take m.k word) (λ other other_fits. ap (take m.k) (only other other_fits)),
    )

pub returns-clause-innovative : goal.returns-clause-innovative
returns-clause-innovative c m len arrivals fitting position shape some fits =
    innovative_open m len arrivals fitting position shape some fits
    c.null_words_show_what_is_not_determined.ensures.determined

pub returns-clause-missing : goal.returns-clause-missing
returns-clause-missing c = missing_source

pub returns-clause-peeling : goal.returns-clause-peeling
returns-clause-peeling c m s request = (
  after_peeling m s request,
  before_peeling m s request
      c.null_words_follow_the_closure.ensures.closure,
)
