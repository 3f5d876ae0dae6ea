use Rattle.repair_request.proofs.Dimension.{needed_at_most, received_and_needed}
use Rattle.repair_request.proofs.laws.the_deficiency_is_bounded.Goals as goal

pub returns-clause-most : goal.returns-clause-most
returns-clause-most c = needed_at_most

pub returns-clause-least : goal.returns-clause-least
returns-clause-least c m s count shape d =
    received_and_needed m s count shape c.one_codeword_for_each_source.ensures.some d
