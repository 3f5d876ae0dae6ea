use Rattle.repair_request.proofs.Answered.{late_shrink, part_counts, settles_part}
use Rattle.repair_request.proofs.laws.a_request_stays_good.Goals as goal

pub returns-clause-parts : goal.returns-clause-parts
returns-clause-parts c m s part rest d settles =
    (part_counts m s part rest d settles, settles_part m s part rest settles)

pub returns-clause-shrink : goal.returns-clause-shrink
returns-clause-shrink c = late_shrink
