use Rattle.repair_request.proofs.Late.{fewest, late_is_one, late_list, late_list_is, late_settles}
use Rattle.repair_request.proofs.Turns.{fewest_among}
use Rattle.repair_request.proofs.Turns.{each_innovative, innovative_settle, lowers, needs_none}
use Rattle.repair_request.proofs.Turns.{none_needed, same}
use Rattle.repair_request.proofs.laws.late_positions_settle_a_block.Goals as goal

pub returns-clause-late : goal.returns-clause-late
returns-clause-late c m s = (
  late_list m s,
  late_list_is m s,
  λ other h. late_is_one m s (late_list m s) other (late_list_is m s) h,
)

pub returns-clause-settle : goal.returns-clause-settle
returns-clause-settle c = late_settles

pub returns-clause-fewest : goal.returns-clause-fewest
returns-clause-fewest c = fewest

pub returns-clause-none : goal.returns-clause-none
returns-clause-none c m s = (none_needed m s, needs_none m s)

pub returns-clause-lowers : goal.returns-clause-lowers
returns-clause-lowers c = lowers

pub returns-clause-same : goal.returns-clause-same
returns-clause-same c = same

pub returns-clause-turns : goal.returns-clause-turns
returns-clause-turns c m s request d =
    (each_innovative m s request d, innovative_settle m s request d)

pub returns-clause-among : goal.returns-clause-among
returns-clause-among c = fewest_among
