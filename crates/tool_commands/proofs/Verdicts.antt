-- The status of a `decode` is one of three.
use Rattle.std.proofs.Common.{◌≢◌, Bool, true, false, cond, List}
use Rattle.std.specs.List.{list_any}
use Rattle.fec_session.specs.declared.outcome.Outcome.{Outcome}
use Rattle.tool_base.specs.declared.status.Status.TheVariants as status
use Rattle.tool_commands.specs.Outcomes.{is_contradicted, is_undetermined, outcome_status}

no_fault : (contradicted open_block : Bool) → cond contradicted status.NoCodeword
    (cond open_block status.Undetermined status.Done) ≢ status.WriteFault
no_fault true open_block = λ same. cc
no_fault false true = λ same. cc
no_fault false false = λ same. cc

-- a sink that fails isn't among them
pub no_write_fault : (outcomes : List Outcome) → outcome_status outcomes ≢ status.WriteFault
no_write_fault outcomes = no_fault (list_any is_contradicted outcomes)
    (list_any is_undetermined outcomes)
