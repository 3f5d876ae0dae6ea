-- Inside: what elimination finds of a residue, and equations that are being filled in.
use Rattle.std.specs.Prelude.{◌≡◌, ℕ, List}
use Rattle.peeling.specs.Decoder.{Decoder}
use Rattle.gauss.specs.Equations.{Equation}
use Rattle.gauss.specs.Answer.{IsAnswer}
use Rattle.gauss.specs.declared.answer.Answer.TheVariants as answer
use Rattle.fec_session.specs.Residue.{columns_at, residue, unknown_columns}
use Rattle.fec_session.specs.declared.elimination.Residual.{Residual}
use Rattle.fec_session.specs.declared.elimination.Residual.TheVariants as residual

-- no symbols solve the residue; or these do at the unknown columns, and no others; or some do, and
-- this is the first null set, as columns
abbrev pub IsResidual : Decoder → Residual → Type 0
IsResidual d residual.Clash = IsAnswer (residue d) answer.Clash
IsResidual d (residual.Solved columns values) =
    (columns.items ≡ unknown_columns d) × IsAnswer (residue d) (answer.One values)
IsResidual d (residual.Open word) =
    (set : List ℕ) × IsAnswer (residue d) (answer.Free set) × (word ≡ columns_at d set)

-- the equation with these unknowns
abbrev pub with_unknowns : List ℕ → Equation → Equation
with_unknowns unknowns e = record { unknowns = unknowns; sum = e.sum }
