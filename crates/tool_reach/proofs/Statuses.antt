-- The status of a `salvage`, and what is written at it.
use Rattle.std.proofs.Common.{Bool, List, ap, cond, false, length, refl, sym, true, ℕ, ◌∙◌, ◌≡◌, ◌≢◌}
use Rattle.std.proofs.lemmas.List.{length-replicate}
use Rattle.std.specs.List.{list_any}
use Rattle.fec_base.specs.Symbol.{zero_symbol}
use Rattle.partial_block.specs.declared.outcome.Survey.{Survey}
use Rattle.tool_base.specs.declared.status.Status.{Status}
use Rattle.tool_base.specs.declared.status.Status.TheVariants as status
use Rattle.tool_reach.specs.Salvaged.{if_fitting, is_contradicted, is_partial, salvage_status}
use Rattle.tool_reach.specs.Salvaged.{salvaged_object}

no_fault : (contradicted part : Bool) → cond contradicted status.NoCodeword
    (cond part status.Undetermined status.Done) ≢ status.WriteFault
no_fault true part = λ same. cc same
no_fault false true = λ same. cc same
no_fault false false = λ same. cc same

-- a sink that fails isn't among the statuses of blocks
pub no_write_fault : (surveys : List Survey) → salvage_status surveys ≢ status.WriteFault
no_write_fault surveys = no_fault (list_any is_contradicted surveys) (list_any is_partial surveys)

-- at any status but one all is written
pub if_fitting_is : (s : Status) (bytes : List ℕ) → s ≢ status.NoCodeword → if_fitting s bytes ≡ bytes
if_fitting_is status.Done bytes apart = refl
if_fitting_is status.Memory bytes apart = refl
if_fitting_is status.Usage bytes apart = refl
if_fitting_is status.ReadFault bytes apart = refl
if_fitting_is status.WriteFault bytes apart = refl
if_fitting_is status.Malformed bytes apart = refl
if_fitting_is status.Draws bytes apart = refl
if_fitting_is status.Limit bytes apart = refl
if_fitting_is status.Undetermined bytes apart = refl
if_fitting_is status.NoCodeword bytes apart = absurd (apart refl)
if_fitting_is status.WatchFault bytes apart = refl

-- what is written with these zero bytes, at such a status
pub written_is : (s : Status) (zeros : List ℕ) (len : ℕ) (surveys : List Survey) (size own : ℕ)
    → s ≢ status.NoCodeword → zeros ≡ zero_symbol len → own ≡ size
    → salvaged_object (length zeros) surveys own ≡ if_fitting s (salvaged_object len surveys size)
written_is s zeros len surveys size own apart zero same =
    ap (λ (n : ℕ). salvaged_object n surveys own) (ap length zero ∙ length-replicate len 0)
    ∙ ap (salvaged_object len surveys) same
    ∙ sym (if_fitting_is s (salvaged_object len surveys size) apart)
