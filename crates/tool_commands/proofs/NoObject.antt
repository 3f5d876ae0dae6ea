-- Why an object has no file.
use Rattle.std.proofs.Common.{inl, inr, refl, sym, subst}
use Rattle.object_file.specs.Object.{RefusesObject}
use Rattle.tool_commands.specs.EncodeRun.{RefusesEncode}
use Rattle.fec_base.specs.Outside.{Stream}
use Rattle.object_file.specs.declared.options.EncodeOptions.{EncodeOptions}
use Rattle.tool_base.specs.declared.causes.Refusal.{Refusal}

-- without an object there is no file
pub refuses_input : (o : EncodeOptions) (input now : Stream) (refusal : Refusal)
    → RefusesObject input.bytes now.bytes input.faults now.faults refusal
    → RefusesEncode o input now refusal
refuses_input o input now refusal (inl (inl memory)) = subst (RefusesEncode o input now)
    (sym memory) tt
refuses_input o input now refusal (inl (inr read)) = subst (RefusesEncode o input now) (sym read.0)
    read.1
refuses_input o input now refusal (inr long) =
    subst (RefusesEncode o input now) (sym long.0) (long.1, long.2, inl (refl, long.3))
