use Rattle.std.proofs.Common.{◌+◌, length, refl, sym, ap, ◌∙◌, subst, arith}
use Rattle.std.proofs.lemmas.Result.{err_from_is_err_and}
use Rattle.object_file.specs.BuiltCodes.{HasSize, RefusesCodes}
use Rattle.object_file.specs.Codes.{count_at}
use Rattle.object_file.proofs.Building.{AreBuilt, built_same, built_next, refuses_next}
use Rattle.object_file.proofs.file_codes.build_codes.Goals as goal
use Rattle.object_file.proofs.file_codes.build_codes.Goals.{}
use Rattle.object_file.proofs.file_codes.build_codes.Goals.{then-not-has_code+in_ok-build_code+in_ok-push}
use Rattle.object_file.proofs.file_codes.build_codes.Goals.{else-not-has_code}

pub returns-in_err-build_code-clause-refusal : goal.returns-in_err-build_code-clause-refusal
returns-in_err-build_code-clause-refusal c =
    let h = c.args.header.now in
    let draws = c.args.draws in
    let p = err_from_is_err_and c.from_residual-in_err-build_code.result
    c.from_residual-in_err-build_code.ensures.1 in
    let refuses = refuses_next h draws c.loop-block.block c.loop-block.codes.items
    c.in_err-build_code.field-0.0 (omega (arith, ap length c.plan.ensures))
    c.loop-block.invariant c.in_err-build_code.ensures.refusal in
    rw p.1 (subst (RefusesCodes h draws) (sym p.2) refuses)

pub loop-block-preserved : goal.loop-block-preserved
loop-block-preserved c =
    let h = c.args.header.now in
    let draws = c.args.draws in
    let b = c.loop-block.block in
    let before = c.loop-block.codes.items in
    elim c.if-not-has_code.branch [
      | then-not-has_code+in_ok-build_code+in_ok-push w ↦
          subst (AreBuilt h draws (b + 1)) (sym (ap (λ codes. codes.items) w.codes-is
          ∙ w.in_ok-push.ensures.items))
          (built_next h draws b before w.in_ok-build_code.field-0 c.loop-block.invariant
          w.in_ok-build_code.ensures.code w.in_ok-build_code.ensures.source
          w.in_ok-build_code.ensures.symbols w.in_ok-build_code.ensures.shape)
      | else-not-has_code w ↦
          let found : HasSize c.deref.result.now c.source_count.result = w.if-not-has_code.ensures.0
          refl in
          let here : HasSize before (count_at h b) = subst (λ l. HasSize l (count_at h b))
          c.deref.ensures.value (subst (HasSize c.deref.result.now) c.source_count.ensures.value
          found) in
          subst (AreBuilt h draws (b + 1)) (sym (ap (λ codes. codes.items) w.codes-is))
          (built_same h draws b before c.loop-block.invariant here)
    ]
