use Rattle.std.proofs.Common.{◌++◌, ◌∷◌, [], ℕ, cond, sym, ap, ◌∙◌, append-nil}
use Rattle.sparse_rows.specs.Closure.{flagged, members}
use Rattle.gauss.proofs.Lists.{members_more}
use Rattle.gauss.proofs.null_set.flagged.Goals as goal
use Rattle.gauss.proofs.null_set.flagged.Goals.{then-flags-c+in_ok-push, else-flags-c}

pub loop-c-preserved : goal.loop-c-preserved
loop-c-preserved c =
    let w0 = flagged c.args.flags.now in
    let n : ℕ = c.loop-c.c in
    elim c.if-flags-c.branch [
      | then-flags-c+in_ok-push w ↦ ap (λ v. v.items) w.set-is ∙ w.in_ok-push.ensures.items
          ∙ ap (λ xs. xs ++ n ∷ []) c.loop-c.invariant
          ∙ ap (λ b. members n w0 ++ cond b (n ∷ []) []) (sym w.if-flags-c.true)
          ∙ sym (members_more n w0)
      | else-flags-c w ↦ ap (λ v. v.items) w.set-is ∙ c.loop-c.invariant
          ∙ sym (append-nil (members n w0)) ∙ ap (λ b. members n w0 ++ cond b (n ∷ []) [])
          (sym w.if-flags-c.false) ∙ sym (members_more n w0)
    ]
