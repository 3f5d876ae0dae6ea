use Rattle.std.proofs.Common.{◌≡◌, ◌∷◌, ◌++◌, [], ℕ, List, not, ap, ◌∙◌, sym}
use Rattle.sparse_rows.specs.Closure.{flagged}
use Rattle.fec_session.proofs.Places.{members_yes, members_no}
use Rattle.fec_session.proofs.Opened.{unknown_is}
use Rattle.fec_session.proofs.residue.unknown_columns.Goals as goal
use Rattle.fec_session.proofs.residue.unknown_columns.Goals.{then-is_none+in_ok-push, else-is_none}

pub loop-column-preserved : goal.loop-column-preserved
loop-column-preserved c =
    let column = c.loop-column.column in
    let known = c.args.core.now.known in
    let unknown : not (flagged known column) ≡ c.is_none.result = unknown_is c.symbol.result
    (flagged known column) c.is_none.result c.symbol.ensures.known c.is_none.ensures in
    elim c.if-is_none.branch [
      | then-is_none+in_ok-push w ↦ ap (λ v. v.items) w.columns-is ∙ w.in_ok-push.ensures.items
          ∙ ap (λ (xs : List ℕ). xs ++ column ∷ []) c.loop-column.invariant
          ∙ sym (members_yes (λ b. not (flagged known b)) column (unknown ∙ w.if-is_none.true))
      | else-is_none w ↦ ap (λ v. v.items) w.columns-is ∙ c.loop-column.invariant
          ∙ sym (members_no (λ b. not (flagged known b)) column (unknown ∙ w.if-is_none.false))
    ]
