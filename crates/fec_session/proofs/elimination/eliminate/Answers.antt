use Rattle.std.proofs.Common.{List, ℕ, map, slice_index, ap₂, subst, ◌∙◌}
use Rattle.gauss.specs.Equations.{System}
use Rattle.gauss.specs.Answer.{IsAnswer}
use Rattle.gauss.specs.declared.answer.Answer.TheVariants as answer
use Rattle.fec_session.proofs.elimination.eliminate.Goals as goal

pub returns-in-Clash : goal.returns-in-Clash
returns-in-Clash c = subst (λ (s : System). IsAnswer s answer.Clash)
    c.in_ok-columns.ensures.equations
    (subst (IsAnswer c.in_ok-columns.field-0.equations) c.in-Clash.is c.in_ok-solve.ensures)

pub returns-in_ok-columns_at-in-Free : goal.returns-in_ok-columns_at-in-Free
returns-in_ok-columns_at-in-Free c =
    let set : List ℕ = c.in-Free.set in
    let free = subst (λ (s : System). IsAnswer s (answer.Free set))
    c.in_ok-columns.ensures.equations
    (subst (IsAnswer c.in_ok-columns.field-0.equations) c.in-Free.is c.in_ok-solve.ensures) in
    let columns = c.deref.ensures.value ∙ c.in_ok-columns.ensures.columns in (
      set,
      free,
      c.in_ok-columns_at-in-Free.ensures
          ∙ ap₂ (λ (columns places : List ℕ). map (slice_index columns) places) columns
          c.positions.ensures.value,
    )
