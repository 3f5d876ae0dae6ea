use Rattle.std.proofs.Common.{[], get_or, ap, ◌∙◌}
use Rattle.gauss.specs.Reduction.{ReducedForm}
use Rattle.gauss.proofs.FormParts.{open_by_first}
use Rattle.gauss.proofs.reduced.Reduced.symbol.Goals as goal

pub returns-in-Some : goal.returns-in-Some
returns-in-Some c = open_by_first c.args.self.now c.args.c c.in-Some.field-0 c.in-Some.ensures

pub returns-in-None : goal.returns-in-None
returns-in-None c = (
  c.in-None.ensures,
  c.symbol.ensures ∙ ap (λ (r : ReducedForm). get_or r.symbols c.args.c []) c.self.view_is,
)
