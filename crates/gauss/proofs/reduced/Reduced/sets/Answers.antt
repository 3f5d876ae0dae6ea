use Rattle.std.proofs.Common.{length, sym, ap, ◌∙◌}
use Rattle.gauss.specs.Reduction.{ReducedForm}
use Rattle.gauss.proofs.FormParts.{set_count}
use Rattle.gauss.proofs.reduced.Reduced.sets.Goals as goal

pub returns-clause-count : goal.returns-clause-count
returns-clause-count c = let i = c.self.inside in
    sym (set_count i.values i.masks.sets i.masks.bytes.items)
    ∙ ap (λ (r : ReducedForm). length r.sets) c.self.view_is
