use Rattle.std.proofs.Common.{length, sym, ap, ◌∙◌, arith, ◌<◌}
use Rattle.gauss.specs.Reduction.{ReducedForm, set_at}
use Rattle.gauss.proofs.FormParts.{set_at_is, set_count}
use Rattle.gauss.proofs.reduced.Reduced.null_set.Goals as goal

pub members_of-requires-clause-bit : goal.members_of-requires-clause-bit
members_of-requires-clause-bit c = let i = c.self.inside in
    omega (
      arith,
      c.requires,
      ap (λ (r : ReducedForm). length r.sets) c.self.view_is,
      set_count i.values i.masks.sets i.masks.bytes.items,
      c.stride_of-stride.ensures,
    )

pub returns : goal.returns
returns c =
    let i = c.self.inside in
    let lt : c.args.i < i.masks.sets =
    omega (
      arith,
      c.requires,
      ap (λ (r : ReducedForm). length r.sets) c.self.view_is,
      set_count i.values i.masks.sets i.masks.bytes.items,
    ) in
    (rw (c.count-unknowns.ensures.value, c.stride_of-stride.ensures, c.deref.ensures.value) at
    c.in_ok-set.ensures)
    ∙ sym (set_at_is i.values i.masks.sets i.masks.bytes.items c.args.i lt)
    ∙ ap (λ (r : ReducedForm). set_at r c.args.i) c.self.view_is
