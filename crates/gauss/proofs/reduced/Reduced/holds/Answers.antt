use Rattle.std.proofs.Common.{◌<◌, length, ap, ◌∙◌, arith}
use Rattle.sparse_rows.specs.Matrix.{is_in}
use Rattle.gauss.specs.Reduction.{ReducedForm, set_at}
use Rattle.gauss.proofs.FormParts.{holds_is, mask_room, set_count}
use Rattle.gauss.proofs.reduced.Reduced.holds.Goals as goal

pub holds_at-requires-clause-bit : goal.holds_at-requires-clause-bit
holds_at-requires-clause-bit c = let i = c.self.inside in
    omega (
      arith,
      c.requires.set,
      ap (λ (r : ReducedForm). length r.sets) c.self.view_is,
      set_count i.values i.masks.sets i.masks.bytes.items,
      c.stride_of-stride.ensures,
    )

pub holds_at-requires-clause-unknown : goal.holds_at-requires-clause-unknown
holds_at-requires-clause-unknown c =
    let i = c.self.inside in
    let low : c.args.c < length i.values =
    omega (arith, c.requires.unknown, ap (λ (r : ReducedForm). length r.symbols) c.self.view_is)
    in
    rw (c.stride_of-stride.ensures, c.deref.ensures.value)
    (mask_room i.values i.masks.sets i.masks.bytes.items c.self.invariant c.args.c low)

pub returns : goal.returns
returns c =
    let i = c.self.inside in
    let lt : c.args.i < i.masks.sets =
    omega (
      arith,
      c.requires.set,
      ap (λ (r : ReducedForm). length r.sets) c.self.view_is,
      set_count i.values i.masks.sets i.masks.bytes.items,
    ) in
    let low : c.args.c < length i.values =
    omega (arith, c.requires.unknown, ap (λ (r : ReducedForm). length r.symbols) c.self.view_is)
    in
    (rw (c.stride_of-stride.ensures, c.deref.ensures.value) at c.holds_at.ensures)
    ∙ holds_is i.values i.masks.sets i.masks.bytes.items c.args.i c.args.c lt low
    ∙ ap (λ (r : ReducedForm). is_in (set_at r c.args.i) c.args.c) c.self.view_is
