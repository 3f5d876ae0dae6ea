use Rattle.std.proofs.Common.{sym, arith}
use Rattle.sparse_rows.proofs.Flat.{layout_list_at}
use Rattle.sparse_rows.proofs.layout.Layout.list.Goals as goal

pub bounds-starts-i : goal.bounds-starts-i
bounds-starts-i c = omega (
  arith,
  (layout_list_at c.self.inside c.self.invariant c.self.view_is
      c.as_slice-starts.ensures.value c.as_slice-items.ensures.value c.args.i c.requires).room,
)

pub bounds-starts-i-2 : goal.bounds-starts-i-2
bounds-starts-i-2 c = (layout_list_at c.self.inside c.self.invariant c.self.view_is
    c.as_slice-starts.ensures.value c.as_slice-items.ensures.value c.args.i c.requires).room

pub offset_bounds-items-starts : goal.offset_bounds-items-starts
offset_bounds-items-starts c = let here = layout_list_at c.self.inside c.self.invariant
    c.self.view_is c.as_slice-starts.ensures.value c.as_slice-items.ensures.value c.args.i
    c.requires in omega (arith, here.rise, here.within, c.as_slice-items.type_inv.1)

pub slice_bounds-result-count : goal.slice_bounds-result-count
slice_bounds-result-count c = (layout_list_at c.self.inside c.self.invariant c.self.view_is
    c.as_slice-starts.ensures.value c.as_slice-items.ensures.value c.args.i c.requires).rise

pub slice_bounds-result-start : goal.slice_bounds-result-start
slice_bounds-result-start c = (layout_list_at c.self.inside c.self.invariant c.self.view_is
    c.as_slice-starts.ensures.value c.as_slice-items.ensures.value c.args.i c.requires).rise

pub slice_bounds-result-end : goal.slice_bounds-result-end
slice_bounds-result-end c = (layout_list_at c.self.inside c.self.invariant c.self.view_is
    c.as_slice-starts.ensures.value c.as_slice-items.ensures.value c.args.i c.requires).within

pub returns : goal.returns
returns c = sym (layout_list_at c.self.inside c.self.invariant c.self.view_is
    c.as_slice-starts.ensures.value c.as_slice-items.ensures.value c.args.i c.requires).is
