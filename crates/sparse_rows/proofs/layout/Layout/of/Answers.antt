use Rattle.std.proofs.Common.{◌≡◌, ◌++◌, ◌<◌, ℕ, List, [], ◌∷◌, All, length, ap, sym, subst, ◌∙◌}
use Rattle.std.proofs.Common.{arith}
use Rattle.sparse_rows.proofs.Flat.{laid_next, laid_starts, laid_within}
use Rattle.sparse_rows.specs.Rows.{lists_of}
use Rattle.sparse_rows.proofs.Transposed.{length_lists, lists_at}
use Rattle.sparse_rows.proofs.layout.Layout.of.Goals as goal

pub overflow_cast-len : goal.overflow_cast-len
overflow_cast-len c =
    let items = c.put_items.new.items in
    omega (
      arith,
      c.len.ensures,
      items.ok.0,
      c.requires.few,
      laid_within c.args.lists.now c.loop-list.list-index c.list-item.result
          c.loop-list.starts.items c.loop-list.items.items items.items c.loop-list-test.true
          c.list-item.is c.loop-list.invariant
          (c.in_ok-put_items.ensures
          ∙ ap (λ list. c.loop-list.items.items ++ list) c.as_slice.ensures),
    )

pub put_items-requires : goal.put_items-requires
put_items-requires c =
    let lists = lists_of c.args.lists.now in
    let inside : c.loop-list.list-index < length lists = rw length_lists c.loop-list-test.true in
    subst (λ (list : List ℕ). All (λ item. item < 65536) list)
    (lists_at c.args.lists.now c.loop-list.list-index c.list-item.result c.loop-list-test.true
    c.list-item.is ∙ sym c.as_slice.ensures) (c.requires.small c.loop-list.list-index [] inside)

pub loop-list-preserved : goal.loop-list-preserved
loop-list-preserved c =
    let items = c.put_items.new.items in
    let len : c.len.result ≡ length items.items = omega (arith, c.len.ensures, items.ok.0) in
    laid_next c.args.lists.now c.loop-list.list-index c.list-item.result c.loop-list.starts.items
    c.loop-list.items.items c.push-in-loop-list.new.self.items items.items
    c.loop-list-test.true c.list-item.is
    (c.in_ok-put_items.ensures ∙ ap (λ list. c.loop-list.items.items ++ list)
    c.as_slice.ensures)
    (c.in_ok-push-2.ensures.items ∙ ap (λ end. c.loop-list.starts.items ++ end ∷ []) len)
    c.loop-list.invariant

pub invariant_of-result : goal.invariant_of-result
invariant_of-result c = laid_starts _ _ _ c.loop-list.invariant
