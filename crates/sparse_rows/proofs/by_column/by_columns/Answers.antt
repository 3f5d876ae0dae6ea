use Rattle.std.proofs.Common.{◌≡◌, ◌<◌, [], length, take, sym, ap, ◌∙◌, subst, arith}
use Rattle.std.proofs.Math.Seq.{take-length}
use Rattle.std.proofs.lemmas.List.{with_items_is}
use Rattle.std.specs.Vec.{with_items}
use Rattle.sparse_rows.specs.Rows.{lists_of}
use Rattle.sparse_rows.specs.Building.{IsRising}
use Rattle.sparse_rows.specs.Rows.{columns_in}
use Rattle.sparse_rows.proofs.Transposed.{columns_none, columns_step, length_columns, length_lists}
use Rattle.sparse_rows.proofs.Transposed.{lists_at, lists_none}
use Rattle.sparse_rows.proofs.by_column.by_columns.Goals as goal

pub loop-r-init : goal.loop-r-init
loop-r-init c = ap lists_of c.in_ok-columns.ensures ∙ lists_none c.args.n ∙ columns_none c.args.n

pub put_row-requires : goal.put_row-requires
put_row-requires c =
    let lists = lists_of c.args.rows.now in
    let inside : c.loop-r.r < length lists = rw length_lists c.loop-r-test.true in
    let row : IsRising c.args.n c.as_slice.result.now =
    subst (IsRising c.args.n) (lists_at c.args.rows.now c.loop-r.r c.index-rows-r.result
    c.loop-r-test.true c.index-rows-r.is ∙ sym c.as_slice.ensures)
    (c.requires.rows c.loop-r.r [] inside) in
    let long : c.args.n ≡ length c.deref_mut.result.now =
    sym (length_columns c.args.n (take c.loop-r.r lists)) ∙ ap length (sym c.loop-r.invariant)
    ∙ length_lists c.loop-r.columns.items ∙ ap length (sym c.deref_mut.ensures.value) in
    subst (λ n. IsRising n c.as_slice.result.now) long row

pub loop-r-preserved : goal.loop-r-preserved
loop-r-preserved c =
    let items : (with_items c.loop-r.columns c.put_row.new.columns).items ≡ c.put_row.new.columns =
    with_items_is c.loop-r.columns c.put_row.new.columns
    (omega (arith, c.put_row.auto.columns, c.deref_mut.ensures.len)) in
    ap lists_of items
    ∙ columns_step c.args.n c.args.rows.now c.loop-r.r c.index-rows-r.result
    (lists_of c.loop-r.columns.items) (lists_of c.put_row.new.columns) c.loop-r-test.true
    c.index-rows-r.is c.loop-r.invariant
    (rw (← c.as_slice.ensures, ← c.deref_mut.ensures.value) c.in_ok-put_row.ensures)

pub returns : goal.returns
returns c =
    let all : c.loop-r.r ≡ length (lists_of c.args.rows.now) =
    omega (arith, c.loop-r-test.false, c.loop-r.auto.r-end, length_lists c.args.rows.now) in
    c.loop-r.invariant ∙ ap (columns_in c.args.n) (ap (λ r. take r (lists_of c.args.rows.now)) all
    ∙ take-length (lists_of c.args.rows.now))
