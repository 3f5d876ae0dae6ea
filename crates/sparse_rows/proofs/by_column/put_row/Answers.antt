use Rattle.std.proofs.Common.{ℕ, refl, set, ◌<◌, ◌++◌, List, [], ◌∷◌, length, get_or, sym, ap, ◌∙◌}
use Rattle.std.proofs.Common.{subst, arith}
use Rattle.std.proofs.lemmas.List.{get_or-map}
use Rattle.smallvec.specs.SmallVec.{SmallVec}
use Rattle.sparse_rows.specs.Rows.{lists_of}
use Rattle.sparse_rows.proofs.Transposed.{gains_more, lists_set, length_lists}
use Rattle.sparse_rows.proofs.by_column.put_row.Goals as goal

pub loop-c-preserved : goal.loop-c-preserved
loop-c-preserved c =
    let i = c.loop-c.c-index in
    let column = get_or c.args.row.now i 0 in
    let inside : column < length c.args.columns.now =
    c.requires.below i 0 (omega (arith, c.loop-c-test.true)) in
    let here : column < length c.loop-c.columns = omega (arith, inside, c.loop-c.auto.columns) in
    gains_more c.args.r c.args.row.now i column (lists_of c.args.columns.now)
    (lists_of c.loop-c.columns) _ c.requires.rising (omega (arith, c.loop-c-test.true)) refl
    (subst (λ n. column < n) (sym (length_lists c.args.columns.now)) inside) c.loop-c.invariant
    (lists_set c.loop-c.columns column c.push.new.self here
    ∙ ap (λ (row : List ℕ). set (lists_of c.loop-c.columns) column row) (c.in_ok-push.ensures.ok
    ∙ ap (λ (row : List ℕ). row ++ c.args.r ∷ [])
    (sym (get_or-map (λ (row : SmallVec ℕ). row.items) c.loop-c.columns column _ [] here))))
