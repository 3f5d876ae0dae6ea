use Rattle.std.proofs.Common.{◌≡◌, ◌<◌, ◌∙◌, ◌++◌, ◌∷◌, [], ℕ, List, All, length, get_or, take}
use Rattle.std.proofs.Common.{sym, ap, arith}
use Rattle.std.proofs.lemmas.List.{take_more}
use Rattle.sparse_rows.specs.Columns.{column_of}
use Rattle.gauss.specs.Equations.{System}
use Rattle.gauss.specs.Filling.{equation_at, with_equation}
use Rattle.clash_proof.specs.Transposed.{with_rows}
use Rattle.clash_proof.proofs.Transposing.{above_before, column_below, column_rises, row_put}
use Rattle.clash_proof.proofs.Transposing.{rows_put}
use Rattle.clash_proof.proofs.closed_sets.put_column.Goals as goal

pub add_column-requires-clause-unknown : goal.add_column-requires-clause-unknown
add_column-requires-clause-unknown c =
    let column = column_of c.args.code.now c.args.column in
    let lt : c.loop-i.i < length column =
    omega (arith, c.loop-i-test.true, c.col_len-i-end.ensures) in
    let unknowns : c.loop-i.eqs.unknowns ≡ length c.args.code.now.rows =
    ap (λ (s : System). s.unknowns) c.loop-i.invariant ∙ c.requires.unknowns in
    let below = column_below c.args.code.now c.args.column c.loop-i.i 0 lt in
    omega (arith, unknowns, below, c.col_entry.ensures.value)

pub add_column-requires-clause-behind : goal.add_column-requires-clause-behind
add_column-requires-clause-behind c =
    let column = column_of c.args.code.now c.args.column in
    let lt : c.loop-i.i < length column =
    omega (arith, c.loop-i-test.true, c.col_len-i-end.ensures) in
    all_below (equation_at c.loop-i.eqs c.args.r).unknowns (take c.loop-i.i column)
    c.col_entry.result (get_or column c.loop-i.i 0)
    (rows_put c.args.eqs.now c.loop-i.eqs c.args.r (take c.loop-i.i column) c.requires.equation
    c.loop-i.invariant) c.col_entry.ensures.value
    (above_before column (column_rises c.args.code.now c.args.column) c.loop-i.i lt)
  where
    all_below : (us vs : List ℕ) (p q : ℕ) → us ≡ vs → p ≡ q → All (λ u. u < q) vs
        → All (λ u. u < p) us
    all_below us vs p q e f all = rw (e, f) all

pub loop-i-preserved : goal.loop-i-preserved
loop-i-preserved c =
    let column = column_of c.args.code.now c.args.column in
    let eqs = c.args.eqs.now in
    let lt : c.loop-i.i < length column =
    omega (arith, c.loop-i-test.true, c.col_len-i-end.ensures) in
    row_put eqs c.loop-i.eqs c.args.r (take c.loop-i.i column) c.requires.equation
    c.loop-i.invariant c.add_column.new.self c.col_entry.result c.add_column.ensures
    ∙ ap (λ (rows : List ℕ). with_equation eqs c.args.r (with_rows rows (equation_at eqs c.args.r)))
    (ap (λ (r : ℕ). take c.loop-i.i column ++ r ∷ []) c.col_entry.ensures.value
    ∙ sym (take_more column c.loop-i.i 0 lt))
