use Rattle.std.proofs.Common.{◌≡◌, ◌+◌, ◌/◌, ◌%◌, min, List, ℕ, ap, ◌∙◌, arith}
use Rattle.std.specs.Int.{div_ceil}
use Rattle.sparse_rows.specs.Matrix.{with_entry}
use Rattle.parity_2d.proofs.Sources.{all_below, all_none, all_more, all_more_none}
use Rattle.parity_2d.proofs.grid.add_sources.Goals.{else-corners-gt0}
use Rattle.parity_2d.proofs.grid.add_sources.Goals.{then-corners-gt0+in_ok-insert-3}
use Rattle.parity_2d.proofs.grid.add_sources.Goals as goal

pub loop-c-init : goal.loop-c-init
loop-c-init c = ap (λ (rows : List (List ℕ)). record c.args.rows.now { rows = rows })
    (c.requires.empty ∙ all_none c.args.k c.args.width c.args.corners)

pub loop-c-preserved : goal.loop-c-preserved
loop-c-preserved c =
    let k = c.args.k in
    let w = c.args.width in
    let some = c.args.corners in
    let symbol = c.loop-c.c in
    let m = c.args.rows.now in
    let in_grid = c.in_ok-insert-2.ensures.ok
    ∙ ap (λ x. with_entry x (c.args.grid_rows + symbol % w) symbol)
    (c.in_ok-insert.ensures.ok ∙ ap (λ x. with_entry x (symbol / w) symbol) c.loop-c.invariant)
    ∙ ap (λ a. with_entry (with_entry (record m { rows = all_below k w some symbol }) (symbol / w)
    symbol) (a + symbol % w) symbol) c.requires.grid in
    elim c.if-corners-gt0.branch [
      | then-corners-gt0+in_ok-insert-3 b ↦
          let place : c.args.grid_rows + c.min.result ≡ div_ceil k w + min w k = omega arith in
          b.rows-is ∙ b.in_ok-insert-3.ensures.ok
          ∙ ap (λ x. with_entry x (c.args.grid_rows + c.min.result) symbol) in_grid
          ∙ ap (λ row. with_entry (with_entry (with_entry
          (record m { rows = all_below k w some symbol }) (symbol / w) symbol)
          (div_ceil k w + symbol % w) symbol) row symbol) place
          ∙ all_more m k w some symbol c.requires.wide (omega arith) (omega arith)
      | else-corners-gt0 b ↦
          b.rows-is ∙ in_grid
          ∙ all_more_none m k w some symbol c.requires.wide (omega arith) (omega arith)
    ]

pub returns : goal.returns
returns c =
    let all : c.loop-c.c ≡ c.args.k = omega arith in
    c.loop-c.invariant ∙ ap (λ symbols. record c.args.rows.now
    { rows = all_below c.args.k c.args.width c.args.corners symbols }) all
