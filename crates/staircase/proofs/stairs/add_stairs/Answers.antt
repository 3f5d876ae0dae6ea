use Rattle.std.proofs.Common.{◌≡◌, ◌+◌, ◌<◌, ℕ, List, [], length, All, sym, ap, ◌∙◌, subst, arith}
use Rattle.std.proofs.lemmas.List.Elements.{All-get_or}
use Rattle.sparse_rows.specs.Matrix.{HasShape, row_of}
use Rattle.sparse_rows.specs.Building.{IsRising}
use Rattle.staircase.specs.Stairs.{with_stair}
use Rattle.staircase.proofs.RightSide.{row_is, row_inside, stairs_more, stairs_all}
use Rattle.staircase.proofs.RightSide.{stairs_have_shape}
use Rattle.staircase.proofs.stairs.add_stairs.Goals as goal

pub add_stair-requires-clause-inside : goal.add_stair-requires-clause-inside
add_stair-requires-clause-inside c =
    let inside : c.loop-r.r < length c.args.rows.now.rows =
    omega (arith, c.requires.left.filled.count) in
    rw c.loop-r.invariant (row_inside c.args.rows.now c.loop-r.r inside)

pub add_stair-requires-clause-sources : goal.add_stair-requires-clause-sources
add_stair-requires-clause-sources c =
    let m = c.args.rows.now in
    let inside : c.loop-r.r < length m.rows = omega (arith, c.requires.left.filled.count) in
    let row : row_of c.loop-r.rows c.loop-r.r ≡ row_of m c.loop-r.r =
    ap (λ now. row_of now c.loop-r.r) c.loop-r.invariant ∙ row_is m c.loop-r.r inside in
    subst (λ (row : List ℕ). All (λ x. x < c.args.k) row) (sym row)
    (All-get_or (IsRising c.args.k) m.rows c.loop-r.r [] inside
    c.requires.left.filled.rows).below

pub loop-r-preserved : goal.loop-r-preserved
loop-r-preserved c =
    let m = c.args.rows.now in
    let inside : c.loop-r.r < length m.rows = omega (arith, c.requires.left.filled.count) in
    c.in_ok-add_stair.ensures ∙ ap (λ now. with_stair now c.loop-r.r) c.loop-r.invariant
    ∙ stairs_more m c.loop-r.r inside

pub returns-clause-stairs : goal.returns-clause-stairs
returns-clause-stairs c =
    let all : c.loop-r.r ≡ length c.args.rows.now.rows =
    omega (arith, c.requires.left.filled.count) in
    c.loop-r.invariant ∙ stairs_all c.args.rows.now c.loop-r.r all

pub returns-clause-shape : goal.returns-clause-shape
returns-clause-shape c =
    let m = c.args.rows.now in
    let all : c.loop-r.r ≡ length m.rows = omega (arith, c.requires.left.filled.count) in
    subst HasShape (sym (c.loop-r.invariant ∙ stairs_all m c.loop-r.r all))
    (stairs_have_shape c.args.k (c.args.k + c.args.count) m c.requires.left)
