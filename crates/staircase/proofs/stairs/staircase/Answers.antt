use Rattle.std.proofs.Common.{◌≡◌, sym, ap₂, ◌∙◌, Some, ℕ}
use Rattle.std.proofs.lemmas.Result.{err_from_is_err_and, IfOk-at_ok}
use Rattle.sparse_rows.specs.Matrix.{Matrix}
use Rattle.staircase.proofs.RightSide.{staircase_over, staircase_is}
use Rattle.staircase.proofs.stairs.staircase.Goals as goal

pub returns-in_err-rows-clause-draw_limit : goal.returns-in_err-rows-clause-draw_limit
returns-in_err-rows-clause-draw_limit c limit =
    let p = err_from_is_err_and c.from_residual.result c.from_residual.ensures.1 in
    let seed : c.unwrap.result ≡ c.args.seed =
    IfOk-at_ok (λ (generator : ℕ). generator ≡ c.args.seed) c.unwrap.ensures
    c.new.ensures.state in
    staircase_over c.args.k c.args.n c.args.n1 c.args.seed c.args.limit c.new-g.result
    (c.new-g.ensures.state ∙ seed) c.new-g.ensures.used c.new-g.ensures.limit
    (c.in_err-rows.ensures.draw_limit (cc (p.1, p.2, limit)))

pub from_builder-requires : goal.from_builder-requires
from_builder-requires c = c.in_ok-add_stairs.ensures.shape

pub returns-clause-ok : goal.returns-clause-ok
returns-clause-ok c =
    let seed : c.unwrap.result ≡ c.args.seed =
    IfOk-at_ok (λ (generator : ℕ). generator ≡ c.args.seed) c.unwrap.ensures
    c.new.ensures.state in
    staircase_is c.args.k c.args.n c.args.n1 c.args.seed c.args.limit c.new-g.result
    (c.new-g.ensures.state ∙ seed) c.new-g.ensures.used c.new-g.ensures.limit c.in_ok-rows.rows
    c.left.new.g c.in_ok-rows.ensures.ok
    ∙ ap₂ (λ (matrix : Matrix) draws. Some (record { matrix = matrix; draws = draws }))
    (sym (c.in_ok-code.ensures ∙ c.in_ok-add_stairs.ensures.stairs)) (sym c.used.ensures.value)
