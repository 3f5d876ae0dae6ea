use Rattle.std.proofs.Common.{◌≡◌, ℕ, Some, sym, ap₂, ◌∙◌}
use Rattle.std.proofs.lemmas.Result.{err_from_is_err_and, IfOk-at_ok}
use Rattle.sparse_rows.specs.Matrix.{Matrix}
use Rattle.triangle.proofs.Rows.{left_over, chains_over, triangle_is}
use Rattle.triangle.proofs.chains.triangle.Goals as goal

pub returns-in_err-rows-clause-draw_limit : goal.returns-in_err-rows-clause-draw_limit
returns-in_err-rows-clause-draw_limit c limit =
    let p = err_from_is_err_and c.from_residual.result c.from_residual.ensures.1 in
    let seed : c.unwrap.result ≡ c.args.seed =
    IfOk-at_ok (λ (generator : ℕ). generator ≡ c.args.seed) c.unwrap.ensures
    c.new.ensures.state in
    left_over c.args.k c.args.n c.args.n1 c.args.seed c.args.limit c.new-g.result
    (c.new-g.ensures.state ∙ seed) c.new-g.ensures.used c.new-g.ensures.limit
    (c.in_err-rows.ensures.draw_limit (cc (p.1, p.2, limit)))

pub returns-in_err-add_chains-clause-draw_limit : goal.returns-in_err-add_chains-clause-draw_limit
returns-in_err-add_chains-clause-draw_limit c limit =
    let p = err_from_is_err_and c.from_residual-in_err-add_chains.result
    c.from_residual-in_err-add_chains.ensures.1 in
    let seed : c.unwrap.result ≡ c.args.seed =
    IfOk-at_ok (λ (generator : ℕ). generator ≡ c.args.seed) c.unwrap.ensures
    c.new.ensures.state in
    chains_over c.args.k c.args.n c.args.n1 c.args.seed c.args.limit c.new-g.result
    (c.new-g.ensures.state ∙ seed) c.new-g.ensures.used c.new-g.ensures.limit
    c.in_ok-rows.rows c.left.new.g c.in_ok-rows.ensures.ok c.add_stairs.new.rows
    c.in_ok-add_stairs.ensures.stairs (c.in_err-add_chains.ensures.draw_limit
    (cc (p.1, p.2, limit)))

pub returns-clause-ok : goal.returns-clause-ok
returns-clause-ok c =
    let seed : c.unwrap.result ≡ c.args.seed =
    IfOk-at_ok (λ (generator : ℕ). generator ≡ c.args.seed) c.unwrap.ensures
    c.new.ensures.state in
    triangle_is c.args.k c.args.n c.args.n1 c.args.seed c.args.limit c.new-g.result
    (c.new-g.ensures.state ∙ seed) c.new-g.ensures.used c.new-g.ensures.limit
    c.in_ok-rows.rows c.left.new.g c.in_ok-rows.ensures.ok c.add_stairs.new.rows
    c.in_ok-add_stairs.ensures.stairs c.add_chains.new.rows c.add_chains.new.g
    c.in_ok-add_chains.ensures.ok
    ∙ ap₂ (λ (matrix : Matrix) draws. Some (record { matrix = matrix; draws = draws }))
    (sym c.in_ok-code.ensures) (sym c.used-2.ensures.value)
