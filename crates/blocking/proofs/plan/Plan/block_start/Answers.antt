use Rattle.std.proofs.Common.{◌≤◌, length, sum, take, replicate, ◌+◌, ap, sym, ◌∙◌, arith}
use Rattle.std.proofs.Common.{length-append}
use Rattle.std.proofs.lemmas.List.{length-replicate}
use Rattle.blocking.proofs.Spread.{start_sum}
use Rattle.blocking.proofs.plan.Plan.block_start.Goals as goal

-- src/plan.rt:89:5
pub returns-clause-value : goal.returns-clause-value
returns-clause-value c =
    let p = c.self.inside in
    let inside : c.args.i ≤ p.larger + p.smaller =
    omega (
      arith,
      ap length c.self.view_is,
      c.requires,
      length-append (replicate p.larger p.larger_len) (replicate p.smaller p.smaller_len),
      length-replicate p.larger p.larger_len,
      length-replicate p.smaller p.smaller_len,
    ) in
    rw c.min-larger.ensures (sym (start_sum p.larger p.larger_len p.smaller p.smaller_len c.args.i
    inside) ∙ ap (λ blocks. sum (take c.args.i blocks)) c.self.view_is)
