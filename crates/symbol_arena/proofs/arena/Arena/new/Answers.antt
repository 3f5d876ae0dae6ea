use Rattle.std.proofs.Common.{ℕ, ◌+◌, ◌*◌, ◌/◌, ◌≤◌, ap, ◌∙◌, arith}
use Rattle.symbol_arena.specs.Laid.{laid_symbols}
use Rattle.symbol_arena.proofs.Laid.{zero_symbols}
use Rattle.symbol_arena.proofs.arena.Arena.new.Goals as goal

pub returns : goal.returns
returns c =
    let stride : ℕ = (c.args.len + 31) / 32 * 32 in
    let fits : c.args.len ≤ stride = omega arith in
    ap (laid_symbols c.args.count stride c.args.len) c.in_ok-block.ensures
    ∙ zero_symbols c.args.count stride c.args.len fits
