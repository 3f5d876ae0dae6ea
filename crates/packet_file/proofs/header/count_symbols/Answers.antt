use Rattle.std.proofs.Common.{◌≡◌, ℕ, Option, unwrap_or, sym, ap, ◌∙◌, arith}
use Rattle.blocking.specs.Blocks.{scaled}
use Rattle.packet_file.specs.Header.{symbols_by}
use Rattle.packet_file.proofs.Sizes.{fields_have_sizes, symbols_most, HasSizes}
use Rattle.packet_file.proofs.header.count_symbols.Goals as goal

pub returns-in-Some-clause-most : goal.returns-in-Some-clause-most
returns-in-Some-clause-most c =
    let oti = c.args.oti.now in
    let sizes : HasSizes c.args.codec oti = fields_have_sizes c.args.codec oti c.requires.fields in
    let grid : symbols_by c.args.codec oti c.args.k ≡ c.in-Some.n =
    ap (λ (size : Option ℕ). unwrap_or size (scaled c.args.k oti.block oti.max_n))
    (sym c.grid_size.ensures ∙ c.in-Some.is) in
    omega (arith, symbols_most c.args.codec oti c.args.k sizes c.requires.within, sizes.most, grid)
