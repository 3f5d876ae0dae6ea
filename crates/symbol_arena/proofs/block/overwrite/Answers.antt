use Rattle.std.proofs.Common.{ℕ, List, length, ◌-◌, ap, ◌∙◌, arith}
use lib.Lanes.{chunk, put_chunk}
use Rattle.symbol_arena.proofs.Ranges.{both_ends}
use Rattle.symbol_arena.proofs.block.overwrite.Goals as goal

pub returns : goal.returns
returns c =
    let bytes : List ℕ = c.args.bytes.now in
    let end : ℕ = length bytes - 16 in
    c.store_half-2.ensures ∙ ap (put_chunk end c.store_half.new.all) c.load_half-2.ensures
    ∙ ap (λ (first : List ℕ). put_chunk end first (chunk end 16 bytes)) (c.store_half.ensures
    ∙ ap (put_chunk 0 c.args.all.now) c.load_half.ensures)
    ∙ both_ends c.args.all.now bytes 16 c.requires (omega (arith, c.if-len-lt16.false))
    (omega (arith, c.if-len-gt32.false))
