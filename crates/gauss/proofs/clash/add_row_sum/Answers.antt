use Rattle.std.proofs.Common.{◌≡◌, [], length, get_or, sym, ap, ◌∙◌, bit_xor}
use Rattle.fec_base.proofs.SymbolBytes.{byte_xor}
use Rattle.gauss.proofs.clash.add_row_sum.Goals as goal

pub returns-then-r-rows : goal.returns-then-r-rows
returns-then-r-rows c t lt =
    let long : length c.get.result.now ≡ length c.args.sum.now = ap length c.get.ensures
    ∙ (c.requires.sums.symbols c.args.r [] (rw c.requires.sums.count c.if-r-rows.true)).long in
    ap (λ xs. get_or xs t 0) c.xor_into.ensures ∙ byte_xor c.args.sum.now c.get.result.now
    (sym long) t
    ∙ ap (λ xs. bit_xor (get_or c.args.sum.now t 0) (get_or xs t 0)) c.get.ensures
