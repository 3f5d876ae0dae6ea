use Rattle.std.proofs.Common.{ℕ, arith}
use Rattle.fec_base.specs.Symbol.{symbols_of}
use Rattle.sparse_rows.proofs.Symbols.{length_symbols, symbols_are}
use Rattle.fec_session.proofs.Filled.{source_alone}
use Rattle.fec_session.proofs.Rows.{bytes_small}
use Rattle.fec_session.proofs.encode.encode_block.Goals as goal

pub fill_repair-requires-clause-count : goal.fill_repair-requires-clause-count
fill_repair-requires-clause-count c =
    let m = c.args.code.now in
    (source_alone m c.k.ensures.code c.args.len c.args.source.now c.in_ok-symbols.symbols
    c.put_source.new.symbols c.n.result c.k.result c.n.ensures.value c.k.ensures.value
    c.in_ok-symbols.ensures c.put_source.ensures).0

pub returns : goal.returns
returns c =
    let m = c.args.code.now in let len : ℕ = c.args.len in
    c.fill_repair.ensures len (symbols_of len m.k c.args.source.now)
    (length_symbols len m.k c.args.source.now)
    (symbols_are len m.k c.args.source.now (omega (arith, c.requires.source))
    (bytes_small c.args.source.now c.type_inv.source))
    (source_alone m c.k.ensures.code len c.args.source.now c.in_ok-symbols.symbols
    c.put_source.new.symbols c.n.result c.k.result c.n.ensures.value c.k.ensures.value
    c.in_ok-symbols.ensures c.put_source.ensures).1
