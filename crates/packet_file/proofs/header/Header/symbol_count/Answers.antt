use Rattle.std.proofs.Common.{◌≤◌, ◌*◌, sym, subst}
use Rattle.packet_file.specs.Header.{HeaderFields}
use Rattle.packet_file.proofs.Limits.{block_at}
use Rattle.packet_file.proofs.header.Header.symbol_count.Goals as goal

pub count_symbols-requires-clause-some : goal.count_symbols-requires-clause-some
count_symbols-requires-clause-some c =
    let kept : HeaderFields = record {
      version = c.self.inside.version;
      codec = c.self.inside.codec;
      oti = c.self.inside.oti;
    } in
    (block_at c.args.self.now kept c.self.inside.plan c.args.i c.block_len.result c.self.view_is
    c.self.invariant c.requires c.block_len.ensures).some

pub count_symbols-requires-clause-within : goal.count_symbols-requires-clause-within
count_symbols-requires-clause-within c =
    let kept : HeaderFields = record {
      version = c.self.inside.version;
      codec = c.self.inside.codec;
      oti = c.self.inside.oti;
    } in
    (block_at c.args.self.now kept c.self.inside.plan c.args.i c.block_len.result c.self.view_is
    c.self.invariant c.requires c.block_len.ensures).within

pub returns-clause-bytes : goal.returns-clause-bytes
returns-clause-bytes c =
    let kept : HeaderFields = record {
      version = c.self.inside.version;
      codec = c.self.inside.codec;
      oti = c.self.inside.oti;
    } in
    let block = block_at c.args.self.now kept c.self.inside.plan c.args.i c.block_len.result
    c.self.view_is c.self.invariant c.requires c.block_len.ensures in
    subst (λ (k : HeaderFields). c.count_symbols.result * k.oti.symbol ≤ 268435456) c.self.view_is
    (subst (λ n. n * kept.oti.symbol ≤ 268435456) (sym c.count_symbols.ensures.value)
    block.bytes)
