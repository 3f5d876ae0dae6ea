use Rattle.std.proofs.Common.{◌≡◌, ◌≤◌, ap, ◌∙◌, subst, slice_index}
use Rattle.packet_file.specs.Header.{HeaderFields, source_counts, symbol_count}
use Rattle.packet_file.proofs.Limits.{block_at}
use Rattle.packet_file.proofs.header.Header.source_count.Goals as goal

pub returns-clause-some : goal.returns-clause-some
returns-clause-some c =
    let kept : HeaderFields = record {
      version = c.self.inside.version;
      codec = c.self.inside.codec;
      oti = c.self.inside.oti;
    } in
    (block_at c.args.self.now kept c.self.inside.plan c.args.i c.block_len.result c.self.view_is
    c.self.invariant c.requires c.block_len.ensures).some

pub returns-clause-within : goal.returns-clause-within
returns-clause-within c =
    let h : HeaderFields = c.args.self.now in
    let kept : HeaderFields = record {
      version = c.self.inside.version;
      codec = c.self.inside.codec;
      oti = c.self.inside.oti;
    } in
    let block = block_at h kept c.self.inside.plan c.args.i c.block_len.result c.self.view_is
    c.self.invariant c.requires c.block_len.ensures in
    let at : c.block_len.result ≡ slice_index (source_counts h) c.args.i = c.block_len.ensures
    ∙ ap (λ counts. slice_index counts c.args.i) (c.self.invariant.1
    ∙ ap source_counts c.self.view_is) in
    subst (λ n. c.block_len.result ≤ symbol_count h n) at
    (subst (λ (k : HeaderFields). c.block_len.result ≤ symbol_count k c.block_len.result)
    c.self.view_is block.encoded)
