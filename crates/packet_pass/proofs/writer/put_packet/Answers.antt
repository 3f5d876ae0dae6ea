use Rattle.std.proofs.Common.{List, ℕ, OnErr, subst}
use Rattle.fec_base.specs.Bytes.{AppendsFront}
use Rattle.packet_pass.proofs.LoseTexts.{lose_text}
use Rattle.packet_pass.proofs.writer.put_packet.Goals as goal

pub returns-in-Lose-clause-cut : goal.returns-in-Lose-clause-cut
returns-in-Lose-clause-cut g c =
    let held = g.K.Sink.held in
    let w = c.args.writer.now in
    let ready = c.requires.ready in
    subst (λ (l : List ℕ). OnErr c.write_kept.result (AppendsFront (held c.args.output.now)
    (held c.write_kept.new.output) l)) (lose_text w.pass c.args.header.now w.out c.args.index
    (c.args.id, c.args.symbol.now) c.in-Lose.loss w.thinning.kind c.in-Lose.seed w.thinning.seed
    w.thinning.done c.next-keep.result c.in-Lose.is ready.out c.next-keep.ensures.kept ready.kind
    ready.seed ready.done) c.write_kept.ensures.cut
