use Rattle.std.proofs.Common.{subst, OnErr}
use Rattle.fec_base.specs.Bytes.{AppendsFront}
use Rattle.packet_file.proofs.header_file.write_header.Goals as goal

pub returns-clause-cut : goal.returns-clause-cut
returns-clause-cut g c =
    let held = g.K.Sink.held in
    subst (λ bytes. OnErr c.write_all.result (AppendsFront (held c.args.sink.now)
    (held c.write_all.new.sink) bytes)) c.spell_header.ensures c.write_all.ensures.cut
