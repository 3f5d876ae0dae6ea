use Rattle.std.proofs.Common.{◌+◌, take, arith, length-take-le}
use Rattle.datagram_pass.proofs.Heads.{ended_behind_head, failed_behind_head}
use Rattle.datagram_pass.proofs.reading.read_bytes.Goals as goal

pub returns-in-Err-clause-ends : goal.returns-in-Err-clause-ends
returns-in-Err-clause-ends g c = λ before behind.
    let left = g.S.Source.left in
    let faults = g.S.Source.faults in
    let cut = c.in-Err.ensures.cut in
    let buf = c.read_full.new.buf in
    failed_behind_head c.args.symbol c.args.index c.args.head.now (take cut.0 buf) c.args.frame
    before (left c.args.src.now) (left c.read_full.new.src) (faults c.args.src.now)
    (faults c.read_full.new.src) c.requires.head
    (omega (
      arith,
      length-take-le cut.0 buf (omega (arith, cut.1)),
      cut.1,
      c.read_full.auto.buf,
      c.requires.bytes,
    ))
    behind cut.2 c.in-Err.ensures.cause.failed

pub returns-then-have-bytes-clause-ends : goal.returns-then-have-bytes-clause-ends
returns-then-have-bytes-clause-ends g c = λ before behind.
    let left = g.S.Source.left in
    let faults = g.S.Source.faults in
    let have = c.in-Ok.have in
    let buf = c.read_full.new.buf in
    let fewer = c.if-have-bytes.true in
    let long = length-take-le have buf (omega (arith, fewer)) in
    ended_behind_head c.args.symbol c.args.index c.args.head.now (take have buf) c.args.frame
    before (left c.args.src.now) (left c.read_full.new.src) (faults c.args.src.now)
    (faults c.read_full.new.src) c.requires.head
    (omega (arith, long, fewer, c.read_full.auto.buf, c.requires.bytes))
    behind c.in-Ok.ensures.bytes (3 + have) (omega (arith, long)) (c.in-Ok.ensures.end fewer)
