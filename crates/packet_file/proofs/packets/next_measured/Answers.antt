use Rattle.std.proofs.Common.{◌≡◌, ◌<◌, ◌++◌, length, take, drop, arith, refl}
use Rattle.std.proofs.Common.{length-append, length-drop, length-take-le}
use Rattle.std.specs.Io.KnownBytes.{Consumes}
use Rattle.std.proofs.KnownBytes.{Consumes-trans}
use Rattle.fec_base.specs.Outside.{stream}
use Rattle.packet_file.specs.Header.{HeaderFields}
use Rattle.packet_file.specs.Packets.{IsIdOf}
use Rattle.packet_file.proofs.ReadPieces.{bad_stops, breaks_off, broken_payload, if_found}
use Rattle.packet_file.proofs.ReadPieces.{takes_most}
use Rattle.packet_file.proofs.packets.next_measured.Goals as goal

pub returns-in-Err-clause-stops : goal.returns-in-Err-clause-stops
returns-in-Err-clause-stops g c =
    let left = g.S.Source.left in
    let faults = g.S.Source.faults in
    let head = c.read_lead.new.lead in (
      head,
      if_found (λ id. Consumes (left c.args.src.now) (left c.read_lead.new.src) head) _ c.in-Some.id
          c.in-Some.is c.in_ok-id.ensures.bytes,
      bad_stops c.args.h.now c.args.limit c.args.index
          (stream (left c.args.src.now) (faults c.args.src.now))
          (stream (left c.read_lead.new.src) (faults c.read_lead.new.src)) head
          c.in-Err.fault c.in-Err.ensures.fault
          (λ broken. absurd (c.in-Err.ensures.whole broken)),
    )

pub returns-in-Err-read_payload-clause-stops : goal.returns-in-Err-read_payload-clause-stops
returns-in-Err-read_payload-clause-stops g c =
    let left = g.S.Source.left in
    let faults = g.S.Source.faults in
    let h : HeaderFields = c.args.h.now in
    let head = c.read_lead.new.lead in
    let id = c.in-Some.id in
    let first : Consumes (left c.args.src.now) (left c.read_lead.new.src) head =
    if_found (λ id. Consumes (left c.args.src.now) (left c.read_lead.new.src) head) _ id
    c.in-Some.is c.in_ok-id.ensures.bytes in
    let within : c.args.index < c.args.limit = if_found (λ id. c.args.index < c.args.limit) _ id
    c.in-Some.is c.in_ok-id.ensures.within in
    let of : IsIdOf h id = if_found (IsIdOf h) _ id c.in-Some.is c.in_ok-id.ensures.id in
    let len = c.in-Ok.len in
    let payload = take len (drop 4 c.read_payload.new.buf) in
    let long : length payload ≡ len = length-take-le len (drop 4 c.read_payload.new.buf)
    (omega (
      arith,
      length-drop 4 c.read_payload.new.buf,
      c.read_payload.ensures.length,
      c.requires.buf,
      c.in-Ok.ensures.most,
    )) in
    let cut = c.in-Err-read_payload.ensures.cut in
    let part : length (take cut.0 payload) ≡ cut.0 = length-take-le cut.0 payload
    (omega (arith, cut.1)) in
    breaks_off h c.args.index c.args.limit len id head c.requires.version within of
    c.in-Ok.ensures.len c.in-Ok.ensures.head
    (stream (left c.args.src.now) (faults c.args.src.now))
    (stream (left c.read_lead.new.src) (faults c.read_lead.new.src))
    (stream (left c.read_payload.new.src) (faults c.read_payload.new.src))
    (take cut.0 payload) first cut.2 (omega (arith, cut.1, long, part))
    c.in_ok-id.ensures.later c.in-Err-read_payload.ensures.cause.failed

pub returns-in-Err-read_payload-clause-taken : goal.returns-in-Err-read_payload-clause-taken
returns-in-Err-read_payload-clause-taken g c =
    let left = g.S.Source.left in
    let h : HeaderFields = c.args.h.now in
    let head = c.read_lead.new.lead in
    let id = c.in-Some.id in
    let first : Consumes (left c.args.src.now) (left c.read_lead.new.src) head =
    if_found (λ id. Consumes (left c.args.src.now) (left c.read_lead.new.src) head) _ id
    c.in-Some.is c.in_ok-id.ensures.bytes in
    let within : c.args.index < c.args.limit = if_found (λ id. c.args.index < c.args.limit) _ id
    c.in-Some.is c.in_ok-id.ensures.within in
    let of : IsIdOf h id = if_found (IsIdOf h) _ id c.in-Some.is c.in_ok-id.ensures.id in
    let len = c.in-Ok.len in
    let payload = take len (drop 4 c.read_payload.new.buf) in
    let long : length payload ≡ len = length-take-le len (drop 4 c.read_payload.new.buf)
    (omega (
      arith,
      length-drop 4 c.read_payload.new.buf,
      c.read_payload.ensures.length,
      c.requires.buf,
      c.in-Ok.ensures.most,
    )) in
    let cut = c.in-Err-read_payload.ensures.cut in
    let part : length (take cut.0 payload) ≡ cut.0 = length-take-le cut.0 payload
    (omega (arith, cut.1)) in
    takes_most h c.args.index c.args.limit len id head c.requires.version within of
    c.in-Ok.ensures.len c.in-Ok.ensures.head
    (left c.args.src.now) (left c.read_lead.new.src) (left c.read_payload.new.src)
    (take cut.0 payload) first cut.2 (omega (arith, c.read_lead.ensures.length))
    (omega (arith, cut.1, long, part, c.in-Ok.ensures.most))

pub returns-then-have-len-clause-stops : goal.returns-then-have-len-clause-stops
returns-then-have-len-clause-stops g c =
    let left = g.S.Source.left in
    let h : HeaderFields = c.args.h.now in
    let head = c.read_lead.new.lead in
    let id = c.in-Some.id in
    let first : Consumes (left c.args.src.now) (left c.read_lead.new.src) head =
    if_found (λ id. Consumes (left c.args.src.now) (left c.read_lead.new.src) head) _ id
    c.in-Some.is c.in_ok-id.ensures.bytes in
    let within : c.args.index < c.args.limit = if_found (λ id. c.args.index < c.args.limit) _ id
    c.in-Some.is c.in_ok-id.ensures.within in
    let of : IsIdOf h id = if_found (IsIdOf h) _ id c.in-Some.is c.in_ok-id.ensures.id in
    let have = c.in-Ok-read_payload.have in
    let buf = c.read_payload.new.buf in
    let part = take have (drop 4 buf) in
    let long : length part ≡ have = length-take-le have (drop 4 buf) (omega (
      arith,
      length-drop 4 buf,
      c.read_payload.ensures.length,
      c.requires.buf,
      c.in-Ok-read_payload.ensures.bound,
      c.in-Ok.ensures.most,
    )) in
    let fewer : length part < c.in-Ok.len = omega (arith, long, c.if-have-len.true) in (
      head ++ part,
      Consumes-trans (left c.args.src.now) (left c.read_lead.new.src)
          (left c.read_payload.new.src) head part first c.in-Ok-read_payload.ensures.bytes,
      (
        (
          within,
          refl,
          omega (arith, length-append head part, long, c.read_lead.ensures.length),
          omega arith,
          broken_payload h c.args.index c.args.limit c.in-Ok.len id head c.requires.version within
              of c.in-Ok.ensures.len c.in-Ok.ensures.head part fewer,
        ),
        λ broken. c.in-Ok-read_payload.ensures.end c.if-have-len.true,
      ),
    )

pub returns-then-have-len-clause-taken : goal.returns-then-have-len-clause-taken
returns-then-have-len-clause-taken g c =
    let left = g.S.Source.left in
    let h : HeaderFields = c.args.h.now in
    let head = c.read_lead.new.lead in
    let id = c.in-Some.id in
    let first : Consumes (left c.args.src.now) (left c.read_lead.new.src) head =
    if_found (λ id. Consumes (left c.args.src.now) (left c.read_lead.new.src) head) _ id
    c.in-Some.is c.in_ok-id.ensures.bytes in
    let within : c.args.index < c.args.limit = if_found (λ id. c.args.index < c.args.limit) _ id
    c.in-Some.is c.in_ok-id.ensures.within in
    let of : IsIdOf h id = if_found (IsIdOf h) _ id c.in-Some.is c.in_ok-id.ensures.id in
    let have = c.in-Ok-read_payload.have in
    let buf = c.read_payload.new.buf in
    let part = take have (drop 4 buf) in
    let long : length part ≡ have = length-take-le have (drop 4 buf) (omega (
      arith,
      length-drop 4 buf,
      c.read_payload.ensures.length,
      c.requires.buf,
      c.in-Ok-read_payload.ensures.bound,
      c.in-Ok.ensures.most,
    )) in
    takes_most h c.args.index c.args.limit c.in-Ok.len id head c.requires.version within of
    c.in-Ok.ensures.len c.in-Ok.ensures.head
    (left c.args.src.now) (left c.read_lead.new.src) (left c.read_payload.new.src) part first
    c.in-Ok-read_payload.ensures.bytes (omega (arith, c.read_lead.ensures.length))
    (omega (arith, long, c.in-Ok-read_payload.ensures.bound, c.in-Ok.ensures.most))
