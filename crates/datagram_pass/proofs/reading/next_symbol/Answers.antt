use Rattle.std.proofs.Common.{rules, ◌≡◌, ℕ, length, take, Option, Result, Err, IfErr}
use Rattle.std.proofs.Common.{sym, subst, arith}
use Rattle.std.proofs.lemmas.List.{take_all}
use Rattle.std.specs.Io.KnownBytes.{Consumes}
use Rattle.adu_frames.specs.declared.reading.Frame.{Frame}
use Rattle.datagram_pass.specs.Faults.{HasDatagramFault}
use Rattle.datagram_pass.specs.Progress.{EndsReading}
use Rattle.datagram_pass.specs.declared.kind.DatagramRefusal.{DatagramRefusal}
use Rattle.datagram_pass.specs.declared.kind.DatagramRefusal.TheVariants.{Fault}
use Rattle.datagram_pass.specs.declared.kind.Way.TheVariants.{Unframing}
use Rattle.datagram_pass.proofs.reading.next_symbol.Goals as goal

pub returns-in_err-frame-clause-ends : goal.returns-in_err-frame-clause-ends
returns-in_err-frame-clause-ends g c =
    let left = g.S.Source.left in
    let faults = g.S.Source.faults in
    let before = c.args.src.now in
    let now = c.read_full.new.src in
    let symbol = c.read_full.new.buf in
    let have = c.in-Ok.have in
    let fault = c.in_err-frame.field-0.0 in
    let same : c.from_residual.result ≡ Err (Fault fault) = search rules in
    let whole : take have symbol ≡ symbol = take_all have symbol
    (omega (arith, c.if-have-buf.false)) in
    let taken = subst (Consumes (left before) (left now)) whole c.in-Ok.ensures.bytes in
    let has = subst (λ (n : ℕ). HasDatagramFault Unframing n c.args.index symbol (left now) fault)
    c.read_full.auto.buf (c.in_err-frame.ensures.fault (left now)) in
    subst (λ (r : Result (Option Frame) DatagramRefusal). IfErr r (EndsReading Unframing
    (length c.args.buf.now) c.args.index (left before) (left now) (faults before) (faults now)))
    (sym same) (symbol, taken, has)
