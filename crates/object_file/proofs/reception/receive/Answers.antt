use Rattle.std.proofs.Common.{ℕ, [], ap, refl, sym, subst, ◌∙◌}
use Rattle.fec_session.specs.Session.{AreNew}
use Rattle.object_file.specs.Receiving.{matrix_at}
use Rattle.object_file.specs.Reception.{RefusesDecode}
use Rattle.fec_base.specs.Outside.{Stream, hearing, stream}
use Rattle.object_file.proofs.Chained.{file_not_received, file_received}
use Rattle.object_file.proofs.Cores.{new_cores}
use Rattle.object_file.proofs.Refusing.{opening_refused}
use Rattle.object_file.proofs.reception.receive.Goals as goal

pub take_packets-requires-clause-fits : goal.take_packets-requires-clause-fits
take_packets-requires-clause-fits g c =
    let codes = c.in-Ok.opened.codes.items in
    let cores = c.in-Ok-new.receiver.cores in (
      matrix_at cores,
      [],
      new_cores c.in-Ok.opened.header c.args.draws codes cores c.in-Ok.ensures.codes
          (subst (λ (n : ℕ). AreNew codes n cores) c.symbol_len.ensures.value
          c.in-Ok-new.ensures.cores),
    )

pub returns-in-Err-clause-refusal : goal.returns-in-Err-clause-refusal
returns-in-Err-clause-refusal g c =
    let input : Stream = stream (g.S.Source.left c.args.input.now)
    (g.S.Source.faults c.args.input.now) in
    let now : Stream = stream (g.S.Source.left c.open.new.input)
    (g.S.Source.faults c.open.new.input) in
    opening_refused c.args.draws c.args.early c.args.most input now
    (hearing (g.W.Watch.told c.args.watch) (g.W.Watch.faults c.args.watch)) c.in-Err.refusal
    c.open.ensures.taken c.in-Err.ensures.refusal

pub returns-in-Ok-take_packets-clause-received : goal.returns-in-Ok-take_packets-clause-received
returns-in-Ok-take_packets-clause-received g c =
    (file_received g.W.Watch.told g.W.Watch.faults g.W.Watch.name c.rebuilt_symbols_are_forced.ensures
    c.args.draws c.args.early c.args.most c.args.watch c.in-Ok.opened.header
    c.in-Ok.opened.codes.items
    (stream (g.S.Source.left c.args.input.now) (g.S.Source.faults c.args.input.now))
    (stream (g.S.Source.left c.open.new.input) (g.S.Source.faults c.open.new.input))
    (stream (g.S.Source.left c.take_packets.new.input)
    (g.S.Source.faults c.take_packets.new.input))
    (record { receiver = c.in-Ok-new.receiver; early = c.args.early }) c.take_packets.new.taker
    c.in-Ok.ensures.header c.in-Ok.ensures.bytes c.in-Ok.ensures.codes
    (subst (λ (n : ℕ). AreNew c.in-Ok.opened.codes.items n c.in-Ok-new.receiver.cores)
    c.symbol_len.ensures.value c.in-Ok-new.ensures.cores) c.in-Ok-new.ensures.watch refl c.in-Ok-take_packets.packets c.in-Ok-take_packets.ensures.packets).0

pub returns-in-Ok-take_packets-clause-name : goal.returns-in-Ok-take_packets-clause-name
returns-in-Ok-take_packets-clause-name g c =
    (file_received g.W.Watch.told g.W.Watch.faults g.W.Watch.name c.rebuilt_symbols_are_forced.ensures
    c.args.draws c.args.early c.args.most c.args.watch c.in-Ok.opened.header
    c.in-Ok.opened.codes.items
    (stream (g.S.Source.left c.args.input.now) (g.S.Source.faults c.args.input.now))
    (stream (g.S.Source.left c.open.new.input) (g.S.Source.faults c.open.new.input))
    (stream (g.S.Source.left c.take_packets.new.input)
    (g.S.Source.faults c.take_packets.new.input))
    (record { receiver = c.in-Ok-new.receiver; early = c.args.early }) c.take_packets.new.taker
    c.in-Ok.ensures.header c.in-Ok.ensures.bytes c.in-Ok.ensures.codes
    (subst (λ (n : ℕ). AreNew c.in-Ok.opened.codes.items n c.in-Ok-new.receiver.cores)
    c.symbol_len.ensures.value c.in-Ok-new.ensures.cores) c.in-Ok-new.ensures.watch refl c.in-Ok-take_packets.packets c.in-Ok-take_packets.ensures.packets).1

pub returns-clause-refusal : goal.returns-clause-refusal
returns-clause-refusal g c =
    let refused = (file_not_received g.W.Watch.told g.W.Watch.faults g.W.Watch.name c.rebuilt_symbols_are_forced.ensures
    c.args.draws c.args.early c.args.most c.args.watch c.in-Ok.opened.header
    c.in-Ok.opened.codes.items
    (stream (g.S.Source.left c.args.input.now) (g.S.Source.faults c.args.input.now))
    (stream (g.S.Source.left c.open.new.input) (g.S.Source.faults c.open.new.input))
    (stream (g.S.Source.left c.take_packets.new.input)
    (g.S.Source.faults c.take_packets.new.input))
    (record { receiver = c.in-Ok-new.receiver; early = c.args.early }) c.take_packets.new.taker
    c.in-Ok.ensures.header c.in-Ok.ensures.bytes c.in-Ok.ensures.codes
    (subst (λ (n : ℕ). AreNew c.in-Ok.opened.codes.items n c.in-Ok-new.receiver.cores)
    c.symbol_len.ensures.value c.in-Ok-new.ensures.cores) c.in-Ok-new.ensures.watch refl
    c.in-Ok.ensures.later c.in-Err-take_packets.refusal c.in-Err-take_packets.ensures.refusal).0 in
    subst (λ (w : g.row.W.Denot). RefusesDecode c.args.draws c.args.early c.args.most
    (stream (g.S.Source.left c.args.input.now) (g.S.Source.faults c.args.input.now))
    (stream (g.S.Source.left c.take_packets.new.input)
    (g.S.Source.faults c.take_packets.new.input))
    (hearing (g.W.Watch.told c.args.watch) (g.W.Watch.faults c.args.watch))
    (hearing (g.W.Watch.told w) (g.W.Watch.faults w)) c.cause_of.result)
    (sym c.close.ensures) (subst (RefusesDecode c.args.draws c.args.early c.args.most
    (stream (g.S.Source.left c.args.input.now) (g.S.Source.faults c.args.input.now))
    (stream (g.S.Source.left c.take_packets.new.input)
    (g.S.Source.faults c.take_packets.new.input))
    (hearing (g.W.Watch.told c.args.watch) (g.W.Watch.faults c.args.watch))
    (hearing (g.W.Watch.told c.take_packets.new.taker.receiver.watch)
    (g.W.Watch.faults c.take_packets.new.taker.receiver.watch))) (sym c.cause_of.ensures) refused)

pub returns-clause-name_back : goal.returns-clause-name_back
returns-clause-name_back g c = ap g.W.Watch.name c.close.ensures
    ∙ (file_not_received g.W.Watch.told g.W.Watch.faults g.W.Watch.name c.rebuilt_symbols_are_forced.ensures
    c.args.draws c.args.early c.args.most c.args.watch c.in-Ok.opened.header
    c.in-Ok.opened.codes.items
    (stream (g.S.Source.left c.args.input.now) (g.S.Source.faults c.args.input.now))
    (stream (g.S.Source.left c.open.new.input) (g.S.Source.faults c.open.new.input))
    (stream (g.S.Source.left c.take_packets.new.input)
    (g.S.Source.faults c.take_packets.new.input))
    (record { receiver = c.in-Ok-new.receiver; early = c.args.early }) c.take_packets.new.taker
    c.in-Ok.ensures.header c.in-Ok.ensures.bytes c.in-Ok.ensures.codes
    (subst (λ (n : ℕ). AreNew c.in-Ok.opened.codes.items n c.in-Ok-new.receiver.cores)
    c.symbol_len.ensures.value c.in-Ok-new.ensures.cores) c.in-Ok-new.ensures.watch refl
    c.in-Ok.ensures.later c.in-Err-take_packets.refusal c.in-Err-take_packets.ensures.refusal).1
