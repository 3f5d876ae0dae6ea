use Rattle.std.proofs.Common.{[], subst, sym, ℕ, ⊎_elim, List}
use Rattle.fec_base.specs.Outside.{stream}
use Rattle.fec_session.specs.Session.{AreNew}
use Rattle.packet_file.specs.OneReading.{Reads}
use Rattle.packet_file.specs.OneReading.Stop.{End}
use Rattle.packet_intake.specs.Intake.{RefusesPackets}
use Rattle.peeling.specs.Decoder.{Decoder}
use Rattle.object_file.specs.Receiving.{matrix_at}
use Rattle.object_file.proofs.Cores.{new_codes, new_cores}
use Rattle.block_cores.proofs.Chained.{all_taken, takes}
use Rattle.block_cores.proofs.Refused.{file_read, packets_refused}
use Rattle.block_cores.proofs.taking.take_file.Goals as goal

pub take_packets-requires-clause-fits : goal.take_packets-requires-clause-fits
take_packets-requires-clause-fits g c =
    let h = c.in_ok-opened.opened.header in
    let codes = c.in_ok-opened.opened.codes.items in
    let cores = c.in_ok-cores.cores in (
      matrix_at cores,
      [],
      new_cores h c.args.draws codes cores c.in_ok-opened.ensures.codes
          (subst (λ (n : ℕ). AreNew codes n cores) c.symbol_len.ensures.value
          c.in_ok-cores.ensures),
    )

pub returns-in-Ok-clause-taken : goal.returns-in-Ok-clause-taken
returns-in-Ok-clause-taken g c =
    let left = g.S.Source.left in
    let faults = g.S.Source.faults in
    let before = stream (left c.args.input.now) (faults c.args.input.now) in
    let mid = stream (left c.open.new.input) (faults c.open.new.input) in
    let after = stream (left c.take_packets.new.input) (faults c.take_packets.new.input) in
    let h = c.in_ok-opened.opened.header in
    let codes = c.in_ok-opened.opened.codes.items in
    let cores = c.in_ok-cores.cores in
    let new = subst (λ (n : ℕ). AreNew codes n cores) c.symbol_len.ensures.value
    c.in_ok-cores.ensures in
    let (packets, all, counted) = c.in-Ok.ensures.packets in
    let read : Reads h [] c.args.most mid after packets End =
    ⊎_elim {C = Reads h [] c.args.most mid after packets End} (λ over. over.1) (λ over. absurd over.0) all.over in
    record {
      code = matrix_at cores;
      packets = packets;
      file = file_read c.args.draws c.args.most before mid after h (matrix_at cores)
          c.in_ok-opened.ensures.header
          (new_codes h c.args.draws codes cores c.in_ok-opened.ensures.codes new)
          c.in_ok-opened.ensures.bytes c.in_ok-opened.ensures.later packets End read;
      cores = all_taken h (matrix_at cores) [] packets 0 cores c.take_packets.new.taker
          (new_cores h c.args.draws codes cores c.in_ok-opened.ensures.codes new) read.each
          all.each;
      counted = sym counted;
    }

pub returns-clause-refusal : goal.returns-clause-refusal
returns-clause-refusal g c =
    let left = g.S.Source.left in
    let faults = g.S.Source.faults in
    let before = stream (left c.args.input.now) (faults c.args.input.now) in
    let mid = stream (left c.open.new.input) (faults c.open.new.input) in
    let after = stream (left c.take_packets.new.input) (faults c.take_packets.new.input) in
    let h = c.in_ok-opened.opened.header in
    let codes = c.in_ok-opened.opened.codes.items in
    let cores = c.in_ok-cores.cores in
    let new = subst (λ (n : ℕ). AreNew codes n cores) c.symbol_len.ensures.value
    c.in_ok-cores.ensures in
    packets_refused c.args.draws c.args.most before mid after h (matrix_at cores)
    c.in_ok-opened.ensures.header
    (new_codes h c.args.draws codes cores c.in_ok-opened.ensures.codes new)
    c.in_ok-opened.ensures.bytes c.in_ok-opened.ensures.later (λ (_ : List Decoder). ⊥) takes cores
    c.take_packets.new.taker c.fault_of.result
    (subst (RefusesPackets (λ (_ : List Decoder). ⊥) takes (λ _ _ _ _. ⊥) h c.args.most mid after
    cores c.take_packets.new.taker) c.fault_of.ensures c.in-Err.ensures.refusal)
