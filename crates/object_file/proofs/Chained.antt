-- Where a receiver stands, once packets were taken in one after the other.
use Rattle.std.proofs.Common.{Bool, List, None, Option, [], append-nil, append_assoc, arith}
use Rattle.std.proofs.Common.{All, inl, inr, length, length-append, subst, sym}
use Rattle.std.proofs.Common.{suc, true, ⊎_elim, ℕ, ◌+◌, ◌++◌, ◌<◌, ◌∙◌, ◌∷◌, ◌≡◌, ◌≤◌, ap}
use Rattle.std.specs.Io.KnownBytes.{Consumes}
use Rattle.std.proofs.lemmas.List.{get_or-append-add, take-append-le, take_all}
use Rattle.std.proofs.lemmas.List.Elements.{All-take}
use Rattle.fec_base.specs.Outside.{Stream, hearing}
use Rattle.fec_base.specs.Told.{Telling}
use Rattle.fec_session.specs.Forced.{RebuiltAreForced}
use Rattle.fec_session.specs.Session.{AreNew}
use Rattle.packet_file.specs.Header.{HeaderFields, IsHeader, header_bytes}
use Rattle.packet_file.specs.OneReading.{Reads, Stop, stop_by}
use Rattle.packet_file.specs.OneReading.Stop.{End, Enough}
use Rattle.packet_file.specs.Packets.{IsPacketOf, Packet, spelled}
use Rattle.packet_file.specs.declared.fault.FileFault.{FileFault}
use Rattle.packet_intake.specs.Intake.{Each, RefusesPackets, TakesAll, Wanting}
use Rattle.packet_intake.specs.declared.refusal.IntakeRefusal.{IntakeRefusal}
use Rattle.packet_intake.specs.declared.refusal.IntakeRefusal.TheVariants.{File, Taker}
use Rattle.sparse_rows.specs.Matrix.{Matrix}
use Rattle.object_file.specs.BuiltCodes.{AreBlockCodes}
use Rattle.object_file.specs.Receiving.{AreCores, IsReceived, TakesPacket, matrix_at}
use Rattle.object_file.specs.Reception.{FailsAtPackets, RefusesDecode}
use Rattle.object_file.specs.Takers.{FailsWithin, HasAll, TakesIn, refused_by}
use Rattle.object_file.specs.Told.{IsOver, IsWhole, Opens, StandsAt}
use Rattle.object_file.specs.declared.reception.Taking.{Taking}
use Rattle.tool_base.specs.declared.causes.Refusal.TheVariants as refusal
use Rattle.object_file.proofs.Cores.{all_are_whole, cores_more, new_codes, new_cores}
use Rattle.object_file.proofs.Cores.{whole_have_all}
use Rattle.object_file.proofs.Refusing.{behind_refused}
use Rattle.object_file.proofs.Standing.{stands_more, stands_none, stands_within}

module _ {W : Type 0} (told : W → Option (List Telling)) (faults name : W → ℕ)
    (forced : RebuiltAreForced) (h : HeaderFields) (code : ℕ → Matrix) (early : Bool) (most : ℕ)
    (watch : W) where
  abbrev takes : Taking W → ℕ → Packet → Taking W → Type 0
  takes old index p new = TakesIn told faults name old new p

  abbrev fails : Taking W → ℕ → Packet → Taking W → Type 0
  fails old index p new = FailsWithin told faults name old new p

  abbrev wants : Taking W → ℕ → Packet → Taking W → Type 0
  wants = Wanting HasAll takes

  -- where a receiver stands behind these packets, whatever the bytes of the input are
  pub record Stood (packets : List Packet) (taking : Taking W) : Type 0 where
    pub stands : StandsAt h code early most None None (told watch) (told taking.receiver.watch)
        packets []
    pub cores : AreCores h code packets taking.receiver.cores
    pub asked : taking.early ≡ early
    pub later : faults watch ≤ faults taking.receiver.watch
    pub name_is : name taking.receiver.watch ≡ name watch

  pub stood_none : (taking : Taking W) → taking.receiver.watch ≡ watch → taking.early ≡ early
      → AreCores h code [] taking.receiver.cores → Stood [] taking
  stood_none taking same asked cores = record {
    stands = subst (λ (w : W). StandsAt h code early most None None (told watch) (told w) [] [])
        (sym same) (stands_none h code early most None (told watch));
    cores = cores;
    asked = asked;
    later = subst (λ (w : W). faults watch ≤ faults w) (sym same) (let le : faults watch ≤ faults
        watch = omega arith in le);
    name_is = ap name same;
  }

  -- what it wants goes by what it knows
  pub wanted_is : (packets : List Packet) (taking : Taking W) → Stood packets taking
      → (¬ HasAll taking) → early ≡ true → ¬ IsWhole h code packets
  wanted_is packets taking stood free is whole = free (
    stood.asked ∙ is,
    whole_have_all h code packets taking.receiver.cores stood.cores whole,
  )

  packet_taken : (old new : Taking W) (p : Packet) → IsPacketOf h p
      → TakesIn told faults name old new p
      → TakesPacket None None h old.receiver.cores new.receiver.cores p
  packet_taken old new p of_file step =
      record { of_file = of_file; taken = tt; received = step.received }

  -- one packet more
  pub stood_more : (packets : List Packet) (old new : Taking W) (p : Packet) → Stood packets old
      → IsPacketOf h p → length packets < most → (¬ HasAll old)
      → TakesIn told faults name old new p → Stood (packets ++ p ∷ []) new
  stood_more packets old new p stood of_file few free step = record {
    stands = stands_more h code early most forced None None None (told watch)
        (told old.receiver.watch) (told new.receiver.watch) packets old.receiver.cores
        new.receiver.cores p stood.stands stood.cores few (wanted_is packets old stood free)
        (packet_taken old new p of_file step) step.grown;
    cores = cores_more None None h code packets old.receiver.cores new.receiver.cores p stood.cores
        (packet_taken old new p of_file step);
    asked = step.early_is ∙ stood.asked;
    later = omega (arith, step.later, stood.later);
    name_is = step.name_is ∙ stood.name_is;
  }

  -- and so all of them
  pub stood_all : (before packets : List Packet) (first : ℕ) (old new : Taking W)
      → Stood before old → All (IsPacketOf h) packets → length before + length packets ≤ most
      → Each wants old first packets new → Stood (before ++ packets) new
  stood_all before [] first old new stood each few same =
      subst (λ (l : List Packet). Stood l new) (sym (append-nil before))
      (subst (λ (t : Taking W). Stood before t) (sym same) stood)
  stood_all before (p ∷ packets) first old new stood each few (mid, (free, step), rest) =
      subst (λ (l : List Packet). Stood l new) (append_assoc before (p ∷ []) packets)
      (stood_all (before ++ p ∷ []) packets (first + 1) mid new
      (stood_more before old mid p stood (each 0 p (omega arith)) (omega (arith, few)) free step)
      (λ i d lt. each (suc i) d (omega (arith, lt)))
      (omega (arith, few, length-append before (p ∷ []))) rest)

  -- the packets were taken
  module _ (input now : Stream) (start : Taking W) (begun : Stood [] start) (end : Taking W)
      (packets : List Packet) (stop : Stop) (read : Reads h [] most input now packets stop)
      (each : Each wants start 0 packets end) where
    pub stood_read : Stood packets end
    stood_read = stood_all [] packets 0 start end begun read.each (omega (arith, read.few)) each

    pub stands_read : StandsAt h code early most input.bytes now.bytes (told watch)
        (told end.receiver.watch) packets read.piece
    stands_read = record {
      packets_are = stood_read.stands.packets_are;
      taken = read.taken;
      told_of = stood_read.stands.told_of;
    }

  module _ (input now : Stream) (start : Taking W) (begun : Stood [] start) (end : Taking W) where
    -- to the last
    pub received : (packets : List Packet)
        → TakesAll HasAll takes h most input now start end packets
        → StandsAt h code early most input.bytes now.bytes (told watch) (told end.receiver.watch)
        packets [] × IsOver early now.bytes h code packets × Stood packets end
    received packets all = ⊎_elim
        (λ (ended : (¬ HasAll end) × Reads h [] most input now packets End).
        let (free, read) = ended in (
          subst (StandsAt h code early most input.bytes now.bytes (told watch)
              (told end.receiver.watch) packets) read.stopped.0
              (stands_read input now start begun end packets End read all.each),
          inl read.stopped.1,
          stood_read input now start begun end packets End read all.each,
        ))
        (λ (enough : HasAll end × Reads h [] most input now packets Enough).
        let (has, read) = enough in
        let stood = stood_read input now start begun end packets Enough read all.each in (
          subst (StandsAt h code early most input.bytes now.bytes (told watch)
              (told end.receiver.watch) packets) read.stopped
              (stands_read input now start begun end packets Enough read all.each),
          inr (
            sym stood.asked ∙ has.0,
            all_are_whole h code packets end.receiver.cores stood.cores has.1,
          ),
          stood,
        ))
        all.over

    -- or they are refused by the input
    file_refused : (fault : FileFault)
        → RefusesPackets HasAll takes fails h most input now start end (File fault)
        → FailsAtPackets h code early most input now (hearing (told watch) (faults watch))
        (hearing (told end.receiver.watch) (faults end.receiver.watch)) (refusal.File fault)
        × (name end.receiver.watch ≡ name watch)
    file_refused fault (packets, read, each, free) =
        let stood = stood_read input now start begun end packets (stop_by fault) read each in (
          (
            packets,
            read.piece,
            stands_read input now start begun end packets (stop_by fault) read each,
            wanted_is packets end stood free,
            read.stopped,
          ),
          stood.name_is,
        )

    -- or by the watch
    watch_refused : RefusesPackets HasAll takes fails h most input now start end Taker
        → FailsAtPackets h code early most input now (hearing (told watch) (faults watch))
        (hearing (told end.receiver.watch) (faults end.receiver.watch)) refusal.Watch
        × (name end.receiver.watch ≡ name watch)
    watch_refused (before, last, mid, read, each, free, failed) =
        let all : List Packet = before ++ last ∷ [] in
        let few : length before < most =
        omega (arith, read.few, length-append before (last ∷ [])) in
        let own : IsPacketOf h last = subst (IsPacketOf h)
        (get_or-append-add before (last ∷ []) 0 last)
        (read.each (length before + 0) last (omega (arith, length-append before (last ∷ [])))) in
        let others : All (IsPacketOf h) before = subst (All (IsPacketOf h))
        (take-append-le (length before) before (last ∷ []) (omega arith)
        ∙ take_all (length before) before (omega arith))
        (All-take (IsPacketOf h) (length before) all read.each) in
        let stood = stood_all [] before 0 start mid begun others (omega (arith, few)) each in
        let taken : TakesPacket None None h mid.receiver.cores end.receiver.cores last =
        record { of_file = own; taken = tt; received = failed.received } in
        let within = stands_within h code early most forced None None None (told watch)
        (told mid.receiver.watch) (told end.receiver.watch) before mid.receiver.cores
        end.receiver.cores last stood.stands stood.cores few (wanted_is before mid stood free)
        taken failed.count failed.front in
        let bytes : Consumes input.bytes now.bytes (spelled h all ++ []) = subst
        (λ (l : List ℕ). Consumes input.bytes now.bytes (spelled h all ++ l)) read.stopped
        read.taken in (
          (
            omega (arith, failed.rose, stood.later),
            before,
            last,
            failed.count,
            record {
              packets_are = within.packets_are;
              taken = subst (Consumes input.bytes now.bytes) (append-nil (spelled h all)) bytes;
              part = within.part;
              told_of = within.told_of;
            },
          ),
          failed.name_is ∙ stood.name_is,
        )

    -- or by either
    pub packets_refused : (cause : IntakeRefusal)
        → RefusesPackets HasAll takes fails h most input now start end cause
        → FailsAtPackets h code early most input now (hearing (told watch) (faults watch))
        (hearing (told end.receiver.watch) (faults end.receiver.watch)) (refused_by cause)
        × (name end.receiver.watch ≡ name watch)
    packets_refused (File fault) = file_refused fault
    packets_refused Taker = watch_refused

-- packets that are taken in behind a header that was read
module _ {W : Type 0} (told : W → Option (List Telling)) (faults name : W → ℕ)
    (forced : RebuiltAreForced) (draws : Option ℕ) (early : Bool) (most : ℕ) (watch : W)
    (h : HeaderFields) (codes : List Matrix) (input mid now : Stream) (start end : Taking W)
    (header : IsHeader h) (opened : Consumes input.bytes mid.bytes (header_bytes h))
    (built : AreBlockCodes h draws codes)
    (new : AreNew codes h.oti.symbol start.receiver.cores) (same : start.receiver.watch ≡ watch)
    (asked : start.early ≡ early) where
  abbrev code : ℕ → Matrix
  code = matrix_at start.receiver.cores

  abbrev takes_one : Taking W → ℕ → Packet → Taking W → Type 0
  takes_one old index p new = TakesIn told faults name old new p

  abbrev fails_one : Taking W → ℕ → Packet → Taking W → Type 0
  fails_one old index p new = FailsWithin told faults name old new p

  opens : Opens draws input.bytes mid.bytes h code
  opens = record {
    header = header;
    codes = new_codes h draws codes start.receiver.cores built new;
    taken = opened;
  }

  begun : Stood told faults name forced h code early most watch [] start
  begun = stood_none told faults name forced h code early most watch start same asked
      (new_cores h draws codes start.receiver.cores built new)

  -- are received
  pub file_received : (count : ℕ) → (packets : List Packet)
      × TakesAll HasAll takes_one h most mid now start end packets × (length packets ≡ count)
      → IsReceived draws early most input.bytes now.bytes (told watch) (told end.receiver.watch) h
      end.receiver.cores count × (name end.receiver.watch ≡ name watch)
  file_received count (packets, all, counted) =
      let (stands, over, stood) =
      received told faults name forced h code early most watch mid now start begun end packets all
      in (
        record {
          code = code;
          packets = packets;
          mid = mid.bytes;
          opens = opens;
          stands = stands;
          over = over;
          cores = stood.cores;
          counted = sym counted;
        },
        stood.name_is,
      )

  -- or refused
  pub file_not_received : input.faults ≤ mid.faults → (cause : IntakeRefusal)
      → RefusesPackets HasAll takes_one fails_one h most mid now start end cause
      → RefusesDecode draws early most input now (hearing (told watch) (faults watch))
      (hearing (told end.receiver.watch) (faults end.receiver.watch)) (refused_by cause)
      × (name end.receiver.watch ≡ name watch)
  file_not_received later cause refuses =
      let (fails, named) = packets_refused told faults name forced h code early most watch mid now
      start begun end cause refuses in (
        behind_refused draws early most input now (hearing (told watch) (faults watch)) mid.bytes
            (hearing (told end.receiver.watch) (faults end.receiver.watch)) mid.faults h code opens
            later (refused_by cause) fails,
        named,
      )
