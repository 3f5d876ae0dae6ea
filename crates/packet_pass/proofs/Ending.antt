-- How a pass ends at a packet, and behind a list of packets.
use Rattle.std.proofs.Common.{◌≡◌, ◌<◌, ◌≤◌, ◌+◌, ℕ, List, [], ◌∷◌, ◌++◌, length, take}
use Rattle.std.proofs.Common.{sym, subst, ap, ◌∙◌, arith, append_assoc, append-nil, inl, inr}
use Rattle.std.proofs.lemmas.List.Elements.{All-nil, All-push}
use Rattle.std.specs.Io.KnownBytes.{Appends}
use Rattle.std.proofs.KnownBytes.{Appends-nil, Appends-trans}
use Rattle.fec_base.specs.Causes.{Rose}
use Rattle.fec_base.specs.Outside.{Stream}
use Rattle.packet_file.specs.Header.{HeaderFields}
use Rattle.packet_file.specs.Packets.{Packet}
use Rattle.packet_file.specs.OneReading.{Stop, stop_by}
use Rattle.packet_file.specs.OnePacket.{StopsBefore}
use Rattle.packet_file.specs.OneReading.Stop.{Enough}
use Rattle.packet_file.proofs.Readings.{reads_more, reads_none, reads_stop}
use Rattle.packet_file.specs.declared.fault.FileFault.TheVariants.{BadPadding}
use Rattle.packet_pass.specs.Pass.{IsFitFor, text_of, texts, texts_from}
use Rattle.packet_pass.specs.Writing.{EndsAtPacket, EndsEarly, PassesOne, PassesPackets}
use Rattle.packet_pass.specs.declared.kind.Pass.{Pass}
use Rattle.packet_pass.specs.declared.kind.PassRefusal.{PassRefusal}
use Rattle.packet_pass.specs.declared.kind.PassRefusal.TheVariants.{Memory, File, Output}

-- the texts of one packet more
texts_last : (pass : Pass) (h : HeaderFields) (first : ℕ) (packets : List Packet) (p : Packet)
    → texts_from pass h first (packets ++ p ∷ []) ≡ texts_from pass h first packets
    ++ text_of pass h (first + length packets) p
texts_last pass h first [] p =
    let place : first ≡ first + 0 = omega arith in
    append-nil (text_of pass h first p) ∙ ap (λ (n : ℕ). text_of pass h n p) place
texts_last pass h first (q ∷ packets) p =
    let place : first + 1 + length packets ≡ first + length (q ∷ packets) = omega arith in
    ap (λ l. text_of pass h first q ++ l) (texts_last pass h (first + 1) packets p
    ∙ ap (λ (n : ℕ). texts_from pass h (first + 1) packets ++ text_of pass h n p) place)
    ∙ sym (append_assoc (text_of pass h first q) (texts_from pass h (first + 1) packets)
    (text_of pass h (first + length (q ∷ packets)) p))

texts_more : (pass : Pass) (h : HeaderFields) (packets : List Packet) (p : Packet)
    → texts pass h (packets ++ p ∷ []) ≡ texts pass h packets ++ text_of pass h (length packets) p
texts_more pass h packets p =
    let place : 0 + length packets ≡ length packets = omega arith in
    texts_last pass h 0 packets p ∙ ap (λ (n : ℕ). texts pass h packets ++ text_of pass h n p) place

-- a count that rose after it hadn't fallen
pub rose_since : (before mid now : ℕ) → before ≤ mid → Rose mid now → Rose before now
rose_since before mid now later rose = omega (arith, later, rose)

-- nothing was passed yet
pub passes_none : (pass : Pass) (most : ℕ) (h : HeaderFields) (input output : Stream)
    → PassesPackets pass most h input input output output [] Enough
passes_none pass most h input output = record {
  reads = reads_none h most input;
  fit = All-nil (IsFitFor pass h);
  written = Appends-nil output.bytes;
}

module _ (pass : Pass) (most : ℕ) (h : HeaderFields) (input mid now output out_mid out_now : Stream)
    (packets : List Packet) (index : ℕ)
    (s : PassesPackets pass most h input mid output out_mid packets Enough)
    (counted : length packets ≡ index) where
  -- one packet more
  pub passes_more : (p : Packet) → PassesOne pass most h index mid now out_mid out_now p
      → PassesPackets pass most h input now output out_now (packets ++ p ∷ []) Enough
  passes_more p one =
      let text : List ℕ = text_of pass h (length packets) p in
      let written : Appends out_mid.bytes out_now.bytes text =
      subst (λ (n : ℕ). Appends out_mid.bytes out_now.bytes (text_of pass h n p)) (sym counted)
      one.written in
      record {
        reads = reads_more h most input mid now packets index p s.reads counted one.taken;
        fit = All-push (IsFitFor pass h) packets p s.fit one.fit;
        written = subst (Appends output.bytes out_now.bytes) (sym (texts_more pass h packets p))
            (Appends-trans output.bytes out_mid.bytes out_now.bytes (texts pass h packets) text
            s.written written);
      }

  module _ (later : input.faults ≤ mid.faults) where
    -- the reading stops, and the output stays
    pub passes_stop : (stop : Stop) → StopsBefore h most index mid now stop
        → out_now.bytes ≡ out_mid.bytes
        → PassesPackets pass most h input now output out_now packets stop
    passes_stop stop stops same = record {
      reads = reads_stop h most input mid now packets index stop s.reads counted later stops;
      fit = s.fit;
      written = subst (λ x. Appends output.bytes x (texts pass h packets)) (sym same) s.written;
    }

    -- the pass ended at the packet behind a list of packets
    pub ends_behind : output.faults ≤ out_mid.faults → (refusal : PassRefusal)
        → EndsAtPacket pass most h index mid now out_mid out_now refusal
        → EndsEarly pass most h input now output out_now refusal
    ends_behind sink_later Memory ends = absurd ends
    ends_behind sink_later (File fault) (same, inl stops) =
        inl (packets, passes_stop (stop_by fault) stops same)
    ends_behind sink_later (File fault) (same, inr (p, taken, unfit, is)) =
        inr (
          packets,
          p,
          reads_more h most input mid now packets index p s.reads counted taken,
          s.fit,
          unfit,
          is ∙ ap BadPadding (sym counted),
          subst (λ x. Appends output.bytes x (texts pass h packets)) (sym same) s.written,
        )
    ends_behind sink_later Output (p, taken, fit, (n, some_left, written), rose) =
        let cut : Appends out_mid.bytes out_now.bytes (take n (text_of pass h (length packets) p)) =
        subst (λ (i : ℕ). Appends out_mid.bytes out_now.bytes (take n (text_of pass h i p)))
        (sym counted) written in (
          packets,
          p,
          reads_more h most input mid now packets index p s.reads counted taken,
          All-push (IsFitFor pass h) packets p s.fit fit,
          (
            n,
            subst (λ (i : ℕ). n < length (text_of pass h i p)) (sym counted) some_left,
            Appends-trans output.bytes out_mid.bytes out_now.bytes (texts pass h packets)
                (take n (text_of pass h (length packets) p)) s.written cut,
            rose_since output.faults out_mid.faults out_now.faults sink_later rose,
          ),
        )
