-- How a pass ends in the header, and behind it.
use Rattle.std.proofs.Common.{◌≡◌, ◌≤◌, ◌++◌, inl, inr, ℕ, List, [], ◌∷◌, length, take, ap, ◌∙◌}
use Rattle.std.proofs.Common.{refl}
use Rattle.std.specs.Io.KnownBytes.{Appends, Consumes}
use Rattle.std.proofs.KnownBytes.{Appends-nil, Appends-trans}
use Rattle.fec_base.specs.Bytes.{AppendsFront}
use Rattle.fec_base.specs.Causes.{Rose}
use Rattle.fec_base.specs.Outside.{Stream}
use Rattle.packet_file.specs.Header.{HeaderFields, IsHeader, header_bytes}
use Rattle.packet_file.specs.Packets.{Packet}
use Rattle.packet_file.specs.OneReading.{Reads, ReadsFile, Stop, stop_by}
use Rattle.packet_file.specs.OneReading.Stop.{Enough}
use Rattle.packet_file.proofs.Readings.{reads_behind, reads_none}
use Rattle.loss_patterns.specs.declared.kind.LossKind.{LossKind}
use Rattle.packet_pass.specs.Thinned.{kept_of}
use Rattle.packet_pass.specs.Pass.{head_of, loss_in, seed_in, text_of, texts}
use Rattle.packet_pass.specs.Writing.{EndsEarly, PassesPackets}
use Rattle.packet_pass.specs.Written.{WritesEarly}
use Rattle.packet_pass.specs.declared.kind.Pass.{Pass}
use Rattle.packet_pass.specs.declared.kind.PassRefusal.{PassRefusal}
use Rattle.packet_pass.specs.declared.kind.PassRefusal.TheVariants.{Memory, File, Output}
use Rattle.packet_pass.proofs.Ending.{rose_since}

-- what is read behind a header is read of the file
pub file_read : (most : ℕ) (h : HeaderFields) (input mid now : Stream) (packets : List Packet)
    (stop : Stop) → IsHeader h → Consumes input.bytes mid.bytes (header_bytes h)
    → input.faults ≤ mid.faults → Reads h [] most mid now packets stop
    → ReadsFile most input now h packets stop
file_read most h input mid now packets stop header taken later r = record {
  header = header;
  reads = reads_behind h most (header_bytes h) input mid now packets stop taken later r;
}

-- a header was read, and nothing behind it
pub header_read : (most : ℕ) (h : HeaderFields) (input mid : Stream) → IsHeader h
    → Consumes input.bytes mid.bytes (header_bytes h) → input.faults ≤ mid.faults
    → ReadsFile most input mid h [] Enough
header_read most h input mid header taken later =
    file_read most h input mid mid [] Enough header taken later (reads_none h most mid)

-- memory lacks where nothing was written
pub ends_unwritten : (pass : Pass) (most : ℕ) (h : HeaderFields) (input mid output : Stream)
    → IsHeader h → Consumes input.bytes mid.bytes (header_bytes h) → input.faults ≤ mid.faults
    → WritesEarly pass most input mid output output Memory
ends_unwritten pass most h input mid output header taken later = (
  [],
  Appends-nil output.bytes,
  (refl, (h, header_read most h input mid header taken later)),
  λ is. absurd (cc is),
)

-- the output failed within the text of the header
pub ends_in_head : (pass : Pass) (most : ℕ) (h : HeaderFields) (input mid output out_now : Stream)
    → IsHeader h → Consumes input.bytes mid.bytes (header_bytes h) → input.faults ≤ mid.faults
    → AppendsFront output.bytes out_now.bytes (head_of pass h)
    → Rose output.faults out_now.faults
    → WritesEarly pass most input mid output out_now Output
ends_in_head pass most h input mid output out_now header taken later (n, short, written) rose = (
  take n (head_of pass h),
  written,
  (h, inl (header_read most h input mid header taken later, (n, short, refl))),
  λ is. rose,
)

-- what happens behind a header happens to the file
module _ (pass : Pass) (most : ℕ) (h : HeaderFields) (input mid now output out_mid out_now : Stream)
    (header : IsHeader h) (taken : Consumes input.bytes mid.bytes (header_bytes h))
    (written : Appends output.bytes out_mid.bytes (head_of pass h))
    (later : input.faults ≤ mid.faults) (sink_later : output.faults ≤ out_mid.faults) where
  pub written_behind : (packets : List Packet) (stop : Stop)
      → PassesPackets pass most h mid now out_mid out_now packets stop
      → Appends output.bytes out_now.bytes (head_of pass h ++ texts pass h packets)
  written_behind packets stop s = Appends-trans output.bytes out_mid.bytes out_now.bytes
      (head_of pass h) (texts pass h packets) written s.written

  pub read_behind : (packets : List Packet) (stop : Stop)
      → PassesPackets pass most h mid now out_mid out_now packets stop
      → ReadsFile most input now h packets stop
  read_behind packets stop s = file_read most h input mid now packets stop header taken later
      s.reads

  pub ends_early : (refusal : PassRefusal)
      → EndsEarly pass most h mid now out_mid out_now refusal
      → WritesEarly pass most input now output out_now refusal
  ends_early Memory ends = absurd ends
  ends_early (File fault) (inl (packets, s)) = (
    head_of pass h ++ texts pass h packets,
    written_behind packets (stop_by fault) s,
    inr (inl (h, packets, read_behind packets (stop_by fault) s, s.fit, refl)),
    λ is. absurd (cc is),
  )
  ends_early (File fault) (inr (before, last, read, fit, unfit, is, behind)) = (
    head_of pass h ++ texts pass h before,
    Appends-trans output.bytes out_mid.bytes out_now.bytes (head_of pass h) (texts pass h before)
        written behind,
    inr (inr (
      h,
      before,
      last,
      file_read most h input mid now (before ++ last ∷ []) Enough header taken later read,
      fit,
      unfit,
      is,
      refl,
    )),
    λ same. absurd (cc same),
  )
  ends_early Output (before, last, read, fit, (n, some_left, cut, rose)) =
      let behind : List ℕ = texts pass h before ++ take n (text_of pass h (length before) last) in (
        head_of pass h ++ behind,
        Appends-trans output.bytes out_mid.bytes out_now.bytes (head_of pass h) behind written cut,
        (
          h,
          inr (
            before,
            last,
            file_read most h input mid now (before ++ last ∷ []) Enough header taken later read,
            fit,
            (n, some_left, refl),
          ),
        ),
        λ is. rose_since output.faults out_mid.faults out_now.faults sink_later rose,
      )

-- the kept packets of a pass are those that its writer kept
pub kept_by : (pass p : Pass) (kind : LossKind) (seed done count result : ℕ)
    → result ≡ kept_of kind seed done → kind ≡ loss_in p → seed ≡ seed_in p → done ≡ count
    → p ≡ pass
    → result ≡ kept_of (loss_in pass) (seed_in pass) count
kept_by pass p kind seed done count result is kind_is seed_is done_is pass_is =
    is ∙ (ap (λ k. kept_of k seed done) kind_is
    ∙ (ap (λ (s : ℕ). kept_of (loss_in p) s done) seed_is
    ∙ (ap (kept_of (loss_in p) (seed_in p)) done_is
    ∙ ap (λ q. kept_of (loss_in q) (seed_in q) count) pass_is)))
