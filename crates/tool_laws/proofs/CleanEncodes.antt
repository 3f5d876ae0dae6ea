-- What an `encode` comes to where nothing outside fails.
use Rattle.std.proofs.Common.{◌≡◌, inl, inr, ⊎_elim, ℕ, ◌<◌, List, length, Option, Some}
use Rattle.std.proofs.Common.{refl, ap, subst, arith, length-append}
use Rattle.std.specs.Io.KnownBytes.{Appends, Consumes, IsAtEnd}
use Rattle.sparse_rows.specs.Matrix.{Matrix}
use Rattle.packet_file.specs.Header.{IsHeader, size_fault}
use Rattle.packet_file.specs.declared.fault.FileFault.{FileFault}
use Rattle.packet_file.specs.declared.fault.FileFault.TheVariants.{ShortHeader, BadMagic}
use Rattle.packet_file.specs.declared.fault.FileFault.TheVariants.{BadVersion, BadCodec}
use Rattle.packet_file.specs.declared.fault.FileFault.TheVariants.{BadReserved, Field, ShortPacket}
use Rattle.packet_file.specs.declared.fault.FileFault.TheVariants.{NoSuchBlock, NoSuchSymbol}
use Rattle.packet_file.specs.declared.fault.FileFault.TheVariants.{BadLength, BadPadding}
use Rattle.packet_file.specs.declared.fault.FileFault.TheVariants.{TooLarge, TooManyBlocks}
use Rattle.packet_file.specs.declared.fault.FileFault.TheVariants.{TooManyPackets, ReadFault}
use Rattle.packet_file.specs.declared.fault.Limit.TheVariants.{Length}
use Rattle.packet_file.proofs.Limits.{within_limits}
use Rattle.tool_base.specs.declared.status.Status.{Status}
use Rattle.tool_base.specs.declared.status.Status.TheVariants as status
use Rattle.object_file.specs.Codes.{IsFirstOver}
use Rattle.object_file.specs.Options.{header_for}
use Rattle.tool_base.specs.Outside.{Streams}
use Rattle.object_file.specs.Told.{HasCodes}
use Rattle.fec_base.specs.Outside.{Stream}
use Rattle.tool_commands.specs.EncodeRun.{EncodeDue, Encoded, IsEncodeRun, IsTooLarge}
use Rattle.tool_commands.specs.EncodeRun.{RefusesEncode}
use Rattle.tool_laws.specs.RunLaws.{NothingFails, OrMemory}
use Rattle.object_file.specs.declared.options.EncodeOptions.{EncodeOptions}
use Rattle.tool_base.specs.declared.causes.Refusal.{Refusal}
use Rattle.tool_base.specs.declared.causes.Refusal.TheVariants.{Draws, File, Memory, Watch}
use Rattle.tool_laws.proofs.OneDecoding.{taken_all, taken_of}
use Rattle.tool_laws.proofs.Uncut.{due_or_memory}

-- what is due is the packet file, or memory lacked
file_due : (o : EncodeOptions) (input now : Stream) (ended : Status) (out text : List ℕ)
    → EncodeDue o input now ended out text
    → OrMemory ended ((ended ≡ status.Done) × Encoded o input now out text)
file_due o input now status.Done out text e = inr (refl, e)
file_due o input now status.Memory out text due = inl refl
file_due o input now status.Usage out text due = absurd due
file_due o input now status.ReadFault out text due = absurd due
file_due o input now status.WriteFault out text due = absurd due
file_due o input now status.Malformed out text due = absurd due
file_due o input now status.Draws out text due = absurd due
file_due o input now status.Limit out text due = absurd due
file_due o input now status.Undetermined out text due = absurd due
file_due o input now status.NoCodeword out text due = absurd due
file_due o input now status.WatchFault out text due = absurd due

module _ (o : EncodeOptions) (object : List ℕ) (code : ℕ → Matrix) (before after : Streams)
    (header : IsHeader (header_for o (length object)))
    (codes : HasCodes (header_for o (length object)) o.shape.draws code) (known : before.input.bytes
    ≡ Some object) (clean : NothingFails before after) where
  taken_known : (bytes : List ℕ) → Consumes before.input.bytes after.input.bytes bytes
      → Consumes (Some object) after.input.bytes bytes
  taken_known bytes taken = subst (λ (l : Option (List ℕ)). Consumes l after.input.bytes bytes)
      known taken

  -- the object is within the limits
  not_large : (bytes : List ℕ) (fault : FileFault) → Consumes before.input.bytes after.input.bytes
      bytes → IsTooLarge o bytes after.input.bytes fault → ⊥
  not_large bytes fault taken large =
      let (rest, now, is) = taken_of object after.input.bytes bytes (taken_known bytes taken) in
      ⊎_elim
      (λ (long : (fault ≡ TooLarge Length) × (268435456 < length bytes)).
      absurd (omega (
        arith,
        long.1,
        ap length is,
        length-append bytes rest,
        (within_limits (header_for o (length object)) header.sizes).transfer_length,
      )))
      (λ (sized : IsAtEnd after.input.bytes
      × (size_fault (header_for o (length bytes)) ≡ Some fault)).
      let all : bytes ≡ object = taken_all object bytes after.input.bytes (taken_known bytes taken)
      sized.0 in
      absurd (cc (
        sized.1,
        ap (λ (l : List ℕ). size_fault (header_for o (length l))) all,
        header.sizes,
      )))
      large

  file_refused : (fault : FileFault) → RefusesEncode o before.input after.input (File fault) → ⊥
  file_refused ReadFault rose = clean.reads rose
  file_refused (ShortHeader have) (bytes, taken, large) = not_large bytes (ShortHeader have) taken
      large
  file_refused BadMagic (bytes, taken, large) = not_large bytes BadMagic taken large
  file_refused (BadVersion version) (bytes, taken, large) = not_large bytes (BadVersion version)
      taken large
  file_refused (BadCodec number) (bytes, taken, large) = not_large bytes (BadCodec number) taken
      large
  file_refused BadReserved (bytes, taken, large) = not_large bytes BadReserved taken large
  file_refused (Field field) (bytes, taken, large) = not_large bytes (Field field) taken large
  file_refused (ShortPacket index have) (bytes, taken, large) =
      not_large bytes (ShortPacket index have) taken large
  file_refused (NoSuchBlock index sbn) (bytes, taken, large) =
      not_large bytes (NoSuchBlock index sbn) taken large
  file_refused (NoSuchSymbol index esi) (bytes, taken, large) =
      not_large bytes (NoSuchSymbol index esi) taken large
  file_refused (BadLength index len) (bytes, taken, large) =
      not_large bytes (BadLength index len) taken large
  file_refused (BadPadding index) (bytes, taken, large) =
      not_large bytes (BadPadding index) taken large
  file_refused (TooLarge limit) (bytes, taken, large) = not_large bytes (TooLarge limit) taken large
  file_refused TooManyBlocks (bytes, taken, large) = not_large bytes TooManyBlocks taken large
  file_refused TooManyPackets (bytes, taken, large) = not_large bytes TooManyPackets taken large

  not_refused : (refusal : Refusal) → RefusesEncode o before.input after.input refusal
      → refusal ≡ Memory
  not_refused Memory refuses = refl
  not_refused (File fault) refuses = absurd (file_refused fault refuses)
  not_refused (Draws b) (bytes, reads, over) =
      let all : bytes ≡ object = taken_all object bytes after.input.bytes
      (taken_known bytes reads.read) reads.ended in
      let first : IsFirstOver (header_for o (length object)) o.shape.draws b =
      subst (λ (l : List ℕ). IsFirstOver (header_for o (length l)) o.shape.draws b) all over in
      absurd (cc (first.over, codes b first.block))
  not_refused Watch refuses = absurd refuses

  -- so its file is written
  pub encoded : (ended : Status) → IsEncodeRun o before after ended
      → OrMemory ended ((ended ≡ status.Done) × (file : List ℕ) × (text : List ℕ)
      × (e : Encoded o before.input after.input file text) × (e.object ≡ object)
      × Appends before.output.bytes after.output.bytes file
      × Appends before.report.bytes after.report.bytes text)
  encoded ended run = ⊎_elim
      (λ (memory : ended ≡ status.Memory). inl memory)
      (λ stands. let (out, text, due, written, told) = stands in ⊎_elim
      (λ (memory : ended ≡ status.Memory). inl memory)
      (λ file. let (done, e) = file in inr (
        done,
        out,
        text,
        e,
        taken_all object e.object after.input.bytes (taken_known e.object e.reads.read)
            e.reads.ended,
        written,
        told,
      ))
      (file_due o before.input after.input ended out text due))
      (due_or_memory before.output after.output before.report after.report clean.writes
      clean.reports ended (EncodeDue o before.input after.input)
      (RefusesEncode o before.input after.input) not_refused run.ends)
