-- What an `encode` does.
use Rattle.std.specs.Io.KnownBytes.{Consumes, IsAtEnd}
use Rattle.std.specs.Prelude.{List, Option, Some, length, ℕ, ⊤, ◌<◌, ◌≡◌, ◌⊎◌}
use Rattle.fec_base.specs.Causes.{Rose}
use Rattle.packet_file.specs.Header.{IsHeader, size_fault}
use Rattle.packet_file.specs.Taking.{TakesAtMost}
use Rattle.packet_file.specs.declared.fault.FileFault.{FileFault}
use Rattle.packet_file.specs.declared.fault.FileFault.TheVariants.{ReadFault, TooLarge}
use Rattle.packet_file.specs.declared.fault.Limit.TheVariants.{Length}
use Rattle.tool_base.specs.declared.status.Status.{Status}
use Rattle.object_file.specs.Codes.{IsFirstOver}
use Rattle.object_file.specs.File.{IsEncoding}
use Rattle.object_file.specs.Options.{header_for}
use Rattle.fec_base.specs.Outside.{Stream}
use Rattle.tool_base.specs.Outside.{Streams}
use Rattle.tool_base.specs.Refusals.{refusal_text}
use Rattle.tool_base.specs.Ending.{Due, EndsOrRefuses, IsPartOf}
use Rattle.object_file.specs.declared.options.EncodeOptions.{EncodeOptions}
use Rattle.tool_base.specs.declared.causes.Refusal.{Refusal}
use Rattle.tool_base.specs.declared.causes.Refusal.TheVariants.{Draws, File, Memory, Watch}
use Rattle.tool_base.specs.declared.status.Status.TheVariants as status
use Rattle.object_file.specs.Taken.{most_taken}

-- the input is longer than an object may be, or it was read to its end, and the sizes of its file
-- pass a limit: this is the fault
abbrev pub IsTooLarge : EncodeOptions → List ℕ → Option (List ℕ) → FileFault → Type 0
IsTooLarge o bytes left_now fault =
    ((fault ≡ TooLarge Length) × (268435456 < length bytes))
    ⊎ (IsAtEnd left_now × (size_fault (header_for o (length bytes)) ≡ Some fault))

-- the input was read to its end, and the sizes of its file pass no limit
pub record ReadsObject (o : EncodeOptions) (left left_now : Option (List ℕ)) (object : List ℕ) :
    Type 0 where
  pub read : Consumes left left_now object
  pub ended : IsAtEnd left_now
  pub header : IsHeader (header_for o (length object))

-- an `encode` refuses its input
abbrev pub RefusesEncode : EncodeOptions → Stream → Stream → Refusal → Type 0
RefusesEncode o input input_now Memory = ⊤
RefusesEncode o input input_now (File ReadFault) = Rose input.faults input_now.faults
RefusesEncode o input input_now (File fault) = (bytes : List ℕ)
    × Consumes input.bytes input_now.bytes bytes × IsTooLarge o bytes input_now.bytes fault
RefusesEncode o input input_now (Draws b) = (object : List ℕ)
    × ReadsObject o input.bytes input_now.bytes object
    × IsFirstOver (header_for o (length object)) o.shape.draws b
RefusesEncode o input input_now Watch = ⊥

-- the input was read to its end, and this is its packet file and the report
pub record Encoded (o : EncodeOptions) (input input_now : Stream) (file text : List ℕ) : Type 0
  where
    pub object : List ℕ
    pub reads : ReadsObject o input.bytes input_now.bytes object
    pub encoding : IsEncoding (header_for o (length object)) o.shape.draws object file text

-- what is due of an `encode`: its packet file; where memory lacked for the codeword of a block, a
-- part of it from its front on
abbrev pub EncodeDue : EncodeOptions → Stream → Stream → Due
EncodeDue o input input_now status.Done out text = Encoded o input input_now out text
EncodeDue o input input_now status.Memory out text = (file : List ℕ) × (report : List ℕ)
    × Encoded o input input_now file report × IsPartOf file out × (text ≡ refusal_text Memory)
EncodeDue o input input_now _ out text = ⊥

-- what an `encode` does
pub record IsEncodeRun (o : EncodeOptions) (before after : Streams) (ended : Status) : Type 0 where
  pub ends : EndsOrRefuses (EncodeDue o before.input after.input)
      (RefusesEncode o before.input after.input) before.output after.output before.report
      after.report ended
  -- what was taken is a front of the input, at most so much
  pub taken : TakesAtMost before.input.bytes after.input.bytes most_taken
