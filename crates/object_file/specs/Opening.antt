-- Why a packet file isn't opened.
use Rattle.std.specs.Io.KnownBytes.{Consumes}
use Rattle.std.specs.Prelude.{Option, ℕ, ⊤}
use Rattle.fec_base.specs.Outside.{Stream}
use Rattle.packet_file.specs.Header.{HeaderFields, IsHeader, header_bytes}
use Rattle.packet_file.specs.OneReading.{LacksHeader, stop_by}
use Rattle.object_file.specs.Codes.{IsFirstOver}
use Rattle.tool_base.specs.declared.causes.Refusal.{Refusal}
use Rattle.tool_base.specs.declared.causes.Refusal.TheVariants.{Draws, File, Memory, Watch}

-- a file isn't opened: the input failed, its bytes are no header, or a block's matrix takes too
-- many draws
abbrev pub RefusesOpening : Option ℕ → Stream → Stream → Refusal → Type 0
RefusesOpening draws input input_now Memory = ⊤
RefusesOpening draws input input_now (File fault) = LacksHeader input input_now (stop_by fault)
RefusesOpening draws input input_now (Draws b) = (h : HeaderFields) × IsHeader h
    × Consumes input.bytes input_now.bytes (header_bytes h) × IsFirstOver h draws b
RefusesOpening draws input input_now Watch = ⊥
