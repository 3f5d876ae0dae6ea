-- The statuses and the texts of refusals.
use Rattle.std.specs.Fmt.{decimal}
use Rattle.std.specs.Prelude.{List, codes, ℕ, ◌++◌}
use Rattle.oti_fields.specs.Faults.{fault_number}
use Rattle.packet_file.specs.declared.fault.FileFault.{FileFault}
use Rattle.packet_file.specs.declared.fault.FileFault.TheVariants.{BadCodec, BadLength, BadMagic}
use Rattle.packet_file.specs.declared.fault.FileFault.TheVariants.{BadPadding, BadReserved}
use Rattle.packet_file.specs.declared.fault.FileFault.TheVariants.{BadVersion, Field, NoSuchBlock}
use Rattle.packet_file.specs.declared.fault.FileFault.TheVariants.{NoSuchSymbol, ReadFault}
use Rattle.packet_file.specs.declared.fault.FileFault.TheVariants.{ShortHeader, ShortPacket}
use Rattle.packet_file.specs.declared.fault.FileFault.TheVariants.{TooLarge, TooManyBlocks}
use Rattle.packet_file.specs.declared.fault.FileFault.TheVariants.{TooManyPackets}
use Rattle.packet_file.specs.declared.fault.Limit.{Limit}
use Rattle.packet_file.specs.declared.fault.Limit.TheVariants.{AllBytes, AllSymbols, BlockBytes}
use Rattle.packet_file.specs.declared.fault.Limit.TheVariants.{Length}
use Rattle.tool_base.specs.declared.status.Status.{Status}
use Rattle.tool_base.specs.declared.causes.Refusal.{Refusal}
use Rattle.tool_base.specs.declared.causes.Refusal.TheVariants.{Draws, File, Memory, Watch}
use Rattle.tool_base.specs.declared.status.Status.TheVariants as status

-- the status of a fault of a file
abbrev pub fault_status : FileFault → Status
fault_status ReadFault = status.ReadFault
fault_status (TooLarge limit) = status.Limit
fault_status TooManyBlocks = status.Limit
fault_status TooManyPackets = status.Limit
fault_status _ = status.Malformed

-- what is reported of a limit
abbrev pub limit_text : Limit → List ℕ
limit_text Length = codes "fault: limit length\n"
limit_text BlockBytes = codes "fault: limit block-bytes\n"
limit_text AllSymbols = codes "fault: limit symbols\n"
limit_text AllBytes = codes "fault: limit bytes\n"

-- a line with a number at its end
abbrev pub numbered : List ℕ → ℕ → List ℕ
numbered text number = text ++ decimal number ++ codes "\n"

-- what is reported of packet number `index`
abbrev pub packet_text : ℕ → List ℕ → ℕ → List ℕ
packet_text index what number = codes "fault: packet " ++ decimal index ++ numbered what number

-- what is reported of packet number `index`, whose padding isn't zero
abbrev pub padding_text : ℕ → List ℕ
padding_text index = codes "fault: packet " ++ decimal index ++ codes " padding\n"

-- what is reported of a fault of a file
abbrev pub file_fault_text : FileFault → List ℕ
file_fault_text (ShortHeader have) = numbered (codes "fault: header short ") have
file_fault_text BadMagic = codes "fault: header magic\n"
file_fault_text (BadVersion version) = numbered (codes "fault: header version ") version
file_fault_text (BadCodec number) = numbered (codes "fault: header codec ") number
file_fault_text BadReserved = codes "fault: header reserved\n"
file_fault_text (Field fault) = numbered (codes "fault: header field ") (fault_number fault)
file_fault_text (ShortPacket index have) = packet_text index (codes " short ") have
file_fault_text (NoSuchBlock index sbn) = packet_text index (codes " block ") sbn
file_fault_text (NoSuchSymbol index esi) = packet_text index (codes " symbol ") esi
file_fault_text (BadLength index len) = packet_text index (codes " length ") len
file_fault_text (BadPadding index) = padding_text index
file_fault_text (TooLarge limit) = limit_text limit
file_fault_text TooManyBlocks = codes "fault: limit blocks\n"
file_fault_text TooManyPackets = codes "fault: limit packets\n"
file_fault_text ReadFault = codes "fault: read\n"

-- the status of a refusal
abbrev pub refusal_status : Refusal → Status
refusal_status Memory = status.Memory
refusal_status (File fault) = fault_status fault
refusal_status (Draws b) = status.Draws
refusal_status Watch = status.WatchFault

-- what is reported of a refusal
abbrev pub refusal_text : Refusal → List ℕ
refusal_text Memory = codes "fault: memory\n"
refusal_text (File fault) = file_fault_text fault
refusal_text (Draws b) = numbered (codes "fault: draws block ") b
refusal_text Watch = codes "fault: watch\n"
