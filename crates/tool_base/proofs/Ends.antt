-- How a run ends that is refused.
use Rattle.std.proofs.Common.{◌≡◌, refl, sym, ◌∙◌, subst}
use Rattle.packet_file.specs.declared.fault.FileFault.{FileFault}
use Rattle.packet_file.specs.declared.fault.FileFault.TheVariants.{ShortHeader, BadMagic}
use Rattle.packet_file.specs.declared.fault.FileFault.TheVariants.{BadVersion, BadCodec}
use Rattle.packet_file.specs.declared.fault.FileFault.TheVariants.{BadReserved, Field, ShortPacket}
use Rattle.packet_file.specs.declared.fault.FileFault.TheVariants.{NoSuchBlock, NoSuchSymbol}
use Rattle.packet_file.specs.declared.fault.FileFault.TheVariants.{BadLength, BadPadding}
use Rattle.packet_file.specs.declared.fault.FileFault.TheVariants.{TooLarge, TooManyBlocks}
use Rattle.packet_file.specs.declared.fault.FileFault.TheVariants.{TooManyPackets, ReadFault}
use Rattle.tool_base.specs.declared.status.Status.{Status}
use Rattle.tool_base.specs.declared.status.Status.TheVariants as status
use Rattle.tool_base.specs.RefusalStatuses.{IsRefused}
use Rattle.tool_base.specs.Refusals.{fault_status, refusal_status}
use Rattle.tool_base.specs.declared.causes.Refusal.{Refusal}
use Rattle.tool_base.specs.declared.causes.Refusal.TheVariants.{Memory, File, Draws, Watch}

-- a fault of a file is no want of memory, and has the status of a refusal
fault_refused : (fault : FileFault) → IsRefused (fault_status fault)
fault_refused (ShortHeader have) = tt
fault_refused BadMagic = tt
fault_refused (BadVersion version) = tt
fault_refused (BadCodec number) = tt
fault_refused BadReserved = tt
fault_refused (Field fault) = tt
fault_refused (ShortPacket index have) = tt
fault_refused (NoSuchBlock index sbn) = tt
fault_refused (NoSuchSymbol index esi) = tt
fault_refused (BadLength index len) = tt
fault_refused (BadPadding index) = tt
fault_refused (TooLarge limit) = tt
fault_refused TooManyBlocks = tt
fault_refused TooManyPackets = tt
fault_refused ReadFault = tt

fault_is_no_want : (fault : FileFault) → fault_status fault ≡ status.Memory → ⊥
fault_is_no_want (ShortHeader have) is = cc
fault_is_no_want BadMagic is = cc
fault_is_no_want (BadVersion version) is = cc
fault_is_no_want (BadCodec number) is = cc
fault_is_no_want BadReserved is = cc
fault_is_no_want (Field fault) is = cc
fault_is_no_want (ShortPacket index have) is = cc
fault_is_no_want (NoSuchBlock index sbn) is = cc
fault_is_no_want (NoSuchSymbol index esi) is = cc
fault_is_no_want (BadLength index len) is = cc
fault_is_no_want (BadPadding index) is = cc
fault_is_no_want (TooLarge limit) is = cc
fault_is_no_want TooManyBlocks is = cc
fault_is_no_want TooManyPackets is = cc
fault_is_no_want ReadFault is = cc

-- the status of a refusal is one of a refusal
pub is_refused : (refusal : Refusal) → IsRefused (refusal_status refusal)
is_refused Memory = tt
is_refused (File fault) = fault_refused fault
is_refused (Draws b) = tt
is_refused Watch = tt

-- and so no other
pub no_other : (refusal : Refusal) (result other : Status) → result ≡ refusal_status refusal
    → result ≡ other → IsRefused other
no_other refusal result other ended is = subst IsRefused (sym ended ∙ is) (is_refused refusal)

-- only want of memory has the status of want of memory
pub wants_memory : (refusal : Refusal) → refusal_status refusal ≡ status.Memory → refusal ≡ Memory
wants_memory Memory is = refl
wants_memory (File fault) is = absurd (fault_is_no_want fault is)
wants_memory (Draws b) is = cc
wants_memory Watch is = cc
