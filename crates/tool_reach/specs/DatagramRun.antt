-- What a `frame` or an `unframe` does: one pass over datagrams.
use Rattle.std.specs.Fmt.{decimal}
use Rattle.std.specs.Prelude.{List, codes, ℕ, ◌++◌, ◌≡◌}
use Rattle.fec_base.specs.Outside.{Stream}
use Rattle.datagram_pass.specs.Pass.{PassEnds, PassesWhole}
use Rattle.datagram_pass.specs.declared.kind.DatagramFault.{DatagramFault}
use Rattle.datagram_pass.specs.declared.kind.DatagramFault.TheVariants.{LengthPast, Long}
use Rattle.datagram_pass.specs.declared.kind.DatagramFault.TheVariants.{PaddingSet, Short, TooMany}
use Rattle.datagram_pass.specs.declared.kind.DatagramRefusal.TheVariants as early
use Rattle.datagram_pass.specs.declared.kind.Way.{Way}
use Rattle.datagram_pass.specs.declared.kind.Way.TheVariants.{Framing, Unframing}
use Rattle.packet_file.specs.declared.fault.FileFault.TheVariants.{ReadFault}
use Rattle.tool_base.specs.Ending.{Due, EndsBy, OrRefusal, Refuses}
use Rattle.tool_base.specs.Outside.{Streams}
use Rattle.tool_base.specs.Refusals.{numbered}
use Rattle.tool_base.specs.declared.causes.Refusal.TheVariants.{File, Memory}
use Rattle.tool_base.specs.declared.status.Status.{Status}
use Rattle.tool_base.specs.declared.status.Status.TheVariants as status

-- the report of a pass to the end of the input
abbrev pub count_text : ℕ → List ℕ
count_text datagrams = numbered (codes "datagrams ") datagrams

-- how the report of a fault begins: a stream has datagrams, and frames are symbols
abbrev pub item_text : Way → List ℕ
item_text Framing = codes "fault: datagram "
item_text Unframing = codes "fault: symbol "

-- the same with the number of the datagram or symbol
abbrev pub item_head : Way → ℕ → List ℕ
item_head way index = item_text way ++ decimal index

-- what is reported of datagram or symbol number `index`, with a number
abbrev pub item_fault_text : Way → ℕ → List ℕ → ℕ → List ℕ
item_fault_text way index what number = item_head way index ++ numbered what number

-- what is reported of a fault
abbrev pub datagram_fault_text : Way → DatagramFault → List ℕ
datagram_fault_text way (Short index have) = item_fault_text way index (codes " short ") have
datagram_fault_text way TooMany = codes "fault: limit length\n"
datagram_fault_text way (Long index count) = item_fault_text way index (codes " long ") count
datagram_fault_text way (LengthPast index count) =
    item_fault_text way index (codes " length ") count
datagram_fault_text way (PaddingSet index) = item_head way index ++ codes " padding\n"

-- the status of a fault
abbrev pub datagram_fault_status : DatagramFault → Status
datagram_fault_status TooMany = status.Limit
datagram_fault_status _ = status.Malformed

-- what is due at a fault, which is the first: its report, behind what goes for the datagrams before
abbrev pub FaultDue : Way → ℕ → Stream → Stream → Due
FaultDue way symbol input input_now ended out text = (fault : DatagramFault)
    × (ended ≡ datagram_fault_status fault)
    × PassEnds way symbol input input_now (early.Fault fault) out
    × (text ≡ datagram_fault_text way fault)

-- what is due of a pass: what goes for all datagrams that the input is, and their number; or a
-- fault
abbrev pub DatagramsDue : Way → ℕ → Stream → Stream → Due
DatagramsDue way symbol input input_now status.Done out text = (count : ℕ)
    × PassesWhole way symbol input input_now count out × (text ≡ count_text count)
DatagramsDue way symbol input input_now status.Malformed out text =
    FaultDue way symbol input input_now status.Malformed out text
DatagramsDue way symbol input input_now status.Limit out text =
    FaultDue way symbol input input_now status.Limit out text
DatagramsDue way symbol input input_now _ out text = ⊥

-- a pass is refused: memory lacked before a byte was taken or written; or its input failed, and
-- what goes for the datagrams before was written
abbrev pub RefusesDatagrams : Way → ℕ → Stream → Stream → Refuses
RefusesDatagrams way symbol input input_now Memory out =
    PassEnds way symbol input input_now early.Memory out
RefusesDatagrams way symbol input input_now (File ReadFault) out =
    PassEnds way symbol input input_now early.Read out
RefusesDatagrams way symbol input input_now _ out = ⊥

-- what a `frame` or an `unframe` does; where the output fails, nothing is taken behind what it was
-- to take last
abbrev pub IsDatagramRun : Way → ℕ → Streams → Streams → Status → Type 0
IsDatagramRun way symbol before after ended =
    EndsBy (OrRefusal (DatagramsDue way symbol before.input after.input)
    (RefusesDatagrams way symbol before.input after.input))
    (PassEnds way symbol before.input after.input early.Output) before.output after.output
    before.report after.report ended
