use Rattle.std.proofs.Common.{ℕ, List, Option, Some, ap, ◌∙◌, subst}
use Rattle.fec_base.specs.Outside.{stream}
use Rattle.packet_file.specs.OneReading.{LacksHeader}
use Rattle.packet_file.specs.OneReading.Stop.{Bad}
use Rattle.packet_file.specs.Packets.{spelled}
use Rattle.tool_laws.proofs.NoFault.{header_taken, packet_taken}
use Rattle.tool_laws.proofs.laws.packet_files_have_no_fault.Goals as goal

pub returns : goal.returns
returns c h most packets bytes file fault input now = (
  λ known lacks. header_taken c.headers_and_packets_have_one_spelling.ensures.header h file.header
      fault (spelled h packets) input.faults now
      (subst (λ (l : Option (List ℕ)). LacksHeader (stream l input.faults) now (Bad fault))
      (known ∙ ap (λ (l : List ℕ). Some l) file.bytes_are) lacks),
  λ before each taken stops. packet_taken c.headers_and_packets_have_one_spelling.ensures.packet
      c.files_have_one_fault.ensures.no_bad_piece h most packets bytes file fault before input now
      each taken stops,
)
