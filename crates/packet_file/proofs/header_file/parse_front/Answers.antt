use Rattle.std.proofs.Common.{◌≡◌, take, codes, rules, slice_index}
use Rattle.packet_file.specs.Faults.{AreNotZero}
use Rattle.packet_file.proofs.Spelled.{not_reserved}
use Rattle.packet_file.proofs.header_file.parse_front.Goals as goal
use Rattle.packet_file.proofs.header_file.parse_front.Goals.{then-bytes-ne0-via-then-bytes-ne0}
use Rattle.packet_file.proofs.header_file.parse_front.Goals.{then-bytes-ne0-via-else-bytes-ne0+then-bytes-ne0-2}

pub returns-then-bytes-ne0-clause-fault : goal.returns-then-bytes-ne0-clause-fault
returns-then-bytes-ne0-clause-fault c =
    let bytes = c.args.bytes.now in
    let magic : take 4 bytes ≡ codes "OFPK" = search rules in
    let not_zero : AreNotZero (slice_index bytes 6) (slice_index bytes 7) =
    elim c.then-bytes-ne0.branch [
      | then-bytes-ne0-via-then-bytes-ne0 w ↦ λ both.
          w.if-bytes-ne0.true both.0
      | then-bytes-ne0-via-else-bytes-ne0+then-bytes-ne0-2 w ↦ λ both.
          w.if-bytes-ne0-2.true both.1
    ] in
    not_reserved bytes c.in-Some.version c.in-Some-from_number.codec c.told-bytes magic
    c.in-Some.ensures c.in-Some-from_number.ensures not_zero
