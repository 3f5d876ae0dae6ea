use Rattle.std.proofs.Common.{◌≡◌, sym, ap, ◌∙◌}
use Rattle.packet_file.specs.Header.{HeaderFields, header_bytes}
use Rattle.packet_file.proofs.Limits.{has_size_fault}
use Rattle.packet_file.proofs.Spelled.{header_joined}
use Rattle.packet_file.proofs.header_file.parse_header.Goals as goal

pub returns-in-Ok-new-clause-ok : goal.returns-in-Ok-new-clause-ok
returns-in-Ok-new-clause-ok c =
    let bytes = c.args.bytes.now in
    let fields : HeaderFields = record {
      version = c.in_ok-version.version;
      codec = c.in_ok-version.codec;
      oti = c.in-Ok.oti;
    } in
    let spelled : bytes ≡ header_bytes fields = header_joined bytes c.copy_from_slice.new.self
    fields c.told-bytes c.in_ok-version.ensures.ok c.copy_from_slice.ensures.after
    c.in-Ok.ensures.ok.1 in
    let is : c.of_version.result ≡ fields = c.of_version.ensures
    ∙ ap (λ (h : HeaderFields). record h { version = c.in_ok-version.version })
    c.in-Ok-new.ensures.ok in
    spelled ∙ ap header_bytes (sym is)

pub returns-in-Err-new-clause-fault : goal.returns-in-Err-new-clause-fault
returns-in-Err-new-clause-fault c =
    let bytes = c.args.bytes.now in
    let fields : HeaderFields = record {
      version = c.in_ok-version.version;
      codec = c.in_ok-version.codec;
      oti = c.in-Ok.oti;
    } in
    let read = c.in-Ok.ensures.ok in
    let spelled : bytes ≡ header_bytes fields = header_joined bytes c.copy_from_slice.new.self
    fields c.told-bytes c.in_ok-version.ensures.ok c.copy_from_slice.ensures.after read.1 in
    has_size_fault bytes fields c.in-Err-new.fault read.0 spelled read.2 c.in-Err-new.ensures.err

pub returns-in-Err-clause-fault : goal.returns-in-Err-clause-fault
returns-in-Err-clause-fault c =
    let bytes = c.args.bytes.now in
    let read = c.in-Err.ensures.err in
    let fields : HeaderFields = record {
      version = c.in_ok-version.version;
      codec = c.in_ok-version.codec;
      oti = read.0;
    } in (
      fields,
      read.1,
      header_joined bytes c.copy_from_slice.new.self fields c.told-bytes
          c.in_ok-version.ensures.ok c.copy_from_slice.ensures.after read.2,
      read.3,
    )
