use Rattle.std.proofs.Common.{◌≡◌, ◌++◌, ◌∙◌, length, ap, sym, refl}
use Rattle.byteorder.specs.Endian.{big_bytes}
use Rattle.oti_fields.specs.Fields.{id_bytes}
use Rattle.packet_file.specs.Packets.{length_field, true_len}
use Rattle.packet_file.specs.Header.{HeaderFields}
use Rattle.packet_file.specs.Pieces.{lead_by, lead_len}
use Rattle.packet_file.specs.declared.version.Version.{Version}
use Rattle.packet_file.proofs.Limits.{ids_fit}
use Rattle.packet_file.proofs.ReadPieces.{mismeasured_whole, two_bytes}
use Rattle.packet_file.proofs.packets.check_len.Goals as goal

pub returns-then-told-len-clause-whole : goal.returns-then-told-len-clause-whole
returns-then-told-len-clause-whole c =
    let h : HeaderFields = c.args.h.now in
    let long : length c.args.head.now ≡ lead_len h = c.told-head
    ∙ sym (ap (λ (v : Version). lead_by v h.oti.symbol) c.requires.version) in
    mismeasured_whole c.fields_have_one_spelling.ensures.id h c.oti-oti.ensures.header c.args.index
    c.args.limit c.args.head.now c.args.id long
    (ids_fit h c.args.id c.oti-oti.ensures.header c.requires.id) c.requires.spelled
    c.requires.version
    (λ same. c.if-told-len.true (c.from_be_bytes-told.ensures ∙ same
    ∙ sym c.true_len-len.ensures.value))

pub returns-then-told-len-clause-fault : goal.returns-then-told-len-clause-fault
returns-then-told-len-clause-fault c =
    let head = c.args.head.now in
    let spelled : head ≡ id_bytes c.args.id ++ big_bytes 2 c.from_be_bytes-told.result =
    c.requires.spelled ∙ ap (λ l. id_bytes c.args.id ++ l) (two_bytes head c.told-head
    (c.fits-head 4) (c.fits-head 5)
    ∙ ap (λ n. big_bytes 2 n) (sym c.from_be_bytes-told.ensures)) in (
      c.requires.index,
      refl,
      c.requires.version,
      c.args.id,
      c.requires.id,
      c.from_be_bytes-told.type_inv,
      spelled,
      λ same. c.if-told-len.true (same ∙ sym c.true_len-len.ensures.value),
    )

pub returns-clause-head : goal.returns-clause-head
returns-clause-head c =
    let h : HeaderFields = c.args.h.now in
    let head = c.args.head.now in
    let id = c.args.id in
    let told : c.from_be_bytes-told.result ≡ true_len h id =
    c.if-told-len.false ∙ c.true_len-len.ensures.value in
    c.requires.spelled ∙ ap (λ l. id_bytes id ++ l) (two_bytes head c.told-head
    (c.fits-head 4) (c.fits-head 5)
    ∙ ap (λ n. big_bytes 2 n) (sym c.from_be_bytes-told.ensures ∙ told)
    ∙ sym (ap (λ (v : Version). length_field v (true_len h id)) c.requires.version))
