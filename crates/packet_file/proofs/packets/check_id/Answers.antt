use Rattle.std.proofs.Common.{◌≡◌, ◌++◌, length, drop, refl, ap, arith}
use Rattle.oti_fields.specs.Fields.{id_bytes}
use Rattle.packet_file.specs.Header.{HeaderFields}
use Rattle.packet_file.specs.Packets.{IsIdOf}
use Rattle.packet_file.proofs.ReadPieces.{begins, lead_some, unknown_whole}
use Rattle.packet_file.proofs.packets.check_id.Goals as goal

pub returns-then-id-count-clause-fault : goal.returns-then-id-count-clause-fault
returns-then-id-count-clause-fault c =
    let h : HeaderFields = c.args.h.now in
    let lead = c.args.lead.now in
    let id = c.read_id-id.result in
    let spelled : lead ≡ id_bytes id ++ drop 4 lead = begins lead id
    (omega (arith, lead_some h.version h.oti.symbol, c.requires.lead))
    c.read_id-id.ensures.spelled in (
      c.requires.index,
      refl,
      id,
      (drop 4 lead, c.read_id-id.ensures.fits, c.requires.lead, spelled),
      refl,
      omega (arith, c.if-id-count.true, c.count.ensures.value, ap length c.plan.ensures),
    )

pub returns-then-id-count-clause-whole : goal.returns-then-id-count-clause-whole
returns-then-id-count-clause-whole c =
    let h : HeaderFields = c.args.h.now in
    let lead = c.args.lead.now in
    let id = c.read_id-id.result in
    let spelled : lead ≡ id_bytes id ++ drop 4 lead = begins lead id
    (omega (arith, lead_some h.version h.oti.symbol, c.requires.lead))
    c.read_id-id.ensures.spelled in
    unknown_whole c.fields_have_one_spelling.ensures.id h c.oti-oti.ensures.header c.args.index
    c.args.limit lead id c.requires.lead c.read_id-id.ensures.fits spelled
    (λ (of : IsIdOf h id). absurd (omega (
      arith,
      of.block,
      c.if-id-count.true,
      c.count.ensures.value,
      ap length c.plan.ensures,
    )))

pub returns-then-id-symbol_count-clause-fault : goal.returns-then-id-symbol_count-clause-fault
returns-then-id-symbol_count-clause-fault c =
    let h : HeaderFields = c.args.h.now in
    let lead = c.args.lead.now in
    let id = c.read_id-id.result in
    let spelled : lead ≡ id_bytes id ++ drop 4 lead = begins lead id
    (omega (arith, lead_some h.version h.oti.symbol, c.requires.lead))
    c.read_id-id.ensures.spelled in (
      c.requires.index,
      refl,
      id,
      (drop 4 lead, c.read_id-id.ensures.fits, c.requires.lead, spelled),
      omega (arith, c.if-id-count.false, c.count.ensures.value, ap length c.plan.ensures),
      refl,
      omega (arith, c.if-id-symbol_count.true, c.symbol_count.ensures.value),
    )

pub returns-then-id-symbol_count-clause-whole : goal.returns-then-id-symbol_count-clause-whole
returns-then-id-symbol_count-clause-whole c =
    let h : HeaderFields = c.args.h.now in
    let lead = c.args.lead.now in
    let id = c.read_id-id.result in
    let spelled : lead ≡ id_bytes id ++ drop 4 lead = begins lead id
    (omega (arith, lead_some h.version h.oti.symbol, c.requires.lead))
    c.read_id-id.ensures.spelled in
    unknown_whole c.fields_have_one_spelling.ensures.id h c.oti-oti.ensures.header c.args.index
    c.args.limit lead id c.requires.lead c.read_id-id.ensures.fits spelled
    (λ (of : IsIdOf h id). absurd (omega (
      arith,
      of.symbol,
      c.if-id-symbol_count.true,
      c.symbol_count.ensures.value,
    )))
