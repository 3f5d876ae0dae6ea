use Rattle.std.proofs.Common.{◌≡◌, ℕ, ◌+◌, ◌*◌, ◌/◌, ◌%◌, ◌^◌, ◌<◌, sym, ap, ◌∙◌, arith}
use Rattle.std.proofs.lemmas.List.{take_all}
use Rattle.byteorder.specs.Endian.{big_bytes, big_number}
use Rattle.byteorder.specs.Numbers.{big_from-lt}
use Rattle.oti_fields.specs.declared.identifier.PacketId.{PacketId}
use Rattle.oti_fields.proofs.Spelling.{bytes_again, bytes_of_all}
use Rattle.oti_fields.proofs.laws.fields_have_one_spelling.Goals as goal

pub returns-clause-spelled : goal.returns-clause-spelled
returns-clause-spelled c = λ bytes four all.
    let are_bytes = bytes_of_all bytes all in
    let number : ℕ = big_number 4 bytes in
    let fits : number < 2 ^ 32 = big_from-lt 0 4 bytes are_bytes in
    let id : PacketId = record { sbn = number / 2 ^ 20; esi = number % 2 ^ 20 } in
    let joined : number ≡ number / 2 ^ 20 * 2 ^ 20 + number % 2 ^ 20 = omega arith in
    let spelled : bytes ≡ big_bytes 4 number =
    sym (bytes_again 4 bytes (omega (arith, four)) are_bytes
    ∙ take_all 4 bytes (omega (arith, four))) in (
      id,
      record { sbn_bits = omega (arith, fits); esi_bits = omega arith },
      spelled ∙ ap (big_bytes 4) joined,
    )
