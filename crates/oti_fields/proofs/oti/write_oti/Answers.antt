use Rattle.std.proofs.Common.{◌≡◌, ◌+◌, ◌*◌, ◌^◌, ◌%◌, refl, ◌∙◌, arith, bit_or}
use Rattle.std.proofs.lemmas.Grind.{or_after_shift}
use Rattle.byteorder.specs.Endian.{big_bytes}
use Rattle.oti_fields.proofs.Spelling.{whole, written}
use Rattle.oti_fields.proofs.oti.write_oti.Goals as goal

pub returns : goal.returns
returns c =
    let oti = c.args.oti.now in
    let fit = c.requires in
    let joined_first : bit_or (oti.n1m3 * 32 % 2 ^ 8) oti.group ≡ oti.n1m3 * 32 + oti.group =
    or_after_shift oti.n1m3 32 (2 ^ 8) oti.group refl (omega (arith, fit.group_bits))
    (omega (arith, fit.n1m3_bits)) in
    let first : bit_or (oti.n1m3 * 32 % 2 ^ 8) oti.group ≡ (oti.n1m3 * 32 + oti.group) % 256 =
    joined_first ∙ omega (arith, fit.n1m3_bits, fit.group_bits) in
    let sizes : bit_or (oti.block * 2 ^ 20 % 2 ^ 64) oti.max_n ≡ oti.block * 2 ^ 20 + oti.max_n =
    or_after_shift oti.block (2 ^ 20) (2 ^ 64) oti.max_n refl fit.max_n_bits
    (omega (arith, fit.block_bits)) in
    let a : c.write_u48.new.buf ≡ big_bytes 6 oti.length = whole 6 _ (big_bytes 6 oti.length) _
    c.write_u48.ensures in
    let b : c.write_u16.new.buf ≡ big_bytes 2 oti.symbol = whole 2 _ (big_bytes 2 oti.symbol) _
    c.write_u16.ensures in
    let d : c.write_uint.new.buf ≡ big_bytes 5 (bit_or (oti.block * 2 ^ 20 % 2 ^ 64) oti.max_n) =
    whole 5 _ (big_bytes 5 (bit_or (oti.block * 2 ^ 20 % 2 ^ 64) oti.max_n)) _
    c.write_uint.ensures in
    let e : c.write_u32.new.buf ≡ big_bytes 4 oti.seed = whole 4 _ (big_bytes 4 oti.seed) _
    c.write_u32.ensures in
    rw (a, b, d, e, first, sizes) (written c.args.out.now oti.length oti.symbol
    ((oti.n1m3 * 32 + oti.group) % 256) (oti.block * 2 ^ 20 + oti.max_n) oti.seed (c.told-out))
