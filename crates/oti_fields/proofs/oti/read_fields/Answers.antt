use Rattle.std.proofs.Common.{◌+◌, ◌*◌, ◌<◌, ◌/◌, ◌^◌, slice_index, bit_and, refl, arith}
use Rattle.std.proofs.lemmas.Grind.{and_numeral}
use Rattle.oti_fields.proofs.Spelling.{part_fits, read_back}
use Rattle.oti_fields.proofs.oti.read_fields.Goals as goal

-- src/oti.rt:62:16
pub overflow_cast-result-2 : goal.overflow_cast-result-2
overflow_cast-result-2 c =
    let fits : c.read_uint-sizes.result < 2 ^ 40 =
    omega (arith, part_fits 9 5 c.args.bytes.now c.fits-bytes, c.read_uint-sizes.ensures) in
    record { fits = omega (arith, fits) }

pub returns-clause-fits : goal.returns-clause-fits
returns-clause-fits c =
    let sizes = c.read_uint-sizes.result in
    let first = slice_index c.args.bytes.now 8 in
    record {
      length_bits = omega (arith, part_fits 0 6 c.args.bytes.now c.fits-bytes, c.read_u48.ensures);
      symbol_bits = c.read_u16.type_inv;
      n1m3_bits = omega (arith, c.fits-bytes 8);
      group_bits = omega (arith, and_numeral first 30 refl);
      block_bits = omega (
        arith,
        part_fits 9 5 c.args.bytes.now c.fits-bytes,
        c.read_uint-sizes.ensures,
      );
      max_n_bits = omega (arith, and_numeral sizes 1048574 refl);
      seed_bits = c.read_u32.type_inv;
    }

pub returns-clause-spelled : goal.returns-clause-spelled
returns-clause-spelled c =
    let sizes = c.read_uint-sizes.result in
    let first = slice_index c.args.bytes.now 8 in
    read_back c.args.bytes.now c.read_u48.result c.read_u16.result
    (first / 32 * 32 + bit_and first 31) (sizes / 2 ^ 20 * 2 ^ 20 + bit_and sizes 1048575)
    c.read_u32.result c.told-bytes c.fits-bytes c.read_u48.ensures c.read_u16.ensures
    (omega (arith, and_numeral first 30 refl))
    (omega (arith, and_numeral sizes 1048574 refl, c.read_uint-sizes.ensures))
    c.read_u32.ensures
