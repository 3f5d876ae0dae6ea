use Rattle.std.proofs.Common.{ℕ, bit_xor}
use Rattle.sparse_rows.proofs.Planes.{byte_laws}
use Rattle.gauss.specs.Packed.{byte_in}
use Rattle.gauss.specs.Echelon.{bits_in, pivots_in, unknowns_in}
use Rattle.gauss.proofs.Passes.{group_step}
use Rattle.gauss.proofs.substitution.add_group_values.Goals as goal

pub returns : goal.returns
returns c p t lt lt2 =
    let n : ℕ = c.args.len in
    group_step 0 bit_xor byte_laws (unknowns_in c.args.form.now)
    (λ q. bits_in c.args.form.now (pivots_in c.args.form.now q))
    c.args.group
    (byte_in n c.args.symbols.now t) (byte_in n c.add_values_within.new.symbols t)
    (byte_in n c.add_values_before.new.symbols t)
    (λ q low e. c.add_values_within.ensures.own q t low e lt2)
    (λ q ne. c.add_values_within.ensures.others q t ne lt2)
    (λ q low. c.add_values_before.ensures.low q t low lt2) (λ q le. c.add_values_before.ensures.rest
    q t le lt2) p lt
