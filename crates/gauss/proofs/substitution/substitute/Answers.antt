use Rattle.std.proofs.Common.{bit_xor, ap, ◌∙◌}
use Rattle.gauss.specs.Packed.{byte_in}
use Rattle.gauss.specs.Elimination.{behind, product}
use Rattle.gauss.specs.Echelon.{bits_in, pivots_in, unknowns_in}
use Rattle.gauss.proofs.substitution.substitute.Goals as goal

pub returns : goal.returns
returns c p t lt lt2 = c.add_values.ensures p t lt lt2
    ∙ ap (λ v. bit_xor v (product 0 bit_xor (unknowns_in c.args.form.now)
    (behind (bits_in c.args.form.now) (pivots_in c.args.form.now) p)
    (byte_in c.args.len c.add_values.new.symbols t))) (c.add_recorded.ensures p t lt lt2)
