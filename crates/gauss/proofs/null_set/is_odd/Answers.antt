use Rattle.std.proofs.Common.{◌≡◌, Bool, true, false, cond, ◌&&◌, refl, sym, ap, ap₂, ◌∙◌}
use Rattle.std.proofs.Math.Bool.{xor as bool_xor}
use Rattle.sparse_rows.specs.Closure.{flagged}
use Rattle.sparse_rows.proofs.Parity.{bit_laws}
use Rattle.gauss.specs.Packed.{bits_of}
use Rattle.gauss.proofs.Growing.{product_more}
use Rattle.gauss.proofs.null_set.is_odd.Goals as goal

both : (a b : Bool) → (a && b) ≡ cond a b false
both true b = refl
both false b = refl

pub loop-c-preserved : goal.loop-c-preserved
unfolding bool_xor
loop-c-preserved c =
    let mask = bits_of c.args.width c.args.words.now c.args.r in
    let x = flagged c.args.flags.now in
    ap₂ bool_xor c.loop-c.invariant (both c.has.result (x c.loop-c.c)
    ∙ ap (λ b. cond b (x c.loop-c.c) false) c.has.ensures)
    ∙ sym (product_more false bool_xor bit_laws c.loop-c.c mask x)
