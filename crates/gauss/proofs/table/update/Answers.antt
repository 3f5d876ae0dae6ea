use Rattle.std.proofs.Common.{◌≡◌, ◌%◌, ◌==◌, ℕ, cond, ⊎_elim, ap₂, ◌∙◌, arith}
use Rattle.std.specs.Int.{bit_at}
use Rattle.std.proofs.Math.Bool.{xor as bool_xor}
use Rattle.std.proofs.lemmas.Bool.{cases_eq}
use Rattle.gauss.specs.Packed.{bits_of}
use Rattle.gauss.proofs.table.update.Goals as goal

pub loop-byte-preserved : goal.loop-byte-preserved
loop-byte-preserved c =
    let k : ℕ = c.loop-byte.byte in
    let i = c.loop-byte.invariant in
    record {
      done = λ b d lt. ⊎_elim
          (λ (e : b ≡ k). rw e (c.update_row.ensures.row d
          ∙ ap₂ (λ x y. cond (bool_xor (bit_at k (c.args.unknown % 8) == 1) x)
          (bool_xor y (bits_of c.args.width c.args.words.now c.args.t d)) y)
          (i.rest k c.args.unknown (omega arith)) (i.rest k d (omega arith))))
          (λ ne. c.update_row.ensures.others b d ne ∙ i.done b d (omega (arith, ne)))
          (cases_eq b k);
      rest = λ b d le. c.update_row.ensures.others b d (λ e. omega (arith, e))
          ∙ i.rest b d (omega arith);
    }
