use Rattle.std.proofs.Common.{◌*◌, ◌/◌, ◌%◌, ◌^◌, ◌==◌, ◌<◌, ℕ, false, cond, length, inr, refl, ap}
use Rattle.std.proofs.Common.{ap₂, ◌∙◌, arith}
use Rattle.std.proofs.Math.Bool.{xor as bool_xor}
use Rattle.std.proofs.lemmas.Nat.Bits.{bit_at-zero}
use Rattle.sparse_rows.proofs.Parity.{bit_laws}
use Rattle.gauss.specs.Packed.{bits_of}
use Rattle.gauss.proofs.Tabled.{step_is}
use Rattle.gauss.proofs.table.eliminate_unknown.Goals as goal

pub returns-clause-step : goal.returns-clause-step
returns-clause-step c =
    let u : ℕ = c.args.group.unknowns in
    let w : ℕ = c.args.group.width in
    let g : ℕ = c.args.group.number in
    let t : ℕ = c.in-Some.pivot in
    let inside : c.args.unknown < w * 64 = omega (
      arith,
      c.requires.group.width,
      c.requires.unknown,
    ) in
    let word : g / 8 < w = omega (arith, c.requires.place, inside) in
    inr (
      t,
      step_is u w g c.args.unknown t (length c.args.leads.now) c.args.words.now c.add_row.new.words
          c.flip.new.words c.args.table.now c.update.new.table c.args.pivots.now c.args.leads.now
          c.in-Some.ensures c.requires.unknown refl c.requires.place inside
          (λ d. c.add_row.ensures.row d ∙ ap (λ b. bool_xor (bits_of w c.args.words.now t d)
          (bits_of w c.args.table.now b d)) c.byte_of-byte.ensures.value)
          c.flip.ensures.row
          (λ j d ne. c.flip.ensures.others j d ne ∙ c.add_row.ensures.others j d ne)
          (λ j ne. ap (λ n. n / 2 ^ (g % 8 * 8) % 256) (c.flip.ensures.words j (g / 8) ne word
          ∙ c.add_row.ensures.words j (g / 8) ne word))
          (λ j. omega arith)
          c.update.ensures,
    )

pub returns-clause-zero : goal.returns-clause-zero
returns-clause-zero c d =
    let w : ℕ = c.args.group.width in
    c.update.ensures 0 d (omega arith)
    ∙ ap₂ (λ x y. cond (bool_xor (x == 1) y) (bool_xor (bits_of w c.args.table.now 0 d)
    (bits_of w c.flip.new.words c.in-Some.pivot d)) (bits_of w c.args.table.now 0 d))
    (bit_at-zero (c.args.unknown % 8)) (c.requires.zero c.args.unknown)
    ∙ ap (λ b. cond b (bool_xor (bits_of w c.args.table.now 0 d)
    (bits_of w c.flip.new.words c.in-Some.pivot d)) (bits_of w c.args.table.now 0 d))
    (bit_laws.self false)
    ∙ c.requires.zero d
