use Rattle.std.proofs.Common.{◌≡◌, ◌%◌, ◌==◌, ℕ, List, get_or, ⊎_elim, bit_xor, refl, sym}
use Rattle.std.proofs.Common.{ap, ◌∙◌, arith}
use Rattle.std.specs.Int.{bit_at}
use Rattle.std.proofs.lemmas.Bool.{cases_eq}
use Rattle.std.proofs.lemmas.List.{get_or_default}
use Rattle.sparse_rows.proofs.Planes.{byte_laws}
use Rattle.gauss.specs.Packed.{bits_of, byte_in, byte_of}
use Rattle.gauss.specs.Echelon.{pivots_in, unknowns_in}
use Rattle.gauss.proofs.Words.{row_room}
use Rattle.gauss.proofs.Tabled.{bit_of_byte}
use Rattle.gauss.proofs.Groups.{entry_of_row}
use Rattle.gauss.proofs.substitution.add_values_before.Goals as goal

pub loop-p-init : goal.loop-p-init
loop-p-init c = record { done = λ q t lt. absurd (omega (arith, lt)); rest = λ q t le lt. refl }

pub add_entry-requires-clause-symbols : goal.add_entry-requires-clause-symbols
add_entry-requires-clause-symbols c =
    omega (
      arith,
      row_room (unknowns_in c.args.form.now) c.args.len c.loop-p.p
          (omega (arith, c.loop-p-test.true, c.requires.group)),
      c.loop-p.auto.symbols,
      c.requires.symbols.long,
    )

pub loop-p-preserved : goal.loop-p-preserved
loop-p-preserved c =
    let u : ℕ = unknowns_in c.args.form.now in
    let n : ℕ = c.args.len in
    let p : ℕ = c.loop-p.p in
    let g : ℕ = c.args.group in
    let w : ℕ = c.args.form.now.width in
    let i = c.loop-p.invariant in
    let first : List ℕ = c.args.symbols.now in
    let rows = pivots_in c.args.form.now in
    let row_is : get_or c.args.form.now.pivots.now p 0 ≡ rows p = get_or_default
    c.args.form.now.pivots.now p 0
    c.args.form.now.rows (omega (arith, c.loop-p-test.true, c.requires.group)) in
    let byte_is : c.byte_or_zero-byte.result ≡ byte_of w c.args.form.now.words.now (rows p) g =
    c.byte_or_zero-byte.ensures.value ∙ ap (λ r. byte_of w c.args.form.now.words.now r g) row_is in
    record {
      done = λ q t lt lt2. ⊎_elim
          (λ (e : q ≡ p). rw e (c.add_entry.ensures.symbol t lt2
          ∙ ap (λ x. bit_xor x (byte_in n c.args.table.now t c.byte_or_zero-byte.result))
          (i.rest p t (omega arith) lt2)
          ∙ ap (bit_xor (byte_in n first t p)) (c.requires.entries c.byte_or_zero-byte.result t
          c.byte_or_zero-byte.ensures.byte lt2
          ∙ entry_of_row 0 bit_xor byte_laws u g c.byte_or_zero-byte.result
          (bits_of w c.args.form.now.words.now (rows p)) (byte_in n first t)
          (λ d lt3 e2. bit_of_byte w c.args.form.now.words.now (rows p) g d e2
          (omega (arith, lt3, c.requires.form.wide)) ∙ ap (λ b. bit_at b (d % 8) == 1)
          (sym byte_is)))))
          (λ ne. c.add_entry.ensures.others q t ne lt2 ∙ i.done q t (omega (arith, ne)) lt2)
          (cases_eq q p);
      rest = λ q t le lt2. c.add_entry.ensures.others q t (λ e. omega (arith, e)) lt2
          ∙ i.rest q t (omega arith) lt2;
    }

pub returns-clause-low : goal.returns-clause-low
returns-clause-low c p t lt lt2 = c.loop-p.invariant.done p t (omega (arith, c.loop-p-test.false))
    lt2

pub returns-clause-rest : goal.returns-clause-rest
returns-clause-rest c p t le lt = c.loop-p.invariant.rest p t
    (omega (arith, le, c.loop-p-test.false, c.loop-p.auto.p-end)) lt
