use Rattle.std.proofs.Common.{◌≡◌, ◌&&◌, ℕ, List, get_or, ⊎_elim, bit_xor, ltb, refl, sym}
use Rattle.std.proofs.Common.{ap, ◌∙◌, arith}
use Rattle.std.proofs.lemmas.Bool.{cases_eq}
use Rattle.std.proofs.lemmas.List.{get_or_default}
use Rattle.sparse_rows.proofs.Algebra.{right}
use Rattle.sparse_rows.proofs.Planes.{byte_laws}
use Rattle.gauss.specs.Packed.{byte_in}
use Rattle.gauss.specs.Elimination.{before}
use Rattle.gauss.specs.Echelon.{bits_in, pivots_in, unknowns_in}
use Rattle.gauss.proofs.Words.{row_room}
use Rattle.gauss.proofs.Groups.{entry_of_row}
use Rattle.gauss.proofs.Passes.{none_yet}
use Rattle.gauss.proofs.substitution.add_group_recorded.Goals as goal

pub loop-p-init : goal.loop-p-init
loop-p-init c = record {
  done = λ q t lt lt2. sym (ap (bit_xor (byte_in c.args.len c.args.symbols.now t q))
      (none_yet 0 bit_xor byte_laws (unknowns_in c.args.form.now) c.args.group q
      (bits_in c.args.form.now (pivots_in c.args.form.now q))
      (byte_in c.args.len c.args.symbols.now t) lt) ∙ right 0 bit_xor byte_laws _);
  rest = λ q t le lt. refl;
}

pub add_entry-requires-clause-symbols : goal.add_entry-requires-clause-symbols
add_entry-requires-clause-symbols c =
    omega (
      arith,
      row_room (unknowns_in c.args.form.now) c.args.len c.loop-p.p
          (omega (arith, c.loop-p-test.true)),
      c.loop-p.auto.symbols,
      c.requires.symbols.long,
    )

pub loop-p-preserved : goal.loop-p-preserved
loop-p-preserved c =
    let u : ℕ = unknowns_in c.args.form.now in
    let n : ℕ = c.args.len in
    let p : ℕ = c.loop-p.p in
    let g : ℕ = c.args.group in
    let i = c.loop-p.invariant in
    let first : List ℕ = c.args.symbols.now in
    let now : List ℕ = c.add_entry.new.symbols in
    let rows = pivots_in c.args.form.now in
    let bits = bits_in c.args.form.now in
    let row_is : get_or c.args.form.now.pivots.now p 0 ≡ rows p = get_or_default
    c.args.form.now.pivots.now p 0
    c.args.form.now.rows (omega (arith, c.loop-p-test.true)) in
    record {
      done = λ q t lt lt2. ⊎_elim
          (λ (e : q ≡ p). rw e (c.add_entry.ensures.symbol t lt2
          ∙ ap (λ x. bit_xor x (byte_in n c.args.table.now t c.byte_before-byte.result))
          (i.rest p t (omega arith) lt2)
          ∙ ap (bit_xor (byte_in n first t p)) (c.requires.entries c.byte_before-byte.result t
          c.byte_before-byte.ensures.byte lt2
          ∙ entry_of_row 0 bit_xor byte_laws u g c.byte_before-byte.result (before bits rows p)
          (byte_in n first t) (λ d lt3 e2. sym (c.byte_before-byte.ensures.bits d e2
          ∙ ap (λ r. ltb d p && bits r d) row_is)))))
          (λ ne. c.add_entry.ensures.others q t ne lt2 ∙ i.done q t (omega (arith, ne)) lt2)
          (cases_eq q p);
      rest = λ q t le lt2. c.add_entry.ensures.others q t (λ e. omega (arith, e)) lt2
          ∙ i.rest q t (omega arith) lt2;
    }

pub returns : goal.returns
returns c p t lt lt2 = c.loop-p.invariant.done p t (omega (arith, c.loop-p-test.false)) lt2
