use Rattle.std.proofs.Common.{◌≡◌, ◌<◌, ◌+◌, ◌&&◌, ℕ, Bool, cond, List, bit_xor, ltb, refl, sym, ap}
use Rattle.std.proofs.Common.{◌∙◌, arith}
use Rattle.std.proofs.lemmas.Bool.{lt-ltb, le-ltb}
use Rattle.sparse_rows.proofs.Algebra.{right}
use Rattle.sparse_rows.proofs.Planes.{byte_laws}
use Rattle.gauss.specs.Packed.{byte_in}
use Rattle.gauss.specs.Echelon.{bits_in}
use Rattle.gauss.proofs.Clearing.{and_no}
use Rattle.gauss.proofs.Past.{bits_past}
use Rattle.gauss.proofs.Growing.{product_step}
use Rattle.gauss.proofs.Products.{product_none}
use Rattle.gauss.proofs.Words.{row_room}
use Rattle.gauss.proofs.substitution.add_range.Goals as goal
use Rattle.gauss.proofs.substitution.add_range.Goals.{then-has, else-has}

pub loop-c-init : goal.loop-c-init
loop-c-init c = record {
  symbol = λ t lt. sym (ap (bit_xor (byte_in c.args.len c.args.symbols.now t c.args.p))
      (product_none 0 bit_xor byte_laws (c.args.p + 1) (λ d. ltb c.args.p d && bits_in
      c.args.form.now c.args.r d) (byte_in c.args.len c.args.symbols.now t)
      (λ d lt2. rw (le-ltb c.args.p d (omega (arith, lt2))) refl)) ∙ right 0 bit_xor byte_laws _);
  others = λ q t ne lt. refl;
}

pub has-requires-clause-row : goal.has-requires-clause-row
has-requires-clause-row c = omega (
  arith,
  row_room c.args.form.now.rows c.args.form.now.width c.args.r c.if-r-form.false,
  c.requires.form.words,
)

pub returns-then-r-form-clause-symbol : goal.returns-then-r-form-clause-symbol
returns-then-r-form-clause-symbol c t lt =
    sym (ap (bit_xor (byte_in c.args.len c.args.symbols.now t c.args.p))
    (product_none 0 bit_xor byte_laws c.args.end (λ d. ltb c.args.p d && bits_in c.args.form.now
    c.args.r d) (byte_in c.args.len c.args.symbols.now t)
    (λ d lt2. ap (λ b. ltb c.args.p d && b) (bits_past c.args.form.now.rows c.args.form.now.width
    c.args.r
    c.args.form.now.words.now c.requires.form.words c.if-r-form.true d) ∙ and_no (ltb c.args.p d)))
    ∙ right 0 bit_xor byte_laws _)

pub add_symbol_within-requires-clause-c : goal.add_symbol_within-requires-clause-c
add_symbol_within-requires-clause-c c =
    omega (
      arith,
      row_room c.args.end c.args.len c.loop-c.c (omega (arith, c.loop-c-test.true)),
      c.loop-c.auto.symbols,
      c.requires.symbols,
    )

pub loop-c-preserved : goal.loop-c-preserved
loop-c-preserved c =
    let n : ℕ = c.args.len in
    let p : ℕ = c.args.p in
    let d : ℕ = c.loop-c.c in
    let i = c.loop-c.invariant in
    let first : List ℕ = c.args.symbols.now in
    let mask : ℕ → Bool = λ e. ltb p e && bits_in c.args.form.now c.args.r e in
    let behind : p < d = omega (arith, c.loop-c.auto.c) in
    let masks : mask d ≡ bits_in c.args.form.now c.args.r d = rw (lt-ltb p d behind)
    refl in
    elim c.if-has.branch [
      | then-has w ↦ record {
        symbol = λ t lt. product_step 0 bit_xor byte_laws d mask (byte_in n first t)
            (byte_in n first t p) (byte_in n c.loop-c.symbols t p) (byte_in n c.if-has.symbols t p)
            (i.symbol t lt)
            (ap (λ xs. byte_in n xs t p) w.symbols-is ∙ w.add_symbol_within.ensures.symbol t lt
            ∙ ap (bit_xor (byte_in n c.loop-c.symbols t p))
            (i.others d t (λ e. omega (arith, e, behind)) lt)
            ∙ ap (λ b. bit_xor (byte_in n c.loop-c.symbols t p) (cond b (byte_in n first t d) 0))
            (sym (masks ∙ sym c.has.ensures ∙ w.if-has.true)));
        others = λ q t ne lt. ap (λ xs. byte_in n xs t q) w.symbols-is
            ∙ w.add_symbol_within.ensures.others q t ne lt ∙ i.others q t ne lt;
      }
      | else-has w ↦ record {
        symbol = λ t lt. product_step 0 bit_xor byte_laws d mask (byte_in n first t)
            (byte_in n first t p) (byte_in n c.loop-c.symbols t p) (byte_in n c.if-has.symbols t p)
            (i.symbol t lt)
            (ap (λ xs. byte_in n xs t p) w.symbols-is
            ∙ sym (right 0 bit_xor byte_laws (byte_in n c.loop-c.symbols t p))
            ∙ ap (λ b. bit_xor (byte_in n c.loop-c.symbols t p) (cond b (byte_in n first t d) 0))
            (sym (masks ∙ sym c.has.ensures ∙ w.if-has.false)));
        others = λ q t ne lt. ap (λ xs. byte_in n xs t q) w.symbols-is ∙ i.others q t ne lt;
      }
    ]

pub returns-clause-symbol : goal.returns-clause-symbol
returns-clause-symbol c t lt =
    let is : c.loop-c.c ≡ c.args.end =
    omega (arith, c.loop-c-test.false, c.loop-c.auto.c-end, c.requires.p) in
    (rw is at c.loop-c.invariant.symbol) t lt

pub returns-clause-others : goal.returns-clause-others
returns-clause-others c q t ne lt = c.loop-c.invariant.others q t ne lt
