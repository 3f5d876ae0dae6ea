use Rattle.std.proofs.Common.{◌≡◌, ℕ, cond, length, get_or, sym, ap, ◌∙◌, subst, bit_xor}
use Rattle.std.proofs.Common.{arith}
use Rattle.std.proofs.lemmas.List.{get_or_default}
use Rattle.sparse_rows.proofs.Algebra.{right}
use Rattle.sparse_rows.proofs.Planes.{byte_laws}
use Rattle.gauss.specs.Packed.{sum_byte}
use Rattle.gauss.specs.Echelon.{AreSums, bits_in, pivots_in, unknowns_in}
use Rattle.gauss.proofs.Growing.{product_step}
use Rattle.gauss.proofs.Words.{row_room}
use Rattle.gauss.proofs.clash.add_pivot_sums.Goals as goal
use Rattle.gauss.proofs.clash.add_pivot_sums.Goals.{then-has, else-has}

pub loop-p-init : goal.loop-p-init
loop-p-init c t lt = sym (right 0 bit_xor byte_laws (get_or c.args.sum.now t 0))

pub add_row_sum-requires-clause-sums : goal.add_row_sum-requires-clause-sums
add_row_sum-requires-clause-sums c = subst (λ n. AreSums c.args.form.now.rows n c.args.sums.now)
    (sym c.loop-p.auto.sum) c.requires.sums

pub has-requires-clause-row : goal.has-requires-clause-row
has-requires-clause-row c =
    omega (
      arith,
      row_room c.args.form.now.rows c.args.form.now.width c.args.r c.requires.row,
      c.requires.form.words,
    )

pub loop-p-preserved : goal.loop-p-preserved
loop-p-preserved c t lt =
    let n : ℕ = length c.args.sum.now in
    let p : ℕ = c.loop-p.p in
    let mask = bits_in c.args.form.now c.args.r in
    let x : ℕ → ℕ = λ q. sum_byte c.args.sums.now t (pivots_in c.args.form.now q) in
    let row_is : get_or c.args.form.now.pivots.now p 0 ≡ pivots_in c.args.form.now p =
    get_or_default c.args.form.now.pivots.now p 0 c.args.form.now.rows
    (omega (arith, c.loop-p-test.true, c.loop-p.auto.p-end)) in
    let step = product_step 0 bit_xor byte_laws p mask x (get_or c.args.sum.now t 0)
    (get_or c.loop-p.sum t 0) (get_or c.if-has.sum t 0) (c.loop-p.invariant t lt) in
    elim c.if-has.branch [
      | then-has w ↦ step (ap (λ xs. get_or xs t 0) w.sum-is
          ∙ w.add_row_sum.ensures t (omega (arith, lt, c.loop-p.auto.sum))
          ∙ ap (λ k. bit_xor (get_or c.loop-p.sum t 0) (sum_byte c.args.sums.now t k)) row_is
          ∙ ap (λ b. bit_xor (get_or c.loop-p.sum t 0) (cond b (x p) 0))
          (sym (sym c.has.ensures ∙ w.if-has.true)))
      | else-has w ↦ step (ap (λ xs. get_or xs t 0) w.sum-is
          ∙ sym (right 0 bit_xor byte_laws (get_or c.loop-p.sum t 0))
          ∙ ap (λ b. bit_xor (get_or c.loop-p.sum t 0) (cond b (x p) 0))
          (sym (sym c.has.ensures ∙ w.if-has.false)))
    ]

pub returns : goal.returns
returns c t lt =
    let is : c.loop-p.p ≡ unknowns_in c.args.form.now =
    omega (arith, c.loop-p-test.false, c.loop-p.auto.p-end) in
    rw is at (c.loop-p.invariant t lt)
