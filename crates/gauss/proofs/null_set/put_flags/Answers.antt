use Rattle.std.proofs.Common.{◌≡◌, ◌≢◌, ◌-◌, ◌<◌, ℕ, List, Bool, false, length, get_or, set, ⊎_elim}
use Rattle.std.proofs.Common.{sym, ◌∙◌, subst, arith, get_or-set_same, get_or-set_other}
use Rattle.std.proofs.Math.Bool.{xor as bool_xor}
use Rattle.std.proofs.lemmas.Bool.{cases_eq}
use Rattle.std.proofs.lemmas.List.{get_or_default}
use Rattle.sparse_rows.specs.Closure.{flagged}
use Rattle.sparse_rows.proofs.Parity.{bit_laws}
use Rattle.gauss.specs.Elimination.{behind, product}
use Rattle.gauss.specs.Echelon.{bits_in, pivots_in, unknowns_in}
use Rattle.gauss.proofs.Words.{row_room}
use Rattle.gauss.proofs.Substituting.{product_behind, behind_same}
use Rattle.gauss.proofs.null_set.put_flags.Goals as goal

pub is_odd-requires-clause-row : goal.is_odd-requires-clause-row
is_odd-requires-clause-row c =
    let p : ℕ = c.args.free - 1 - c.loop-k.k in
    let row : ℕ = get_or c.args.form.now.pivots.now p 0 in
    let is : row ≡ pivots_in c.args.form.now p = get_or_default c.args.form.now.pivots.now p 0
    c.args.form.now.rows (omega (arith, c.loop-k-test.true, c.requires.free.below)) in
    let low : row < c.args.form.now.rows = omega
    (arith, is, c.requires.free.others p (omega (arith, c.loop-k-test.true))) in
    omega (
      arith,
      row_room c.args.form.now.rows c.args.form.now.width row low,
      c.requires.form.words,
    )

pub loop-k-preserved : goal.loop-k-preserved
loop-k-preserved c =
    let f : ℕ = c.args.free in
    let p : ℕ = f - 1 - c.loop-k.k in
    let u : ℕ = unknowns_in c.args.form.now in
    let flags : List Bool = c.loop-k.flags in
    let now : List Bool = set flags p c.is_odd.result in
    let bits = bits_in c.args.form.now in
    let rows = pivots_in c.args.form.now in
    let low : p < f = omega (arith, c.loop-k-test.true) in
    let count : length flags ≡ u = omega (arith, c.loop-k.auto.flags, c.requires.count) in
    let other : (d : ℕ) → d ≢ p → flagged now d ≡ flagged flags d = λ d ne. get_or-set_other flags p
    d c.is_odd.result false ne in
    let row_is : get_or c.args.form.now.pivots.now p 0 ≡ rows p = get_or_default
    c.args.form.now.pivots.now p 0
    c.args.form.now.rows (omega (arith, c.requires.free.below)) in
    let value : c.is_odd.result ≡ product false bool_xor u (bits (rows p)) (flagged flags) =
    subst (λ k. c.is_odd.result ≡ product false bool_xor u (bits k) (flagged flags)) row_is
    (subst (λ n. c.is_odd.result ≡ product false bool_xor n
    (bits (get_or c.args.form.now.pivots.now p 0)) (flagged flags)) count c.is_odd.ensures) in
    let at : flagged now p ≡ product false bool_xor u (behind bits rows p) (flagged now) =
    get_or-set_same flags p c.is_odd.result false (omega (arith, count, c.requires.free.below))
    ∙ value
    ∙ product_behind false bool_xor bit_laws u p (bits (rows p)) (flagged flags)
    (λ d le. c.loop-k.invariant.before d (omega arith) (omega (arith, c.loop-k-test.true)))
    ∙ behind_same false bool_xor bit_laws u p (bits (rows p)) (flagged flags) (flagged now)
    (λ d gt lt. sym (other d (λ e. omega (arith, e)))) in
    record {
      free = other f (λ e. omega (arith, e)) ∙ c.loop-k.invariant.free;
      past = λ d lt. other d (λ e. omega (arith, e)) ∙ c.loop-k.invariant.past d lt;
      before = λ d lt room. other d (λ e. omega (arith, e)) ∙ c.loop-k.invariant.before d lt
          (omega arith);
      back = λ q lt le. ⊎_elim (λ e. subst (λ k. flagged now k ≡ product false bool_xor u
          (behind bits rows k) (flagged now)) (sym e) at)
          (λ ne. other q ne ∙ c.loop-k.invariant.back q lt (omega (arith, ne))
          ∙ behind_same false bool_xor bit_laws u q (bits (rows q)) (flagged flags)
          (flagged now) (λ d gt lt2. sym (other d (λ e. omega (arith, e, ne))))) (cases_eq q p);
    }
