use Rattle.std.proofs.Common.{◌≡◌, ◌++◌, ◌∷◌, [], ℕ, cond, false, true, get_or, ltb, not, refl, sym}
use Rattle.std.proofs.Common.{ap, ◌∙◌, append-nil, arith}
use Rattle.std.proofs.lemmas.Bool.{le-ltb, lt-ltb}
use Rattle.std.proofs.lemmas.List.{get_or_default}
use Rattle.sparse_rows.specs.Closure.{Set, members}
use Rattle.gauss.specs.Elimination.{pivot_row}
use Rattle.gauss.proofs.Lists.{members_more}
use Rattle.gauss.proofs.masks.without_pivots.Goals as goal
use Rattle.gauss.proofs.masks.without_pivots.Goals.{then-pivots-p+in_ok-push, else-pivots-p}

pub loop-p-preserved : goal.loop-p-preserved
loop-p-preserved c =
    let w0 : Set = λ q. not (ltb (pivot_row c.args.rows c.args.pivots.now q) c.args.rows) in
    let n : ℕ = c.loop-p.p in
    let is : get_or c.args.pivots.now n 0 ≡ pivot_row c.args.rows c.args.pivots.now n =
    get_or_default c.args.pivots.now n 0 c.args.rows c.loop-p-test.true in
    elim c.if-pivots-p.branch [
      | then-pivots-p+in_ok-push w ↦
          let holds : w0 n ≡ true = rw (le-ltb (pivot_row c.args.rows c.args.pivots.now n)
          c.args.rows (omega (arith, is, w.if-pivots-p.true))) refl in
          ap (λ v. v.items) w.free-is ∙ w.in_ok-push.ensures.items
          ∙ ap (λ xs. xs ++ n ∷ []) c.loop-p.invariant
          ∙ ap (λ b. members n w0 ++ cond b (n ∷ []) []) (sym holds) ∙ sym (members_more n w0)
      | else-pivots-p w ↦
          let lacks : w0 n ≡ false = rw (lt-ltb (pivot_row c.args.rows c.args.pivots.now n)
          c.args.rows (omega (arith, is, w.if-pivots-p.false))) refl in
          ap (λ v. v.items) w.free-is ∙ c.loop-p.invariant ∙ sym (append-nil (members n w0))
          ∙ ap (λ b. members n w0 ++ cond b (n ∷ []) []) (sym lacks) ∙ sym (members_more n w0)
    ]
