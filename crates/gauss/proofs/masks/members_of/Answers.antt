use Rattle.std.proofs.Common.{◌++◌, ◌∷◌, [], ℕ, cond, sym, ap, ◌∙◌, append-nil, subst, arith}
use Rattle.std.specs.List.Sorted.{IsStrictlyIncreasing}
use Rattle.sparse_rows.specs.Closure.{Set, members}
use Rattle.sparse_rows.proofs.Null.{members_rise}
use Rattle.gauss.specs.Masks.{set_of}
use Rattle.gauss.proofs.Lists.{members_more}
use Rattle.gauss.proofs.Words.{row_room}
use Rattle.gauss.proofs.masks.members_of.Goals as goal
use Rattle.gauss.proofs.masks.members_of.Goals.{then-holds_at+in_ok-push, else-holds_at}

pub holds_at-requires-clause-unknown : goal.holds_at-requires-clause-unknown
holds_at-requires-clause-unknown c =
    omega (
      arith,
      row_room c.args.unknowns c.args.stride c.loop-c.c c.loop-c-test.true,
      c.requires.masks,
    )

pub loop-c-preserved : goal.loop-c-preserved
loop-c-preserved c =
    let w0 : Set = set_of c.args.stride c.args.masks.now c.args.i in
    let n : ℕ = c.loop-c.c in
    elim c.if-holds_at.branch [
      | then-holds_at+in_ok-push w ↦ ap (λ v. v.items) w.set-is ∙ w.in_ok-push.ensures.items
          ∙ ap (λ xs. xs ++ n ∷ []) c.loop-c.invariant
          ∙ ap (λ b. members n w0 ++ cond b (n ∷ []) [])
          (sym (sym c.holds_at.ensures ∙ w.if-holds_at.true)) ∙ sym (members_more n w0)
      | else-holds_at w ↦ ap (λ v. v.items) w.set-is ∙ c.loop-c.invariant
          ∙ sym (append-nil (members n w0)) ∙ ap (λ b. members n w0 ++ cond b (n ∷ []) [])
          (sym (sym c.holds_at.ensures ∙ w.if-holds_at.false)) ∙ sym (members_more n w0)
    ]

pub new-requires : goal.new-requires
new-requires c = subst IsStrictlyIncreasing (sym (c.deref.ensures.value ∙ c.loop-c.invariant))
    (members_rise c.loop-c.c (set_of c.args.stride c.args.masks.now c.args.i))
