use Rattle.std.proofs.Common.{◌≡◌, ℕ, ◌+◌, ◌<◌, ◌∷◌, ◌++◌, [], length, ap, sym, ◌∙◌, subst, arith}
use Rattle.std.proofs.Common.{All}
use Rattle.std.specs.List.{range_with_len}
use Rattle.std.proofs.lemmas.List.FromFn.{length-range_with_len}
use Rattle.std.proofs.lemmas.List.Sorted.{All-permutation, length_permutation}
use Rattle.loss_patterns.proofs.Ranges.{range_more}
use Rattle.sparse_rows.proofs.Null.{range_below}
use Rattle.loss_runs.proofs.sending.sending_order.Goals as goal

pub returns-then-random-clause-counted : goal.returns-then-random-clause-counted
returns-then-random-clause-counted c =
    length_permutation (range_with_len 0 c.args.n) c.in_ok-list.list.items
    c.in_ok-list.ensures.permutation
    ∙ length-range_with_len 0 c.args.n

pub returns-then-random-clause-below : goal.returns-then-random-clause-below
returns-then-random-clause-below c =
    All-permutation (λ e. e < c.args.n) (range_with_len 0 c.args.n) c.in_ok-list.list.items
    c.in_ok-list.ensures.permutation (range_below c.args.n)

pub push_reserved-requires : goal.push_reserved-requires
push_reserved-requires c =
    omega (
      arith,
      c.loop-e.invariant.room,
      c.loop-e-test.true,
      ap length c.loop-e.invariant.order,
      length-range_with_len 0 c.loop-e.e,
      c.loop-e.list.ok.0,
    )

pub loop-e-preserved : goal.loop-e-preserved
loop-e-preserved c =
    let e = c.loop-e.e in
    record {
      order = c.push_reserved.ensures.items ∙ ap (λ l. l ++ e ∷ []) c.loop-e.invariant.order
          ∙ ap (λ (k : ℕ). range_with_len 0 e ++ k ∷ []) (let same : e ≡ 0 + e = omega arith in
          same)
          ∙ sym (range_more 0 e);
      room = c.push_reserved.ensures.capacity ∙ c.loop-e.invariant.room;
    }

pub returns-clause-counted : goal.returns-clause-counted
returns-clause-counted c =
    omega (
      arith,
      c.loop-e-test.false,
      ap length c.loop-e.invariant.order,
      length-range_with_len 0 c.loop-e.e,
    )

pub returns-clause-below : goal.returns-clause-below
returns-clause-below c =
    let last : c.loop-e.e ≡ c.args.n = omega (arith, c.loop-e-test.false) in
    subst (All (λ e. e < c.args.n)) (sym (c.loop-e.invariant.order ∙ ap (range_with_len 0) last))
    (range_below c.args.n)
