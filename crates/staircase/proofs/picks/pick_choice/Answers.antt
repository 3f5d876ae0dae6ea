use Rattle.std.proofs.Common.{rules, arith, refl, sym, ap, ◌∙◌, not}
use Rattle.sparse_rows.specs.Matrix.{has_entry}
use Rattle.staircase.proofs.FirstDraw.{IsSearching-none, search_ends, search_finds, search_goes_on}
use Rattle.staircase.proofs.FirstDraw.{searched}
use Rattle.staircase.proofs.picks.pick_choice.Goals as goal

pub loop-place-init : goal.loop-place-init
loop-place-init c = IsSearching-none _ _ _

pub returns-in_err-place-clause-over : goal.returns-in_err-place-clause-over
returns-in_err-place-clause-over c =
    let none = search_ends _ _ _ _ c.loop-place.invariant (c.in_err-place.ensures.over.0 refl) in
    search rules

pub returns-in_err-place-clause-drawn : goal.returns-in_err-place-clause-drawn
returns-in_err-place-clause-drawn c = let h = c.in_err-place.ensures.unchanged in
    rw h c.loop-place.invariant.drawn

pub returns-then-not-has-clause-picked : goal.returns-then-not-has-clause-picked
returns-then-not-has-clause-picked c = search_finds _ _ _ _ c.loop-place.invariant _ _
    (record {
      scaled = rw c.len.ensures.value at c.in_ok-place.ensures.value;
      state = c.in_ok-place.ensures.state;
      used = c.in_ok-place.ensures.used;
      limit = c.draw.ensures.limit;
      within = c.draw.ensures.within_limit;
    })
    (ap not (ap (λ r. has_entry c.args.rows.now r c.args.c) (sym c.row.ensures.value)
    ∙ sym c.has.ensures ∙ c.if-not-has.true))

pub returns-then-not-has-clause-drawn : goal.returns-then-not-has-clause-drawn
returns-then-not-has-clause-drawn c = searched _ _ _ _ c.loop-place.invariant _ _
    (record {
      scaled = rw c.len.ensures.value at c.in_ok-place.ensures.value;
      state = c.in_ok-place.ensures.state;
      used = c.in_ok-place.ensures.used;
      limit = c.draw.ensures.limit;
      within = c.draw.ensures.within_limit;
    })

pub loop-place-smaller : goal.loop-place-smaller
loop-place-smaller c = omega (
  arith,
  c.in_ok-place.ensures.used,
  c.draw.ensures.limit,
  c.draw.ensures.within_limit,
)

pub loop-place-preserved : goal.loop-place-preserved
loop-place-preserved c = search_goes_on _ _ _ _ c.loop-place.invariant _ _
    (record {
      scaled = rw c.len.ensures.value at c.in_ok-place.ensures.value;
      state = c.in_ok-place.ensures.state;
      used = c.in_ok-place.ensures.used;
      limit = c.draw.ensures.limit;
      within = c.draw.ensures.within_limit;
    })
    (ap not (ap (λ r. has_entry c.args.rows.now r c.args.c) (sym c.row.ensures.value)
    ∙ sym c.has.ensures ∙ c.if-not-has.false))
