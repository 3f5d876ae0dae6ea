use Rattle.std.proofs.Common.{rules, arith, refl, sym, ap, ◌∙◌, not}
use Rattle.staircase.proofs.FirstDraw.{IsSearching-none, search_ends, search_finds, search_goes_on}
use Rattle.staircase.proofs.FirstDraw.{searched}
use Rattle.staircase.proofs.picks.pick_column.Goals as goal

pub loop-column-init : goal.loop-column-init
loop-column-init c = IsSearching-none _ _ _

pub returns-in_err-column-clause-over : goal.returns-in_err-column-clause-over
returns-in_err-column-clause-over c =
    let none = search_ends _ _ _ _ c.loop-column.invariant (c.in_err-column.ensures.over.0 refl) in
    search rules

pub returns-in_err-column-clause-drawn : goal.returns-in_err-column-clause-drawn
returns-in_err-column-clause-drawn c = let h = c.in_err-column.ensures.unchanged in
    rw h c.loop-column.invariant.drawn

pub returns-then-not-has-clause-picked : goal.returns-then-not-has-clause-picked
returns-then-not-has-clause-picked c = search_finds _ _ _ _ c.loop-column.invariant _ _
    (record {
      scaled = c.in_ok-column.ensures.value;
      state = c.in_ok-column.ensures.state;
      used = c.in_ok-column.ensures.used;
      limit = c.draw.ensures.limit;
      within = c.draw.ensures.within_limit;
    }) (ap not (sym c.has.ensures ∙ c.if-not-has.true))

pub returns-then-not-has-clause-drawn : goal.returns-then-not-has-clause-drawn
returns-then-not-has-clause-drawn c = searched _ _ _ _ c.loop-column.invariant _ _
    (record {
      scaled = c.in_ok-column.ensures.value;
      state = c.in_ok-column.ensures.state;
      used = c.in_ok-column.ensures.used;
      limit = c.draw.ensures.limit;
      within = c.draw.ensures.within_limit;
    })

pub loop-column-smaller : goal.loop-column-smaller
loop-column-smaller c = omega (
  arith,
  c.in_ok-column.ensures.used,
  c.draw.ensures.limit,
  c.draw.ensures.within_limit,
)

pub loop-column-preserved : goal.loop-column-preserved
loop-column-preserved c = search_goes_on _ _ _ _ c.loop-column.invariant _ _
    (record {
      scaled = c.in_ok-column.ensures.value;
      state = c.in_ok-column.ensures.state;
      used = c.in_ok-column.ensures.used;
      limit = c.draw.ensures.limit;
      within = c.draw.ensures.within_limit;
    }) (ap not (sym c.has.ensures ∙ c.if-not-has.false))
