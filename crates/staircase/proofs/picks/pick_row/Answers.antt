use Rattle.std.proofs.Common.{rules, arith, refl, sym, ap, ◌∙◌, not}
use Rattle.staircase.proofs.FirstDraw.{IsSearching-none, search_ends, search_finds, search_goes_on}
use Rattle.staircase.proofs.FirstDraw.{searched}
use Rattle.staircase.proofs.picks.pick_row.Goals as goal

pub loop-row-init : goal.loop-row-init
loop-row-init c = IsSearching-none _ _ _

pub returns-in_err-row-clause-over : goal.returns-in_err-row-clause-over
returns-in_err-row-clause-over c =
    let none = search_ends _ _ _ _ c.loop-row.invariant (c.in_err-row.ensures.over.0 refl) in
    search rules

pub returns-in_err-row-clause-drawn : goal.returns-in_err-row-clause-drawn
returns-in_err-row-clause-drawn c = let h = c.in_err-row.ensures.unchanged in
    rw h c.loop-row.invariant.drawn

pub returns-then-not-has-clause-picked : goal.returns-then-not-has-clause-picked
returns-then-not-has-clause-picked c = search_finds _ _ _ _ c.loop-row.invariant _ _
    (record {
      scaled = c.in_ok-row.ensures.value;
      state = c.in_ok-row.ensures.state;
      used = c.in_ok-row.ensures.used;
      limit = c.draw.ensures.limit;
      within = c.draw.ensures.within_limit;
    }) (ap not (sym c.has.ensures ∙ c.if-not-has.true))

pub returns-then-not-has-clause-drawn : goal.returns-then-not-has-clause-drawn
returns-then-not-has-clause-drawn c = searched _ _ _ _ c.loop-row.invariant _ _
    (record {
      scaled = c.in_ok-row.ensures.value;
      state = c.in_ok-row.ensures.state;
      used = c.in_ok-row.ensures.used;
      limit = c.draw.ensures.limit;
      within = c.draw.ensures.within_limit;
    })

pub loop-row-smaller : goal.loop-row-smaller
loop-row-smaller c = omega (
  arith,
  c.in_ok-row.ensures.used,
  c.draw.ensures.limit,
  c.draw.ensures.within_limit,
)

pub loop-row-preserved : goal.loop-row-preserved
loop-row-preserved c = search_goes_on _ _ _ _ c.loop-row.invariant _ _
    (record {
      scaled = c.in_ok-row.ensures.value;
      state = c.in_ok-row.ensures.state;
      used = c.in_ok-row.ensures.used;
      limit = c.draw.ensures.limit;
      within = c.draw.ensures.within_limit;
    }) (ap not (sym c.has.ensures ∙ c.if-not-has.false))
