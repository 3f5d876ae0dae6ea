use Rattle.std.proofs.Common.{rules, arith, Some, sym, ap, ap₂, ◌∙◌}
use Rattle.std.proofs.lemmas.Result.{IfOk-weaker, on_err_weaker}
use Rattle.sparse_rows.specs.Matrix.{has_entry, with_entry}
use Rattle.staircase.specs.Choices.{blocked_count, filling}
use Rattle.staircase.proofs.Blocked.{blocked_without}
use Rattle.staircase.proofs.Turns.{turn_from_rest, turn_from_rest_over, turn_from_rows}
use Rattle.staircase.proofs.Turns.{turn_from_rows_over}
use Rattle.staircase.proofs.left_side.choose_row.Goals as goal

pub returns-in_err-place-clause-over : goal.returns-in_err-place-clause-over
returns-in_err-place-clause-over c =
    let over = turn_from_rest_over c.args.rows.now c.args.choices.now.list c.args.g.now c.args.c
    (omega (arith, c.len.ensures.value, c.requires.blocked)) c.in_err-place.ensures.over in
    search rules

pub returns-in_ok-place-clause-turn : goal.returns-in_ok-place-clause-turn
returns-in_ok-place-clause-turn c =
    turn_from_rest c.args.rows.now c.args.choices.now.list c.args.g.now c.args.c
    (omega (arith, c.len.ensures.value, c.requires.blocked)) c.in_ok-place.place
    c.pick_choice.new.g c.in_ok-place.ensures.picked
    ∙ ap₂ (λ r choices. Some (filling (with_entry c.args.rows.now r c.args.c) choices
    c.pick_choice.new.g)) (sym c.take.ensures.value) (sym c.take.ensures.rest)

pub returns-in_ok-place-clause-blocked : goal.returns-in_ok-place-clause-blocked
returns-in_ok-place-clause-blocked c =
    ap (λ choices. blocked_count c.args.rows.now c.args.c choices.list) c.take.ensures.rest
    ∙ blocked_without c.args.rows.now c.args.c c.args.choices.now.list c.in_ok-place.place
    c.in_ok-place.ensures.below c.in_ok-place.ensures.free ∙ sym c.requires.blocked

pub returns-in_ok-place-clause-free : goal.returns-in_ok-place-clause-free
returns-in_ok-place-clause-free c = ap (λ r. has_entry c.args.rows.now r c.args.c)
    c.take.ensures.value ∙ c.in_ok-place.ensures.free

pub returns-else-blocked-len-clause-turn : goal.returns-else-blocked-len-clause-turn
returns-else-blocked-len-clause-turn c =
    IfOk-weaker c.pick_row.result _ _ (λ r picked. turn_from_rows c.args.rows.now
    c.args.choices.now.list c.args.g.now c.args.c
    (omega (arith, c.len.ensures.value, c.requires.blocked)) c.row_count.result
    (c.row_count.ensures.value ∙ c.requires.rows) r c.pick_row.new.g picked)
    c.pick_row.ensures.picked

pub returns-else-blocked-len-clause-over : goal.returns-else-blocked-len-clause-over
returns-else-blocked-len-clause-over c =
    on_err_weaker c.pick_row.result (turn_from_rows_over c.args.rows.now c.args.choices.now.list
    c.args.g.now c.args.c (omega (arith, c.len.ensures.value, c.requires.blocked))
    c.row_count.result (c.row_count.ensures.value ∙ c.requires.rows)) c.pick_row.ensures.over
