use Rattle.std.proofs.Common.{◌∙◌, sym, map, drop}
use Rattle.tool_base.proofs.Fitting.{misfit, none_given, some_given}
use Rattle.tool_base.proofs.options.read_options.Goals as goal

pub returns-then-values_fit : goal.returns-then-values_fit
returns-then-values_fit c =
    some_given c.args.options.now (drop 1 (map (λ w. w.now) c.args.words.now)) c.in-Some.matches
    (rw c.in-Some.is at c.in_ok-matches.ensures) (sym c.values_fit.ensures ∙ c.if-values_fit.true)

pub returns-in-Some : goal.returns-in-Some
returns-in-Some c =
    misfit c.args.options.now (drop 1 (map (λ w. w.now) c.args.words.now)) c.in-Some.matches
    (rw c.in-Some.is at c.in_ok-matches.ensures) (sym c.values_fit.ensures ∙ c.if-values_fit.false)

pub returns : goal.returns
returns c = none_given c.args.options.now (drop 1 (map (λ w. w.now) c.args.words.now))
    (rw c.in-None.is at c.in_ok-matches.ensures)
