use Rattle.staircase.proofs.Counted.{IsCircle}
use Rattle.staircase.proofs.choices.Choices.new.Given as goal

abbrev pub invariant-loop-h : goal.invariant-loop-h
invariant-loop-h l = IsCircle l.rows l.h l.items.items l.counts.items
