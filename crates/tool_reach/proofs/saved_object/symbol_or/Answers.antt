use Rattle.std.proofs.Common.{length, sym, ◌∙◌}
use Rattle.tool_reach.proofs.Words.{symbol_open, symbol_saved}
use Rattle.tool_reach.proofs.saved_object.symbol_or.Goals as goal

pub returns-in-Some-clause-value : goal.returns-in-Some-clause-value
returns-in-Some-clause-value c = c.in-Some.ensures.1
    ∙ sym (symbol_saved (length c.args.zeros.now) c.args.partial.now c.args.e c.in-Some.ensures.0)

pub returns-in-None-clause-value : goal.returns-in-None-clause-value
returns-in-None-clause-value c = c.requires.zeros
    ∙ sym (symbol_open (length c.args.zeros.now) c.args.partial.now c.args.e c.in-None.ensures)
