use Rattle.std.proofs.Common.{sym}
use Rattle.tool_reach.proofs.Words.{no_word, some_word}
use Rattle.tool_reach.proofs.surveying.is_determined.Goals as goal

pub returns-in-Some : goal.returns-in-Some
returns-in-Some c = sym (no_word _ c.in-Some.ensures.0)

pub returns-in-None : goal.returns-in-None
returns-in-None c = sym (some_word _ c.in-None.ensures)
