use Rattle.tool_laws.proofs.CleanPerfs.{comes_through}
use Rattle.tool_laws.proofs.laws.codes_are_tried.Goals as goal

pub returns : goal.returns
returns c o built before after ended small builds clean run = comes_through o built before after
    ended small builds clean run
