use Rattle.tool_laws.proofs.CleanEncodes.{encoded}
use Rattle.tool_laws.proofs.laws.objects_are_encoded.Goals as goal

pub returns : goal.returns
returns c o object code before after ended header codes known clean run =
    encoded o object code before after header codes known clean ended run
