use Rattle.object_file.proofs.Building.{AreBuilt}
use Rattle.object_file.proofs.file_codes.build_codes.Given as goal

abbrev pub invariant-loop-block : goal.invariant-loop-block
invariant-loop-block l = AreBuilt l.header l.draws l.block l.codes.items
