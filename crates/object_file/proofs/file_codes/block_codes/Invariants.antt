use Rattle.std.proofs.Common.{◌≡◌, length}
use Rattle.object_file.proofs.Copied.{AreCopied}
use Rattle.object_file.proofs.file_codes.block_codes.Given as goal

abbrev pub invariant-loop-block : goal.invariant-loop-block
invariant-loop-block l = record {
  counted : length l.codes.items ≡ l.block;
  copied : AreCopied l.header l.sizes.items l.codes.items;
}
