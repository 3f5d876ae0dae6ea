use Rattle.std.proofs.Common.{◌≡◌, replicate}
use Rattle.symbol_arena.proofs.block.filled.Given as goal

abbrev pub invariant-loop-i : goal.invariant-loop-i
invariant-loop-i l = record {
  written : l.memory.written ≡ replicate l.i 0;
  size : l.memory.size ≡ l.initial.memory.size;
  ptr : l.memory.ptr ≡ l.initial.memory.ptr;
}
