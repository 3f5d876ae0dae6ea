use Rattle.std.proofs.Common.{◌≡◌, ◌≤◌, ◌<◌, ◌%◌, ◌==◌, ℕ, cond}
use Rattle.std.specs.Int.{bit_at}
use Rattle.std.proofs.Math.Bool.{xor as bool_xor}
use Rattle.gauss.specs.Packed.{bits_of}
use Rattle.gauss.proofs.table.update.Given as goal

abbrev pub invariant-loop-byte : goal.invariant-loop-byte
invariant-loop-byte l = record {
  done : (b c : ℕ) → b < l.byte → bits_of l.width l.table b c
      ≡ cond (bool_xor (bit_at b (l.unknown % 8) == 1) (bits_of l.width l.initial.table b
      l.unknown)) (bool_xor (bits_of l.width l.initial.table b c) (bits_of l.width l.words l.t c))
      (bits_of l.width l.initial.table b c);
  rest : (b c : ℕ) → l.byte ≤ b → bits_of l.width l.table b c ≡ bits_of l.width l.initial.table b c;
}
