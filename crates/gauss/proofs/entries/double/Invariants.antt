use Rattle.std.proofs.Common.{◌≡◌, ◌<◌, ◌+◌, ◌^◌, ℕ, cond, bit_xor, ltb}
use Rattle.gauss.specs.Packed.{byte_in}
use Rattle.gauss.proofs.entries.double.Given as goal

abbrev pub invariant-loop-b : goal.invariant-loop-b
invariant-loop-b l = record {
  half : l.half ≡ 2 ^ l.bit;
  made : (d t : ℕ) → d < l.b → t < l.len → byte_in l.len l.table t (l.half + d)
      ≡ bit_xor (byte_in l.len l.initial.table t d)
      (cond (ltb l.unknown l.unknowns) (byte_in l.len l.symbols t l.unknown) 0);
  kept : (d t : ℕ) → d < l.half → t < l.len
      → byte_in l.len l.table t d ≡ byte_in l.len l.initial.table t d;
}
