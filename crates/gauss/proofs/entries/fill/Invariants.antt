use Rattle.std.proofs.Common.{◌≡◌, ◌<◌, ◌^◌, ℕ, bit_xor}
use Rattle.gauss.specs.Packed.{byte_in}
use Rattle.gauss.specs.Groups.{entry}
use Rattle.gauss.proofs.entries.fill.Given as goal

abbrev pub invariant-loop-bit : goal.invariant-loop-bit
invariant-loop-bit l = (b t : ℕ) → b < 2 ^ l.bit → t < l.len
    → byte_in l.len l.table t b ≡ entry 0 bit_xor l.unknowns l.group (byte_in l.len l.symbols t) b
