use Rattle.std.proofs.Common.{◌≡◌, map, take}
use Rattle.std.specs.List.{range_with_len}
use Rattle.one_block.proofs.sender.packets_of.Given as goal

abbrev pub invariant-loop-esi : goal.invariant-loop-esi
invariant-loop-esi l = record {
  bytes : map (λ p. p.bytes.items) l.packets.items ≡ take l.esi l.word;
  identifiers : map (λ p. p.esi) l.packets.items ≡ range_with_len 0 l.esi;
}
