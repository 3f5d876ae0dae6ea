use Rattle.std.proofs.Common.{◌≡◌, ◌≤◌, ◌<◌, ◌+◌, ◌*◌, ℕ, get_or}
use Rattle.gauss.specs.Packed.{bits_of}
use Rattle.gauss.specs.Table.{virtual}
use Rattle.gauss.proofs.table.apply.Given as goal

abbrev pub invariant-loop-r : goal.invariant-loop-r
invariant-loop-r l = record {
  done : (j c : ℕ) → j < l.r → bits_of l.group.width l.words j c ≡ virtual l.group.unknowns
      l.group.width l.group.number
      l.initial.words l.table l.leads j c;
  rest : (j q : ℕ) → l.r ≤ j → q < l.group.width → get_or l.words (j * l.group.width + q) 0
      ≡ get_or l.initial.words (j * l.group.width + q) 0;
}
