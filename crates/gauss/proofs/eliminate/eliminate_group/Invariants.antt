use Rattle.std.proofs.Common.{◌≡◌, ◌*◌, ℕ, false, length}
use Rattle.sparse_rows.specs.Closure.{Set}
use Rattle.gauss.specs.Packed.{bits_of}
use Rattle.gauss.specs.Table.{virtual_in}
use Rattle.gauss.specs.Elimination.{IsStageIn}
use Rattle.gauss.proofs.eliminate.eliminate_group.Given as goal

abbrev pub invariant-loop-unknown : goal.invariant-loop-unknown
invariant-loop-unknown l = record {
  zero : (c : ℕ) → bits_of l.group.width l.table 0 c ≡ false;
  stage : (first : ℕ → Set) → IsStageIn l.group.unknowns (length l.fn.leads) (l.group.number * 8)
      first (bits_of l.group.width l.fn.words) l.fn.pivots l.fn.leads
      → IsStageIn l.group.unknowns (length l.fn.leads) l.unknown first
      (virtual_in l.group l.words l.table l.leads) l.pivots l.leads;
}
