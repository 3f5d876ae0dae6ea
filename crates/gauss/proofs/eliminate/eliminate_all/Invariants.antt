use Rattle.std.proofs.Common.{◌≡◌, ◌≤◌, ◌*◌, ◌⊎◌, ◌-◌, ℕ, length}
use Rattle.sparse_rows.specs.Closure.{Set}
use Rattle.gauss.specs.Packed.{bits_of}
use Rattle.gauss.specs.Elimination.{IsStageIn}
use Rattle.gauss.proofs.eliminate.eliminate_all.Given as goal

abbrev pub invariant-loop-start : goal.invariant-loop-start
invariant-loop-start l = record {
  most : l.start ≤ length l.initial.pivots;
  group : (l.start ≡ length l.initial.pivots) ⊎ ((g : ℕ) × (l.start ≡ 8 * g));
  stage : (first : ℕ → Set) → IsStageIn (length l.initial.pivots) (length l.initial.leads) 0 first
      (bits_of l.width l.initial.words) l.initial.pivots l.initial.leads
      → IsStageIn (length l.initial.pivots) (length l.initial.leads) l.start first
      (bits_of l.width l.words) l.pivots l.leads;
}

abbrev pub decreases-loop-start : goal.decreases-loop-start
decreases-loop-start l = length l.pivots - l.start
