use Rattle.std.proofs.Common.{◌≡◌, ◌+◌, ◌*◌, ◌&&◌, ℕ, Bool, true, false, List, length, take}
use Rattle.std.specs.Vec.{vec_capacity}
use Rattle.sparse_rows.specs.Closure.{Set, flagged}
use Rattle.sparse_rows.specs.Columns.{column_of}
use Rattle.peeling.specs.Peeled.{unset_count}
use Rattle.peeling.specs.Worklist.{seen_by, IsWorked, IsListed}
use Rattle.peeling.proofs.worklist.work_off.Given as goal

abbrev pub invariant-loop-i : goal.invariant-loop-i
invariant-loop-i g l = record {
  known : flagged l.known l.c ≡ true;
  worked : (len : ℕ) (done before base : Set) (x : ℕ → List ℕ) (held : Bool) → done l.c ≡ false
      → IsWorked l.code len before base x (λ row. done) l.initial.known l.initial.symbols
      l.initial.rows held
      → IsWorked l.code len before base x (seen_by (take l.i (column_of l.code l.c)) l.c done)
      l.known l.symbols l.rows (held && l.holds);
  listed : (before : Set) → IsListed before l.initial.fresh.items (flagged l.initial.known)
      → IsListed before l.fresh.items (flagged l.known);
  front : take (length l.initial.fresh.items) l.fresh.items ≡ l.initial.fresh.items;
  count : length l.fresh.items + unset_count l.known ≡ length l.initial.fresh.items + unset_count
      l.initial.known;
  room : vec_capacity l.fresh ≡ vec_capacity l.initial.fresh;
  steps : l.steps ≡ l.initial.steps + 2 * l.i;
}
