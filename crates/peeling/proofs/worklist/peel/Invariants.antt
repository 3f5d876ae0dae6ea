use Rattle.std.proofs.Common.{◌≡◌, ◌<◌, ◌≤◌, ◌+◌, ◌-◌, ◌*◌, length, take, get_or}
use Rattle.std.specs.Vec.{vec_capacity}
use Rattle.sparse_rows.specs.Closure.{flagged}
use Rattle.sparse_rows.specs.Columns.{entries}
use Rattle.sparse_rows.specs.Codeword.{symbol_at}
use Rattle.peeling.specs.Peeled.{unset_count}
use Rattle.peeling.specs.Worklist.{with_all, IsWorked, IsListed}
use Rattle.peeling.proofs.worklist.peel.Given as goal

abbrev pub invariant-loop-head : goal.invariant-loop-head
invariant-loop-head g l = record {
  worked : IsWorked l.code (length l.bytes) (flagged l.fn.known) (flagged l.initial.known)
      (symbol_at (length l.bytes) (take l.code.n l.initial.symbols))
      (λ row. with_all (flagged l.fn.known) (take l.head l.fresh.items)) l.known l.symbols l.rows
      l.holds;
  listed : IsListed (flagged l.fn.known) l.fresh.items (flagged l.known);
  some : 0 < length l.fresh.items;
  first : get_or l.fresh.items 0 0 ≡ l.e;
  head : l.head ≤ length l.fresh.items;
  count : length l.fresh.items + unset_count l.known ≡ unset_count l.fn.known;
  room : vec_capacity l.fresh ≡ vec_capacity l.fn.fresh;
  rises : l.fn.steps ≤ l.steps;
  steps : l.steps + 2 * entries l.code (flagged l.fn.known) ≡ l.fn.steps + 2 * entries l.code
      (with_all (flagged l.fn.known) (take l.head l.fresh.items));
}

abbrev pub decreases-loop-head : goal.decreases-loop-head
decreases-loop-head g l = length l.fresh.items + unset_count l.known - l.head
