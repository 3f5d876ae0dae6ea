use Rattle.std.proofs.Common.{◌≡◌, vec_capacity}
use Rattle.std.specs.List.{range_with_len}
use Rattle.loss_runs.proofs.sending.sending_order.Given as goal

abbrev pub invariant-loop-e : goal.invariant-loop-e
invariant-loop-e l = record {
  order : l.list.items ≡ range_with_len 0 l.e;
  room : vec_capacity l.list ≡ l.n;
}
