use Rattle.std.proofs.Common.{◌≡◌, ◌≤◌, length, take, vec_capacity}
use Rattle.loss_patterns.specs.Keeps.{keeps}
use Rattle.loss_patterns.specs.Deciding.{Follows}
use Rattle.loss_runs.specs.Trials.{items_where}
use Rattle.loss_runs.proofs.sending.keep_some.Given as goal

abbrev pub invariant-loop-e : goal.invariant-loop-e
invariant-loop-e l = record {
  kept : l.kept.items ≡ items_where (keeps l.fn.kind l.initial.generator) (take l.e-index l.list);
  decided : l.loss.decided ≡ l.e-index;
  kind : l.loss.kind ≡ l.fn.kind;
  follows : Follows l.loss l.initial.generator l.generator;
  few : length l.kept.items ≤ l.e-index;
  room : vec_capacity l.kept ≡ length l.list;
}
