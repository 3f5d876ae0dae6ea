use Rattle.std.proofs.Common.{◌≡◌, vec_capacity}
use Rattle.park_miller.specs.Generator.{after}
use Rattle.loss_runs.specs.Trials.{drawn_bytes}
use Rattle.loss_runs.proofs.source.draw_bytes.Given as goal

abbrev pub invariant-loop : goal.invariant-loop
invariant-loop l = record {
  bytes : l.bytes.items ≡ drawn_bytes l.counter l.initial.generator;
  state : l.generator ≡ after l.counter l.initial.generator;
  room : vec_capacity l.bytes ≡ l.count;
}
