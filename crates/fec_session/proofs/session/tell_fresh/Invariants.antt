use Rattle.std.proofs.Common.{◌≡◌, ◌≤◌, take}
use Rattle.fec_base.specs.Told.{GrowsTold}
use Rattle.fec_session.specs.Session.{tellings}
use Rattle.fec_session.proofs.session.tell_fresh.Given as goal

-- the first positions were told, and the count never fell
abbrev pub invariant-loop-position : goal.invariant-loop-position
invariant-loop-position g l = record {
  count : l.told ≡ l.position-index;
  told : GrowsTold (g.W.Watch.told l.initial.watch) (g.W.Watch.told l.watch)
      (tellings l.block l.core (take l.told l.core.fresh));
  name : g.W.Watch.name l.watch ≡ g.W.Watch.name l.initial.watch;
  later : g.W.Watch.faults l.initial.watch ≤ g.W.Watch.faults l.watch;
}
