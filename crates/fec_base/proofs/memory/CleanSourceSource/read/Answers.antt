use Rattle.std.proofs.Common.{arith, ◌≡◌, ◌≤◌, ◌+◌, length, take, drop, drop_of_length-le}
use Rattle.std.proofs.lemmas.Grind.{common_steps}
use Rattle.fec_base.proofs.Feeds.{give_front}
use Rattle.fec_base.proofs.memory.CleanSourceSource.read.Goals as goal

-- the buffer's front is what was given, and nothing is given only at the end or into no room
pub returns-clause-bytes : goal.returns-clause-bytes
returns-clause-bytes c =
    let at = c.self.inside.at in
    let count = c.min-given.result in
    let items = c.self.inside.bytes.items in
    let given : c.copy_from_slice.new.self ≡ take count (drop at items) =
    grind (arith, common_steps) in (
      rw (← c.self.view_is) (give_front items _ _ at count (omega arith) given),
      λ none room.
          let left : length items ≤ at + count = grind (arith, common_steps) in
          drop_of_length-le items left,
    )
