use Rattle.std.proofs.Common.{take}
use Rattle.sparse_rows.specs.Rows.{lists_of}
use Rattle.sparse_rows.proofs.Flat.{AreLaid}
use Rattle.sparse_rows.proofs.layout.Layout.of.Given as goal

abbrev pub invariant-loop-list : goal.invariant-loop-list
invariant-loop-list l = AreLaid l.starts.items l.items.items (lists_of (take l.list-index l.lists))
