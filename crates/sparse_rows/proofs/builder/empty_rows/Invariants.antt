use Rattle.std.proofs.Common.{◌≡◌, replicate, []}
use Rattle.sparse_rows.proofs.builder.empty_rows.Given as goal

abbrev pub invariant-loop : goal.invariant-loop
invariant-loop l = l.rows.items ≡ replicate l.counter (record { items = []; capacity = 8 })
