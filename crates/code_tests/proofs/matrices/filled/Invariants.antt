use Rattle.std.proofs.Common.{◌≡◌, ◌-◌, replicate, fold, [], take}
use Rattle.sparse_rows.specs.Matrix.{with_entry}
use Rattle.code_tests.proofs.matrices.filled.Given as goal

abbrev pub invariant-loop-r : goal.invariant-loop-r
invariant-loop-r l = record {
  k : l.rows.k ≡ l.k;
  n : l.rows.n ≡ l.n;
  is : l.rows ≡ fold (λ m entry. with_entry m entry.0 entry.1)
      (record { k = l.k; n = l.n; rows = replicate (l.n - l.k) [] }) (take l.r-index l.entries);
}
