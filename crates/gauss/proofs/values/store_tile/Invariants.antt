use Rattle.std.proofs.Common.{◌≡◌, ℕ, ◌+◌, ◌<◌, ◌≤◌, ◌⊎◌}
use Rattle.gauss.specs.Packed.{byte_in}
use Rattle.gauss.proofs.values.store_tile.Given as goal

abbrev pub invariant-loop-p : goal.invariant-loop-p
invariant-loop-p l = record {
  tile : (q t : ℕ) → q < l.p → t < l.tile.size → byte_in l.tile.len l.values (l.tile.start + t) q ≡
      byte_in l.tile.size
      l.part t q;
  others : (q t : ℕ) → t < l.tile.len → (t < l.tile.start) ⊎ (l.tile.start + l.tile.size ≤ t)
      → byte_in l.tile.len l.values t q ≡ byte_in l.tile.len l.initial.values t q;
}
