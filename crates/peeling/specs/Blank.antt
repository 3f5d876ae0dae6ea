-- Inside: what is kept where nothing arrived.
use Rattle.std.specs.Prelude.{◌≡◌, ◌≤◌, ◌+◌, ℕ, false, [], replicate, map, length}
use Rattle.std.specs.Vec.{vec_capacity}
use Rattle.fec_base.specs.Symbol.{zero_symbol}
use Rattle.sparse_rows.specs.Matrix.{Matrix}
use Rattle.peeling.specs.declared.peeler.Store.{Store}
use Rattle.peeling.specs.Unknowns.{unknowns_of}

-- no flag of n positions is set, each symbol and each row's sum is zero, each row has all of its
-- columns left, and n positions fit into the list of fresh ones
pub record IsBlank (m : Matrix) (len : ℕ) (store : Store) : Type 0 where
  pub no_arrivals : store.arrived.items ≡ replicate m.n false
  pub none_known : store.known.items ≡ replicate m.n false
  pub zeros : store.symbols ≡ replicate (m.n + length m.rows) (zero_symbol len)
  pub rows : store.rows.items ≡ map unknowns_of m.rows
  pub nothing_fresh : store.fresh.items ≡ []
  pub places : m.n ≤ vec_capacity store.fresh
