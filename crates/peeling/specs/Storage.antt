-- Inside: how a decoder keeps what contracts see of it.
use Rattle.std.specs.Prelude.{◌≡◌, ◌≤◌, length, take, drop}
use Rattle.std.specs.Vec.{vec_capacity}
use Rattle.sparse_rows.specs.Matrix.{IsCode}
use Rattle.sparse_rows.specs.Closure.{flagged, HasSameMembers, closure}
use Rattle.peeling.specs.declared.peeler.Peeler.TheInside.{Inside}
use Rattle.peeling.specs.Decoder.{Decoder, kept}
use Rattle.peeling.specs.Lookups.{set_count}
use Rattle.peeling.specs.Peeled.{IsLaid}
use Rattle.peeling.specs.Unknowns.{IsCounted}

-- the decoder, its symbols being those in front of the sums
abbrev pub decoder_of : Inside → Decoder
decoder_of p = record {
  matrix = p.code;
  len = p.len;
  arrived = p.store.arrived.items;
  known = p.store.known.items;
  symbols = take p.code.n p.store.symbols;
  clashed = p.clashed;
  fresh = p.store.fresh.items;
}

-- the fields of a decoder
pub record IsStored (p : Inside) : Type 0 where
  -- flags and symbols for each position of a code, the known positions the closure of those that
  -- arrived
  pub code : IsCode p.code
  pub some : 1 ≤ p.len
  pub most : p.len ≤ 65535
  pub arrived : length p.store.arrived.items ≡ p.code.n
  pub laid : IsLaid p.code.n p.len p.store.known.items (take p.code.n p.store.symbols)
  pub closed : HasSameMembers (flagged p.store.known.items)
      (closure p.code (flagged p.store.arrived.items))
  -- what each row has left, and the sum of what it has seen, are those of the known columns
  pub counted : IsCounted p.code p.len (λ row. flagged p.store.known.items) (kept (decoder_of p))
      p.store.rows.items (drop p.code.n p.store.symbols)
  -- the counters are those of the flags
  pub arrived_count : p.arrived_count ≡ set_count p.store.arrived.items
  pub known_count : p.known_count ≡ set_count p.store.known.items
  -- and room for one arrival
  pub room : p.code.n ≤ vec_capacity p.store.fresh
