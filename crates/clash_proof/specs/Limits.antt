-- Inside: how evidence is kept.
use Rattle.std.specs.Prelude.{◌≡◌, ◌≤◌, length, All}
use Rattle.fec_base.specs.Symbol.{IsSymbol}
use Rattle.clash_proof.specs.Evidence.{Kept}

-- flags, indices and symbols for n positions, within the limits of a block
pub record IsEvidenceKept (ev : Kept) : Type 0 where
  pub some : 1 ≤ ev.n
  pub most : ev.n ≤ 65536
  pub some_bytes : 1 ≤ ev.len
  pub most_bytes : ev.len ≤ 65535
  pub flags : length ev.arrived ≡ ev.n
  pub numbers : length ev.indices ≡ ev.n
  pub count : length ev.symbols ≡ ev.n
  pub are_symbols : All (IsSymbol ev.len) ev.symbols
