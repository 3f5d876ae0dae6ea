use Rattle.std.proofs.Common.{◌≡◌, ◌++◌, ◌-◌, ℕ, List, All, length, replicate}
use Rattle.std.specs.Vec.{vec_capacity}
use Rattle.fec_base.specs.Symbol.{IsSymbol, zero_symbol}
use Rattle.fec_session.proofs.Filled.{filled}
use Rattle.fec_session.proofs.encode.fill_repair.Given as goal

abbrev pub invariant-loop-r : goal.invariant-loop-r
invariant-loop-r g l = record {
  room : vec_capacity l.columns ≡ vec_capacity l.initial.columns;
  count : length l.symbols ≡ length l.initial.symbols;
  word : (len : ℕ) (source : List (List ℕ)) → length source ≡ l.code.k → All (IsSymbol len) source
      → l.initial.symbols ≡ source ++ replicate (l.code.n - l.code.k) (zero_symbol len)
      → l.symbols ≡ filled l.code len source l.r;
}
