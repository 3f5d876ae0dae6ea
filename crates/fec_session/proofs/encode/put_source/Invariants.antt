use Rattle.std.proofs.Common.{◌≡◌, ◌++◌, drop}
use Rattle.fec_base.specs.Symbol.{symbols_of}
use Rattle.fec_session.proofs.encode.put_source.Given as goal

abbrev pub invariant-loop-e : goal.invariant-loop-e
invariant-loop-e l = l.symbols ≡ symbols_of l.len l.e l.source ++ drop l.e l.initial.symbols
