use Rattle.std.proofs.Common.{length, ap, subst, sym, arith}
use Rattle.std.specs.List.Sorted.{IsStrictlyIncreasing}
use Rattle.fec_session.proofs.Columns.{unknown_few, unknown_rise}
use Rattle.fec_session.proofs.decoder_core.Core.residue.Goals as goal

pub overflow_cast-len : goal.overflow_cast-len
overflow_cast-len c = omega (
  arith,
  unknown_few c.args.self.now,
  ap length c.in_ok-columns.ensures,
  c.len.ensures,
  c.code.ensures.decoder.code.most,
  c.in_ok-columns.columns.ok,
)

pub returns-clause-rising : goal.returns-clause-rising
returns-clause-rising c = subst IsStrictlyIncreasing (sym c.in_ok-columns.ensures)
    (unknown_rise c.args.self.now)
