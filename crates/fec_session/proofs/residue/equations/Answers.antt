use Rattle.std.proofs.Common.{not, arith}
use Rattle.sparse_rows.specs.Closure.{flagged}
use Rattle.peeling.proofs.Flags.{members_few}
use Rattle.fec_session.proofs.residue.equations.Goals as goal

pub new-requires-clause-unknowns : goal.new-requires-clause-unknowns
new-requires-clause-unknowns c =
    omega (
      arith,
      c.requires,
      members_few c.args.core.now.matrix.n
          (λ b. not (flagged c.args.core.now.known b)),
      c.count_open.ensures.decoder.code.most,
    )

pub new-requires-clause-some : goal.new-requires-clause-some
new-requires-clause-some c = omega
    (arith, c.symbol_len-2.ensures, c.count_open.ensures.decoder.some)

pub new-requires-clause-most : goal.new-requires-clause-most
new-requires-clause-most c = omega
    (arith, c.symbol_len-2.ensures, c.count_open.ensures.decoder.most)
