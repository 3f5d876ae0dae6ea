use Rattle.std.proofs.Common.{sym, ◌∙◌, arith}
use Rattle.symbol_arena.proofs.Laid.{symbol_of, place_of}
use Rattle.symbol_arena.proofs.arena.Arena.get.Goals as goal

pub run-requires-clause-place : goal.run-requires-clause-place
run-requires-clause-place c = place_of c.self.inside.count c.self.inside.stride c.self.inside.len
    c.self.inside.block c.args.self.now c.args.s c.self.view_is c.self.invariant.0
    c.self.invariant.1 c.requires

pub run-requires-clause-most : goal.run-requires-clause-most
run-requires-clause-most c = omega (arith, c.self.invariant.1, c.self.invariant.2)

pub returns : goal.returns
returns c = c.run.ensures ∙ sym (symbol_of c.self.inside.count c.self.inside.stride
    c.self.inside.len c.self.inside.block c.args.self.now c.args.s c.self.view_is c.requires)
