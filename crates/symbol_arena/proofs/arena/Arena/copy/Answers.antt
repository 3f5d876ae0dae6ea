use Rattle.std.proofs.Common.{◌≡◌, ℕ, ◌*◌, List, length, set, ap, ◌∙◌, arith}
use Rattle.std.proofs.lemmas.Simd.{length-chunk}
use lib.Lanes.{chunk}
use Rattle.symbol_arena.specs.Laid.{laid_symbols}
use Rattle.symbol_arena.proofs.Laid.{part_room, part_is, put_of}
use Rattle.symbol_arena.proofs.arena.Arena.copy.Goals as goal

pub copy-requires-clause-dst : goal.copy-requires-clause-dst
copy-requires-clause-dst c =
    let a = c.self.inside in part_room a.count a.stride a.len a.block c.args.self.now c.args.dst
    c.self.view_is c.self.invariant.0 c.requires.dst

pub copy-requires-clause-src : goal.copy-requires-clause-src
copy-requires-clause-src c =
    let a = c.self.inside in part_room a.count a.stride a.len a.block c.args.self.now c.args.src
    c.self.view_is c.self.invariant.0 c.requires.src

pub returns : goal.returns
returns c =
    let a = c.self.inside in
    let ws : List ℕ = chunk (c.args.src * a.stride) a.stride a.block in
    let long : length ws ≡ a.stride = length-chunk (c.args.src * a.stride) a.stride a.block
    (part_room a.count a.stride a.len a.block c.args.self.now c.args.src c.self.view_is
    c.self.invariant.0 c.requires.src) in
    ap (laid_symbols a.count a.stride a.len) c.copy.ensures
    ∙ put_of a.count a.stride a.len a.block ws c.args.self.now c.args.dst c.self.view_is
    c.self.invariant.0 c.requires.dst (omega (arith, long, c.self.invariant.1))
    (omega (arith, long))
    ∙ ap (λ us. set c.args.self.now c.args.dst us) (part_is a.count a.stride a.len a.block
    c.args.self.now c.args.src c.self.view_is c.self.invariant.1 c.requires.src)
