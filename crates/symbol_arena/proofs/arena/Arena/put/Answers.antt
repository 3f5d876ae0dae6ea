use Rattle.std.proofs.Common.{◌≡◌, ℕ, ◌+◌, ◌*◌, ◌≤◌, List, length, set, take, sym, ap, ◌∙◌, arith}
use Rattle.std.proofs.Common.{subst, le_of_eq}
use Rattle.std.proofs.Math.Seq.{take-length}
use Rattle.symbol_arena.specs.Laid.{laid_symbols}
use Rattle.symbol_arena.proofs.Laid.{place_of, symbol_long, put_of}
use Rattle.symbol_arena.proofs.arena.Arena.put.Goals as goal

pub put-requires : goal.put-requires
put-requires c =
    let a = c.self.inside in
    let long : length c.args.bytes.now ≡ a.len = c.requires.len ∙ symbol_long a.count a.stride a.len
    a.block c.args.self.now c.args.s c.self.view_is c.self.invariant.0 c.self.invariant.1
    c.requires.place in
    subst (λ (k : ℕ). c.args.s * a.stride + k ≤ length a.block) (sym long)
    (place_of a.count a.stride a.len a.block c.args.self.now c.args.s c.self.view_is
    c.self.invariant.0 c.self.invariant.1 c.requires.place)

pub returns : goal.returns
returns c =
    let a = c.self.inside in
    let bytes : List ℕ = c.args.bytes.now in
    let long : length bytes ≡ a.len = c.requires.len ∙ symbol_long a.count a.stride a.len a.block
    c.args.self.now c.args.s c.self.view_is c.self.invariant.0 c.self.invariant.1
    c.requires.place in
    ap (laid_symbols a.count a.stride a.len) c.put.ensures
    ∙ put_of a.count a.stride a.len a.block bytes c.args.self.now c.args.s c.self.view_is
    c.self.invariant.0 c.requires.place (le_of_eq (sym long))
    (omega (arith, long, c.self.invariant.1))
    ∙ ap (λ us. set c.args.self.now c.args.s us) (ap (λ (k : ℕ). take k bytes) (sym long)
    ∙ take-length bytes)
