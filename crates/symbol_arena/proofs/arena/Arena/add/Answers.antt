use Rattle.std.proofs.Common.{◌≡◌, ◌<◌, ◌+◌, ◌*◌, ◌≤◌, ℕ, List, [], ◌∷◌, length, get_or, set, ap}
use Rattle.std.proofs.Common.{◌∙◌, arith}
use Rattle.std.proofs.lemmas.List.Elements.{All-nil, All-cons}
use Rattle.fec_base.specs.Symbol.{xor}
use Rattle.symbol_arena.proofs.Laid.{count_is, part_room}
use Rattle.symbol_arena.proofs.Summed.{summed_symbols}
use Rattle.symbol_arena.proofs.arena.Arena.add.Goals as goal

pub add_columns-requires-clause-own : goal.add_columns-requires-clause-own
add_columns-requires-clause-own g c =
    let a = c.self.inside in part_room a.count a.stride a.len a.block c.args.self.now c.args.dst
    c.self.view_is c.self.invariant.0 c.requires.dst

pub add_columns-requires-clause-each : goal.add_columns-requires-clause-each
add_columns-requires-clause-each g c =
    let a = c.self.inside in
    let Within = λ (s : ℕ). s * a.stride + a.stride ≤ length a.block in
    All-cons Within c.args.src [] (part_room a.count a.stride a.len a.block c.args.self.now
    c.args.src c.self.view_is c.self.invariant.0 c.requires.src) (All-nil Within)

pub returns-clause-sum : goal.returns-clause-sum
returns-clause-sum g c =
    let a = c.self.inside in
    let count : length c.args.self.now ≡ a.count = count_is a.count a.stride a.len a.block
    c.args.self.now c.self.view_is in
    let Below = λ (s : ℕ). s < a.count in
    summed_symbols a.count a.stride a.len a.block c.add_columns.new.self c.args.dst
    (c.args.src ∷ []) c.self.invariant.0 c.self.invariant.1
    (omega (arith, c.requires.dst, count)) c.add_columns.ensures.count
    (All-cons Below c.args.src [] (omega (arith, c.requires.src, count)) (All-nil Below))
    c.add_columns.ensures.sum c.add_columns.ensures.rest
    ∙ ap (λ (all : List (List ℕ)). set all c.args.dst
    (xor (get_or all c.args.dst []) (get_or all c.args.src []))) c.self.view_is
