use Rattle.std.proofs.Common.{◌≡◌, ◌<◌, ℕ, List, [], length, get_or, set, fold, ap, ◌∙◌, arith}
use Rattle.fec_base.specs.Symbol.{xor}
use Rattle.symbol_arena.proofs.Laid.{count_is, later}
use Rattle.symbol_arena.proofs.Summed.{summed_symbols}
use Rattle.symbol_arena.proofs.arena.Arena.add_all.Goals as goal

pub add_columns-requires-clause-own : goal.add_columns-requires-clause-own
add_columns-requires-clause-own g c =
    let a = c.self.inside in
    let lt : c.args.dst < a.count =
    omega (
      arith,
      c.requires.dst,
      count_is a.count a.stride a.len a.block c.args.self.now
          c.self.view_is,
    ) in
    omega (arith, later a.stride c.args.dst a.count lt, c.self.invariant.0)

pub add_columns-requires-clause-each : goal.add_columns-requires-clause-each
add_columns-requires-clause-each g c = λ i d inside.
    let a = c.self.inside in let s : ℕ = get_or c.args.sources.now i d in
    let lt : s < a.count = omega (
      arith,
      c.requires.sources i d inside,
      count_is a.count a.stride a.len a.block c.args.self.now c.self.view_is,
    ) in
    omega (arith, later a.stride s a.count lt, c.self.invariant.0)

pub returns-clause-sum : goal.returns-clause-sum
returns-clause-sum g c =
    let a = c.self.inside in
    let count : length c.args.self.now ≡ a.count = count_is a.count a.stride a.len a.block
    c.args.self.now c.self.view_is in
    summed_symbols a.count a.stride a.len a.block c.add_columns.new.self c.args.dst
    c.args.sources.now c.self.invariant.0 c.self.invariant.1
    (omega (arith, c.requires.dst, count)) c.add_columns.ensures.count
    (λ i d inside. let below : get_or c.args.sources.now i d < length
    c.args.self.now = c.requires.sources i d inside in omega (arith, count))
    c.add_columns.ensures.sum c.add_columns.ensures.rest
    ∙ ap (λ (all : List (List ℕ)). set all c.args.dst (fold (λ s src. xor s (get_or all src []))
    (get_or all c.args.dst []) c.args.sources.now)) c.self.view_is
