use Rattle.std.proofs.Common.{◌≡◌, ◌<◌, ◌-◌, ◌++◌, List, [], ℕ, length, get_or, take, min, subst}
use Rattle.std.proofs.Common.{sym, ap, ◌∙◌, arith, rules}
use Rattle.std.specs.List.{flat_map}
use Rattle.std.proofs.lemmas.List.{get_or_default, take_all, take_min}
use Rattle.fec_base.specs.Bytes.{AppendsFront}
use Rattle.fec_base.proofs.Cuts.{cut_longer, on_err}
use Rattle.object_file.specs.Staged.{PassesOn}
use Rattle.tool_base.proofs.Blocks.{blocks_more, blocks_left, blocks_front}
use Rattle.object_file.proofs.Passing.{passes_after, cut_after}
use Rattle.tool_commands.proofs.decode.put_symbols.Goals as goal

abbrev same : List ℕ → List ℕ
same symbol = symbol

pub loop-position-preserved : goal.loop-position-preserved
loop-position-preserved g c =
    let held = g.K.Sink.held in
    let xs = c.args.block.now.source in
    let size = c.args.size in
    let i = c.loop-position.position in
    let rest = c.loop-position.rest in
    let symbol = c.symbol-symbol.result.now in
    let lt : i < length xs = omega (arith, c.requires.counted) in
    let is : symbol ≡ get_or xs i symbol = c.symbol-symbol.ensures.value
    ∙ get_or_default xs i [] symbol lt in
    let cut : c.min-len.result ≡ min rest (length symbol) = omega (arith, c.min-len.ensures) in
    let second = subst (PassesOn (held c.loop-position.sink) (held c.put.new.sink)
    c.loop-position.staging.bytes c.put.new.self.bytes) (ap (λ (n : ℕ). take n symbol) cut
    ∙ take_min rest symbol) c.in_ok-put.ensures.passed in
    record {
      room = search rules;
      passed = subst (PassesOn (held c.args.sink.now) (held c.put.new.sink) c.args.staging.now.bytes
          c.put.new.self.bytes) (sym (blocks_more same xs i symbol lt is size rest
          c.loop-position.invariant.rest))
          (passes_after (held c.args.sink.now) (held c.loop-position.sink) (held c.put.new.sink)
          c.args.staging.now.bytes c.loop-position.staging.bytes c.put.new.self.bytes
          (take size (flat_map same (take i xs))) (take rest symbol)
          c.loop-position.invariant.passed second);
      rest = omega (
        arith,
        cut,
        blocks_left same xs i symbol lt is size rest
            c.loop-position.invariant.rest,
      );
      later = search rules;
    }

pub returns-in_err-put-clause-cut : goal.returns-in_err-put-clause-cut
returns-in_err-put-clause-cut g c =
    let held = g.K.Sink.held in
    let xs = c.args.block.now.source in
    let size = c.args.size in
    let i = c.loop-position.position in
    let rest = c.loop-position.rest in
    let symbol = c.symbol-symbol.result.now in
    let lt : i < length xs = omega (arith, c.requires.counted) in
    let is : symbol ≡ get_or xs i symbol = c.symbol-symbol.ensures.value
    ∙ get_or_default xs i [] symbol lt in
    let before = c.args.staging.now.bytes in
    let between = c.loop-position.staging.bytes in
    let front : List ℕ = take size (flat_map same (take i xs)) in
    let split = blocks_front same xs i symbol lt is size rest c.loop-position.invariant.rest in
    let tail : List ℕ = take rest symbol ++ split.0 in
    on_err c.from_residual.result (AppendsFront (held c.args.sink.now) (held c.put.new.sink)
    (before ++ take size (flat_map same xs)))
    (subst (λ (bytes : List ℕ). AppendsFront (held c.args.sink.now) (held c.put.new.sink)
    (before ++ bytes)) split.1
    (cut_after (held c.args.sink.now) (held c.loop-position.sink) (held c.put.new.sink) before
    between front tail c.loop-position.invariant.passed
    (cut_longer (held c.loop-position.sink) (held c.put.new.sink) between tail
    c.in_err-put.ensures.cut)))

pub returns-clause-passed : goal.returns-clause-passed
returns-clause-passed g c =
    let held = g.K.Sink.held in
    let xs = c.args.block.now.source in
    let all : take c.loop-position.position xs ≡ xs = take_all c.loop-position.position xs
    (search rules) in
    subst (λ (l : List (List ℕ)). PassesOn (held c.args.sink.now) (held c.loop-position.sink)
    c.args.staging.now.bytes c.loop-position.staging.bytes (take c.args.size (flat_map same l)))
    all c.loop-position.invariant.passed

pub returns-clause-left : goal.returns-clause-left
returns-clause-left g c =
    let xs = c.args.block.now.source in
    let all : take c.loop-position.position xs ≡ xs = take_all c.loop-position.position xs
    (search rules) in
    c.loop-position.invariant.rest
    ∙ ap (λ (l : List (List ℕ)). c.args.size - length (flat_map same l)) all
