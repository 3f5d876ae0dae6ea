use Rattle.std.proofs.Common.{◌≡◌, ◌<◌, ◌-◌, ◌+◌, ◌++◌, List, ℕ, length, get_or, take, min, subst}
use Rattle.std.proofs.Common.{sym, ap, ◌∙◌, arith, rules}
use Rattle.std.specs.List.{flat_map}
use Rattle.std.proofs.lemmas.List.{take_all, take_min}
use Rattle.std.proofs.lemmas.List.FromFn.{get_or-range_with_len, length-range_with_len}
use Rattle.fec_base.specs.Bytes.{AppendsFront}
use Rattle.fec_base.proofs.Cuts.{cut_longer, on_err}
use Rattle.object_file.specs.Staged.{PassesOn}
use Rattle.tool_base.proofs.Blocks.{blocks_more, blocks_left, blocks_front}
use Rattle.object_file.proofs.Passing.{passes_after, cut_after}
use Rattle.tool_reach.specs.Salvaged.{count_of, salvaged_symbol, sources_of}
use Rattle.tool_reach.proofs.saved_object.put_symbols.Goals as goal

pub loop-e-preserved : goal.loop-e-preserved
loop-e-preserved g c =
    let held = g.K.Sink.held in
    let saved = c.args.partial.now in
    let f = salvaged_symbol (length c.args.zeros.now) saved in
    let xs = sources_of saved in
    let size = c.args.size in
    let i = c.loop-e.e in
    let rest = c.loop-e.rest in
    let symbol = c.symbol_or-symbol.result.now in
    let below : i < count_of saved = omega arith in
    let lt : i < length xs = omega (arith, below, length-range_with_len 0 (count_of saved)) in
    let is : i ≡ get_or xs i i = sym (get_or-range_with_len 0 (count_of saved) i i below
    ∙ (let at : 0 + i ≡ i = omega arith in at)) in
    let value : symbol ≡ f i = c.symbol_or-symbol.ensures.value in
    let cut : c.min-len.result ≡ min rest (length symbol) = omega (arith, c.min-len.ensures) in
    let second = subst (λ (s : List ℕ). PassesOn (held c.loop-e.sink) (held c.put.new.sink)
    c.loop-e.staging.bytes c.put.new.self.bytes (take rest s)) value
    (subst (PassesOn (held c.loop-e.sink) (held c.put.new.sink)
    c.loop-e.staging.bytes c.put.new.self.bytes) (ap (λ (n : ℕ). take n symbol) cut
    ∙ take_min rest symbol) c.in_ok-put.ensures.passed) in
    record {
      room = search rules;
      passed = subst (PassesOn (held c.args.sink.now) (held c.put.new.sink) c.args.staging.now.bytes
          c.put.new.self.bytes) (sym (blocks_more f xs i i lt is size rest c.loop-e.invariant.rest))
          (passes_after (held c.args.sink.now) (held c.loop-e.sink) (held c.put.new.sink)
          c.args.staging.now.bytes c.loop-e.staging.bytes c.put.new.self.bytes
          (take size (flat_map f (take i xs))) (take rest (f i)) c.loop-e.invariant.passed second);
      rest = omega (
        arith,
        cut,
        ap length value,
        blocks_left f xs i i lt is size rest c.loop-e.invariant.rest,
      );
      later = search rules;
    }

pub returns-clause-passed : goal.returns-clause-passed
returns-clause-passed g c =
    let held = g.K.Sink.held in
    let saved = c.args.partial.now in
    let f = salvaged_symbol (length c.args.zeros.now) saved in
    let xs = sources_of saved in
    let all : take c.loop-e.e xs ≡ xs = take_all c.loop-e.e xs
    (omega (arith, length-range_with_len 0 (count_of saved))) in
    subst (λ (l : List ℕ). PassesOn (held c.args.sink.now) (held c.loop-e.sink)
    c.args.staging.now.bytes c.loop-e.staging.bytes (take c.args.size (flat_map f l)))
    all c.loop-e.invariant.passed

pub returns-clause-left : goal.returns-clause-left
returns-clause-left g c =
    let saved = c.args.partial.now in
    let f = salvaged_symbol (length c.args.zeros.now) saved in
    let xs = sources_of saved in
    let all : take c.loop-e.e xs ≡ xs = take_all c.loop-e.e xs
    (omega (arith, length-range_with_len 0 (count_of saved))) in
    c.loop-e.invariant.rest ∙ ap (λ (l : List ℕ). c.args.size - length (flat_map f l)) all

pub returns-in_err-put-clause-cut : goal.returns-in_err-put-clause-cut
returns-in_err-put-clause-cut g c =
    let held = g.K.Sink.held in
    let saved = c.args.partial.now in
    let f = salvaged_symbol (length c.args.zeros.now) saved in
    let xs = sources_of saved in
    let size = c.args.size in
    let i = c.loop-e.e in
    let rest = c.loop-e.rest in
    let below : i < count_of saved = omega arith in
    let lt : i < length xs = omega (arith, below, length-range_with_len 0 (count_of saved)) in
    let is : i ≡ get_or xs i i = sym (get_or-range_with_len 0 (count_of saved) i i below
    ∙ (let at : 0 + i ≡ i = omega arith in at)) in
    let before = c.args.staging.now.bytes in
    let between = c.loop-e.staging.bytes in
    let front : List ℕ = take size (flat_map f (take i xs)) in
    let split = blocks_front f xs i i lt is size rest c.loop-e.invariant.rest in
    let tail : List ℕ = take rest (f i) ++ split.0 in
    on_err c.from_residual.result (AppendsFront (held c.args.sink.now) (held c.put.new.sink)
    (before ++ take size (flat_map f xs)))
    (subst (λ (bytes : List ℕ). AppendsFront (held c.args.sink.now) (held c.put.new.sink)
    (before ++ bytes)) split.1
    (cut_after (held c.args.sink.now) (held c.loop-e.sink) (held c.put.new.sink) before
    between front tail c.loop-e.invariant.passed
    (cut_longer (held c.loop-e.sink) (held c.put.new.sink) between tail
    c.in_err-put.ensures.cut)))
