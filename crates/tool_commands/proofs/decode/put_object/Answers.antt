use Rattle.std.proofs.Common.{◌≡◌, ◌<◌, ◌++◌, List, [], ℕ, length, get_or, take, subst, sym, ap}
use Rattle.std.proofs.Common.{◌∙◌, append_assoc, arith, rules}
use Rattle.std.specs.List.{flat_map}
use Rattle.std.proofs.lemmas.List.{take_all}
use Rattle.std.proofs.KnownBytes.{Appends-nil}
use Rattle.fec_base.specs.Bytes.{AppendsFront}
use Rattle.fec_base.proofs.Cuts.{cut_longer, on_err}
use Rattle.object_file.specs.Staged.{PassesOn}
use Rattle.object_file.specs.Codes.{count_at}
use Rattle.object_file.specs.Receiving.{HasSource}
use Rattle.tool_commands.specs.Outcomes.{object_of, source_bytes}
use Rattle.tool_base.proofs.Blocks.{blocks_more, blocks_left, blocks_front}
use Rattle.object_file.proofs.Passing.{passes_after, passes_none, cut_after}
use Rattle.tool_commands.proofs.decode.put_object.Goals as goal

pub put_source-requires-clause-known : goal.put_source-requires-clause-known
put_source-requires-clause-known g c =
    let h = c.args.header.now in
    let xs = c.args.finished.now.outcomes in
    let i = c.loop-block.block in
    let o = c.outcome.result.now in
    let known = c.requires.known i o (omega arith) in
    subst (λ (k : ℕ). HasSource k o) (sym c.source_count.ensures.value)
    (subst (HasSource (count_at h i)) (sym (c.outcome.ensures o)) known)

pub loop-block-init : goal.loop-block-init
loop-block-init g c =
    let held = g.K.Sink.held c.args.sink.now in
    let bytes = c.args.staging.now.bytes in
    record {
      room = search rules;
      passed = subst (PassesOn held held bytes bytes)
          (sym (take_all c.args.header.now.oti.length [] (omega arith)))
          (passes_none held bytes (Appends-nil held));
      rest = omega (arith, ap (λ oti. oti.length) c.oti.ensures.value);
      later = search rules;
    }

pub loop-block-preserved : goal.loop-block-preserved
loop-block-preserved g c =
    let held = g.K.Sink.held in
    let xs = c.args.finished.now.outcomes in
    let size = c.args.header.now.oti.length in
    let i = c.loop-block.block in
    let rest = c.loop-block.rest in
    let o = c.outcome.result.now in
    let lt : i < length xs = omega arith in
    let is : o ≡ get_or xs i o = c.outcome.ensures o in
    record {
      room = search rules;
      passed = subst (PassesOn (held c.args.sink.now) (held c.put_source.new.sink)
          c.args.staging.now.bytes c.put_source.new.staging.bytes)
          (sym (blocks_more source_bytes xs i o lt is size rest c.loop-block.invariant.rest))
          (passes_after (held c.args.sink.now) (held c.loop-block.sink) (held c.put_source.new.sink)
          c.args.staging.now.bytes c.loop-block.staging.bytes c.put_source.new.staging.bytes
          (take size (flat_map source_bytes (take i xs))) (take rest (source_bytes o))
          c.loop-block.invariant.passed c.in_ok-rest.ensures.passed);
      rest = c.in_ok-rest.ensures.left ∙ blocks_left source_bytes xs i o lt is size rest
          c.loop-block.invariant.rest;
      later = search rules;
    }

pub returns-in_err-rest-clause-cut : goal.returns-in_err-rest-clause-cut
returns-in_err-rest-clause-cut g c =
    let held = g.K.Sink.held in
    let xs = c.args.finished.now.outcomes in
    let size = c.args.header.now.oti.length in
    let i = c.loop-block.block in
    let rest = c.loop-block.rest in
    let o = c.outcome.result.now in
    let lt : i < length xs = omega arith in
    let before = c.args.staging.now.bytes in
    let between = c.loop-block.staging.bytes in
    let front : List ℕ = take size (flat_map source_bytes (take i xs)) in
    let here : List ℕ = take rest (source_bytes o) in
    let split = blocks_front source_bytes xs i o lt (c.outcome.ensures o) size rest
    c.loop-block.invariant.rest in
    on_err c.from_residual.result (AppendsFront (held c.args.sink.now) (held c.put_source.new.sink)
    (before ++ object_of xs size))
    (subst (λ (bytes : List ℕ). AppendsFront (held c.args.sink.now) (held c.put_source.new.sink)
    (before ++ bytes)) split.1
    (cut_after (held c.args.sink.now) (held c.loop-block.sink) (held c.put_source.new.sink) before
    between front (here ++ split.0) c.loop-block.invariant.passed
    (subst (AppendsFront (held c.loop-block.sink) (held c.put_source.new.sink))
    (append_assoc between here split.0)
    (cut_longer (held c.loop-block.sink) (held c.put_source.new.sink) (between ++ here) split.0
    c.in_err-rest.ensures.cut))))
