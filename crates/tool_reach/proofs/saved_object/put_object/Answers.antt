use Rattle.std.proofs.Common.{◌≡◌, ◌<◌, ◌++◌, List, ℕ, length, get_or, take, subst, sym}
use Rattle.std.proofs.Common.{◌∙◌, append_assoc, arith, rules}
use Rattle.std.specs.List.{flat_map}
use Rattle.fec_base.specs.Bytes.{AppendsFront}
use Rattle.fec_base.proofs.Cuts.{cut_longer, on_err}
use Rattle.object_file.specs.Staged.{PassesOn}
use Rattle.tool_reach.specs.Salvaged.{salvaged_bytes, salvaged_object}
use Rattle.tool_base.proofs.Blocks.{blocks_more, blocks_left, blocks_front}
use Rattle.object_file.proofs.Passing.{passes_after, cut_after}
use Rattle.tool_reach.proofs.saved_object.put_object.Goals as goal

pub loop-block-preserved : goal.loop-block-preserved
loop-block-preserved g c =
    let held = g.K.Sink.held in
    let xs = c.args.surveys.now in
    let f = salvaged_bytes (length c.args.zeros.now) in
    let size = c.args.size in
    let i = c.loop-block.block in
    let rest = c.loop-block.rest in
    let o = c.index-surveys-block.result in
    let lt : i < length xs = omega arith in
    let is : o ≡ get_or xs i o = c.index-surveys-block.is in
    record {
      room = search rules;
      passed = subst (PassesOn (held c.args.sink.now) (held c.put_survey.new.sink)
          c.args.staging.now.bytes c.put_survey.new.staging.bytes)
          (sym (blocks_more f xs i o lt is size rest c.loop-block.invariant.rest))
          (passes_after (held c.args.sink.now) (held c.loop-block.sink) (held c.put_survey.new.sink)
          c.args.staging.now.bytes c.loop-block.staging.bytes c.put_survey.new.staging.bytes
          (take size (flat_map f (take i xs))) (take rest (f o))
          c.loop-block.invariant.passed c.in_ok-rest.ensures.passed);
      rest = c.in_ok-rest.ensures.left ∙ blocks_left f xs i o lt is size rest
          c.loop-block.invariant.rest;
      later = search rules;
    }

pub returns-in_err-rest-clause-cut : goal.returns-in_err-rest-clause-cut
returns-in_err-rest-clause-cut g c =
    let held = g.K.Sink.held in
    let xs = c.args.surveys.now in
    let f = salvaged_bytes (length c.args.zeros.now) in
    let size = c.args.size in
    let i = c.loop-block.block in
    let rest = c.loop-block.rest in
    let o = c.index-surveys-block.result in
    let lt : i < length xs = omega arith in
    let before = c.args.staging.now.bytes in
    let between = c.loop-block.staging.bytes in
    let front : List ℕ = take size (flat_map f (take i xs)) in
    let here : List ℕ = take rest (f o) in
    let split = blocks_front f xs i o lt (c.index-surveys-block.is) size rest
    c.loop-block.invariant.rest in
    on_err c.from_residual.result (AppendsFront (held c.args.sink.now) (held c.put_survey.new.sink)
    (before ++ salvaged_object (length c.args.zeros.now) xs size))
    (subst (λ (bytes : List ℕ). AppendsFront (held c.args.sink.now) (held c.put_survey.new.sink)
    (before ++ bytes)) split.1
    (cut_after (held c.args.sink.now) (held c.loop-block.sink) (held c.put_survey.new.sink) before
    between front (here ++ split.0) c.loop-block.invariant.passed
    (subst (AppendsFront (held c.loop-block.sink) (held c.put_survey.new.sink))
    (append_assoc between here split.0)
    (cut_longer (held c.loop-block.sink) (held c.put_survey.new.sink) (between ++ here) split.0
    c.in_err-rest.ensures.cut))))
