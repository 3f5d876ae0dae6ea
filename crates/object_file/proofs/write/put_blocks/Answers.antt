use Rattle.std.proofs.Common.{◌++◌, ◌+◌, ◌<◌, List, [], ℕ, length, take, drop, subst, ap, arith}
use Rattle.std.proofs.Common.{rules}
use Rattle.fec_base.specs.Bytes.{AppendsFront}
use Rattle.object_file.specs.File.{block_packets, packets}
use Rattle.object_file.specs.Staged.{PassesOn}
use Rattle.object_file.proofs.PacketRuns.{pieces_from, pieces_front, pieces_pass, pieces_cut}
use Rattle.object_file.proofs.write.put_blocks.Goals as goal

pub loop-block-preserved : goal.loop-block-preserved
loop-block-preserved g c =
    let held = g.K.Sink.held in
    let b = c.loop-block.block in
    record {
      room = search rules;
      passed = λ words are.
          let inside : b < length words =
          omega (
            arith,
            c.loop-block-test.true,
            c.count-block-end.ensures.value,
            ap length c.plan.ensures,
            are.counted,
          ) in
          let second = subst (λ (word : List (List ℕ)). PassesOn (held c.loop-block.sink)
          (held c.put_block.new.sink) c.loop-block.staging.bytes c.put_block.new.staging.bytes
          (block_packets c.args.header.now b word)) (c.in_ok-word.ensures.word words are)
          c.in_ok-put_block.ensures.passed in
          pieces_pass (block_packets c.args.header.now) (held c.args.sink.now)
          (held c.loop-block.sink) (held c.put_block.new.sink) c.args.staging.now.bytes
          c.loop-block.staging.bytes words
          b [] inside (c.loop-block.invariant.passed words are)
          c.put_block.new.staging.bytes second;
      later = search rules;
    }

pub returns-in_err-word-clause-memory : goal.returns-in_err-word-clause-memory
returns-in_err-word-clause-memory g c words are _ =
    let b = c.loop-block.block in
    record {
      part = packets c.args.header.now (take b words);
      passed = c.loop-block.invariant.passed words are;
      rest = pieces_from (block_packets c.args.header.now) (0 + length (take b words))
          (drop b words);
      whole = pieces_front (block_packets c.args.header.now) words b;
    }

pub returns-in_err-put_block-clause-cut : goal.returns-in_err-put_block-clause-cut
returns-in_err-put_block-clause-cut g c words are _ =
    let held = g.K.Sink.held in
    let b = c.loop-block.block in
    let inside : b < length words =
    omega (
      arith,
      c.loop-block-test.true,
      c.count-block-end.ensures.value,
      ap length c.plan.ensures,
      are.counted,
    ) in
    let second = subst (λ (word : List (List ℕ)). AppendsFront (held c.loop-block.sink)
    (held c.put_block.new.sink)
    (c.loop-block.staging.bytes ++ block_packets c.args.header.now b word))
    (c.in_ok-word.ensures.word words are) c.in_err-put_block.ensures.cut in
    pieces_cut (block_packets c.args.header.now) (held c.args.sink.now) (held c.loop-block.sink)
    (held c.put_block.new.sink) c.args.staging.now.bytes c.loop-block.staging.bytes words b []
    inside (c.loop-block.invariant.passed words are) second
