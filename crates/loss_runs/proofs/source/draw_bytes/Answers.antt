use Rattle.std.proofs.Common.{◌≡◌, ℕ, ◌+◌, ◌∷◌, ◌++◌, [], length, ap, sym, ◌∙◌, arith}
use Rattle.park_miller.specs.Generator.{after, drawn, next}
use Rattle.loss_runs.specs.Trials.{drawn_bytes}
use Rattle.loss_runs.proofs.Drawn.{after-more, drawn_more, length-drawn}
use Rattle.loss_runs.proofs.source.draw_bytes.Goals as goal

pub push_reserved-requires : goal.push_reserved-requires
push_reserved-requires c =
    let start = c.args.generator.now in
    omega (
      arith,
      c.loop.invariant.room,
      c.loop-test.true,
      ap length c.loop.invariant.bytes,
      length-drawn c.loop.counter start,
      c.loop.bytes.ok.0,
    )

pub loop-preserved : goal.loop-preserved
loop-preserved c =
    let start = c.args.generator.now in
    let i = c.loop.counter in
    let so_far = c.loop.invariant in
    let state : c.draw.new.self ≡ after (i + 1) start = c.draw.ensures.state ∙ ap next so_far.state
    ∙ sym (after-more i start) in
    let value : c.draw.result ≡ drawn 256 (after (i + 1) start) = c.draw.ensures.value
    ∙ ap (drawn 256) state in
    record {
      bytes = c.push_reserved.ensures.items ∙ ap (λ l. l ++ c.draw.result ∷ []) so_far.bytes
          ∙ ap (λ (x : ℕ). drawn_bytes i start ++ x ∷ []) value ∙ sym (drawn_more i start);
      state = state;
      room = c.push_reserved.ensures.capacity ∙ so_far.room;
    }

pub returns-clause-counted : goal.returns-clause-counted
returns-clause-counted c =
    omega (
      arith,
      c.loop-test.false,
      ap length c.loop.invariant.bytes,
      length-drawn c.loop.counter c.args.generator.now,
    )
