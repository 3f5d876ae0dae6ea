use Rattle.std.proofs.Common.{◌≡◌, ◌*◌, ◌+◌, ◌-◌, ℕ, List, [], length, get_or, set, take, drop, sym}
use Rattle.std.proofs.Common.{ap, ◌∙◌, arith}
use Rattle.fec_session.proofs.Filled.{source_place, source_long, source_next, source_count}
use Rattle.fec_session.proofs.encode.put_source.Goals as goal

pub loop-e-preserved : goal.loop-e-preserved
loop-e-preserved c =
    let e : ℕ = c.loop-e.e in let len : ℕ = c.args.len in
    let count : e * len + len - e * len ≡ len = omega arith in
    c.put.ensures ∙ ap (λ (n : ℕ). set c.loop-e.symbols e
    (take n (drop (e * len) c.args.source.now))) count
    ∙ ap (λ (w : List (List ℕ)). set w e (take len (drop (e * len) c.args.source.now)))
    c.loop-e.invariant
    ∙ source_next len c.args.k c.args.source.now c.args.symbols.now c.requires.source
    c.requires.count e c.loop-e-test.true

pub put-requires-clause-place : goal.put-requires-clause-place
put-requires-clause-place c = rw c.loop-e.invariant
    (omega (
      arith,
      source_count c.args.len c.args.k c.args.source.now c.args.symbols.now
          c.requires.count c.loop-e.e c.loop-e-test.true,
      c.loop-e-test.true,
      c.requires.count,
    ))

pub put-requires-clause-len : goal.put-requires-clause-len
put-requires-clause-len c =
    let e : ℕ = c.loop-e.e in let len : ℕ = c.args.len in
    let count : e * len + len - e * len ≡ len = omega arith in
    ap (λ (n : ℕ). length (take n (drop (e * len) c.args.source.now))) count
    ∙ source_long len c.args.k c.args.source.now c.args.symbols.now c.requires.source
    c.requires.count e c.loop-e-test.true
    ∙ sym (ap (λ (w : List (List ℕ)). length (get_or w e [])) c.loop-e.invariant
    ∙ ap length (source_place len c.args.k c.args.source.now c.args.symbols.now
    c.requires.source c.requires.count e c.loop-e-test.true)
    ∙ c.requires.each e [] (omega (arith, c.loop-e-test.true, c.requires.count)))
