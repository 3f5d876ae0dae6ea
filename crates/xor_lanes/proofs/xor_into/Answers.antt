use Rattle.std.proofs.Common.{ℕ, ◌+◌, ◌≤◌, List, length, get_or, bit_xor, ◌∙◌, sym, ap, arith}
use Rattle.std.proofs.Common.{⊎_elim}
use Rattle.std.specs.Simd.Lanes.{zip2}
use Rattle.std.proofs.lemmas.Simd.{length-put_chunk}
use lib.Lanes.{chunk}
use Rattle.std.proofs.lemmas.List.{ext_get_or}
use Rattle.std.proofs.lemmas.Bool.{cases_lt}
use Rattle.fec_base.specs.Symbol.{xor}
use Rattle.fec_base.proofs.SymbolBytes.{length_xor, byte_xor}
use Rattle.xor_lanes.proofs.Lanes.{summed_below, summed_in, summed_above}
use Rattle.xor_lanes.proofs.xor_into.Goals as goal

pub loop-at-preserved : goal.loop-at-preserved
loop-at-preserved c =
    let at : ℕ = c.loop-at.at in
    let d : List ℕ = c.loop-at.dst in
    let s : List ℕ = c.args.src.now in
    let hd : at + 32 ≤ length d = c.loop-at-test.true in
    let hs : at + 32 ≤ length s = omega (arith, hd, c.loop-at.auto.dst, c.requires) in
    rw c.xor_lane.ensures (record {
      room = omega (
        arith,
        hd,
        length-put_chunk at d
            (zip2 bit_xor (chunk at 32 d) (chunk at 32 s)),
      );
      done = λ k lt. ⊎_elim (λ low. summed_below at d s k low ∙ c.loop-at.invariant.done k low)
          (λ high. summed_in at d s hd hs k high lt ∙ ap (λ n. bit_xor n (get_or s k 0))
          (c.loop-at.invariant.rest k high)) (cases_lt k at);
      rest = λ k le. summed_above at d s hd hs k le ∙ c.loop-at.invariant.rest k (omega arith);
    })

pub returns : goal.returns
returns c = ext_get_or 0 c.loop-i.dst (xor c.args.dst.now c.args.src.now) (c.loop-i.auto.dst
    ∙ c.loop-at.auto.dst ∙ sym (length_xor c.args.dst.now c.args.src.now c.requires))
    (λ k lt. c.loop-i.invariant.done k (omega (arith, c.loop-i.auto.dst))
    ∙ sym (byte_xor c.args.dst.now c.args.src.now c.requires k))
