use Rattle.std.proofs.Common.{ℕ, ◌∙◌, sym, not, arith, w8, eq-eqb, eqb-true}
use Rattle.std.specs.Prelude.{nat_eq}
use Rattle.std.proofs.lemmas.Simd.{bitmask_splat, length-chunk}
use lib.Lanes.{chunk}
use Rattle.xor_lanes.proofs.Lanes.{lane_from_mask, mask_from_lane}
use Rattle.xor_lanes.proofs.is_half_zero.Goals as goal

pub returns : goal.returns
returns c =
    let at : ℕ = c.args.at in
    let mask = bitmask_splat w8 (λ a b. not (nat_eq a b)) (chunk at 16 c.args.s.now) 16 0
    (length-chunk at 16 c.args.s.now c.requires) (omega arith) in (
      λ t. lane_from_mask 16 at c.args.s.now c.requires (sym mask ∙ eqb-true _ 0 t),
      λ h. eq-eqb _ 0 (mask ∙ mask_from_lane 16 at c.args.s.now c.requires h),
    )
