use Rattle.packet_pass.proofs.Counting.{kept_next, kept_within}
use Rattle.packet_pass.proofs.thinning.Thinning.next.Goals as goal

pub invariant_of-self : goal.invariant_of-self
invariant_of-self c =
    let inside = c.self.inside in
    let keep = c.keep-keep.result in
    let (follows, counted, within) = c.self.invariant in
    let is = c.keep-keep.ensures.kept inside.seed follows in
    let more = kept_next inside.loss.kind inside.seed inside.loss.decided inside.kept keep is
    counted in
    let most = kept_within keep inside.kept inside.loss.decided within in (
      c.keep-keep.ensures.follows inside.seed follows,
      rw (c.keep-keep.ensures.kind, c.keep-keep.ensures.decided) more,
      rw c.keep-keep.ensures.decided most,
    )
