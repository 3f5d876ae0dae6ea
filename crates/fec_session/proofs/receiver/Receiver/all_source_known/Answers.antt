use Rattle.std.proofs.Common.{◌∙◌, sym, ap, length, eqb-true, eq-eqb}
use Rattle.peeling.specs.Decoder.{Decoder}
use Rattle.fec_session.proofs.Whole.{all_whole, whole_all}
use Rattle.fec_session.proofs.receiver.Receiver.all_source_known.Goals as goal

pub returns : goal.returns
returns g c =
    let cores = c.self.inside.cores.items in
    let whole = c.self.inside.whole in
    let long = ap (length {A = Decoder}) c.as_slice.ensures.value in
    rw (← c.self.view_is) (
      λ same. all_whole cores whole c.self.invariant.1 (eqb-true _ _ same ∙ long),
      λ all. eq-eqb _ _ (whole_all cores whole c.self.invariant.1 all ∙ sym long),
    )
