use Rattle.std.proofs.Common.{◌≡◌, ⊎_elim, ◌∙◌, List, ℕ, Option, Some, subst}
use Rattle.std.specs.Io.KnownBytes.{Appends}
use Rattle.tool_base.specs.declared.status.Status.TheVariants as status
use Rattle.tool_laws.proofs.CleanFrames.{held_alone}
use Rattle.tool_laws.proofs.laws.datagrams_come_back.Goals as goal

pub returns : goal.returns
returns c = λ symbol datagram_stream frames h draws limit sent came early most first last watch
    watch_now before after ended w sends among few clean empty known nothing run.
    let decoded = c.chosen_packets_are_decoded.ensures h draws limit frames sent came early most
    first last watch watch_now status.Done sends among few clean in
    let wrote : Appends first.output.bytes last.output.bytes frames = ⊎_elim
    (λ (lacks : status.Done ≡ status.Memory). absurd (cc lacks))
    (λ other. ⊎_elim (λ good. good.1) (λ bad. absurd (cc (bad.0))) other)
    decoded in
    let alone : last.output.bytes ≡ Some frames = held_alone last.output.bytes frames
    (subst (λ (l : Option (List ℕ)). Appends l last.output.bytes frames) empty wrote) in
    c.unframe_undoes_frame.ensures symbol datagram_stream frames before after ended w
    (known ∙ alone) nothing run
