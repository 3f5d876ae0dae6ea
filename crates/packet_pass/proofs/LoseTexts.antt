-- What a `lose` writes of a packet.
use Rattle.std.proofs.Common.{◌≡◌, ℕ, Bool, sym, ap, ap₂, ◌∙◌}
use Rattle.loss_patterns.specs.Keeps.{keeps}
use Rattle.loss_patterns.specs.declared.kind.LossKind.{LossKind}
use Rattle.packet_file.specs.Header.{HeaderFields}
use Rattle.packet_file.specs.Packets.{Packet, packet_bytes}
use Rattle.packet_pass.specs.Pass.{kept_in, loss_in, seed_in, text_of}
use Rattle.packet_pass.specs.Writing.{written_as}
use Rattle.packet_pass.specs.declared.kind.Pass.{Pass}
use Rattle.packet_pass.specs.declared.kind.Pass.TheVariants.{Lose}

-- by the decision of the writer, under the header of what it writes
pub lose_text : (pass : Pass) (h out : HeaderFields) (index : ℕ) (p : Packet) (kind k : LossKind)
    (seed s d : ℕ) (keep : Bool) → pass ≡ Lose kind seed → out ≡ written_as pass h
    → keep ≡ keeps k s d → k ≡ loss_in pass → s ≡ seed_in pass → d ≡ index
    → kept_in keep (packet_bytes out p) ≡ text_of pass h index p
lose_text pass h out index p kind k seed s d keep is out_is keep_is k_is s_is d_is =
    let same : out ≡ h = out_is ∙ ap (λ (q : Pass). written_as q h) is in
    let kind_is : k ≡ kind = k_is ∙ ap loss_in is in
    let seed_is : s ≡ seed = s_is ∙ ap seed_in is in
    let kept : keep ≡ keeps kind seed index = keep_is ∙ ap (λ (x : LossKind). keeps x s d) kind_is
    ∙ ap (λ (x : ℕ). keeps kind x d) seed_is ∙ ap (λ (x : ℕ). keeps kind seed x) d_is in
    ap₂ (λ (b : Bool) (o : HeaderFields). kept_in b (packet_bytes o p)) kept same
    ∙ sym (ap (λ (q : Pass). text_of q h index p) is)
