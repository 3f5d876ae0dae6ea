-- Sessions of the block, their arrivals and their verdicts.
use Rattle.std.proofs.Common.{◌≡◌, ◌<◌, ◌+◌, ℕ, List, [], ◌∷◌, ◌++◌, length, take, sym, ap}
use Rattle.std.proofs.Common.{◌∙◌, subst, get_or, append_assoc}
use Rattle.std.proofs.lemmas.List.{map-append, take_more}
use Rattle.sparse_rows.specs.Codeword.{Arrival}
use Rattle.peeling.specs.Decoder.{Decoder}
use Rattle.peeling.specs.Stands.{Receives}
use Rattle.fec_session.specs.Determines.{Determines}
use Rattle.fec_session.specs.Session.{Watched}
use Rattle.fec_session.specs.SessionVerdict.{Decides, HandsBack, outcome_of}
use Rattle.fec_session.specs.declared.session.SessionVerdict.{SessionVerdict}
use Rattle.fec_session.specs.declared.session.SessionVerdict.TheVariants as verdict
use Rattle.one_block.specs.Block.{IsBlockCode, IsOfBlock, IsOpen, IsVerdict, Holds, TellsSource}
use Rattle.one_block.specs.Block.{arrival_of, arrivals_of}
use Rattle.one_block.specs.declared.sender.Packet.{Packet}

-- a decoder stays one of the block
pub still_of_block : (old new : Decoder) (position : ℕ) (bytes : List ℕ)
    → Receives old new position bytes → IsOfBlock old → IsOfBlock new
still_of_block old new position bytes r b = record {
  code = subst IsBlockCode (sym r.code) b.code;
  len = r.len ∙ b.len;
}

-- one packet more stands behind the others
pub arrivals_more : (before : List Arrival) (packets : List Packet) (i : ℕ) (p : Packet)
    → i < length packets → p ≡ get_or packets i p
    → (before ++ arrivals_of (take i packets)) ++ arrival_of p ∷ []
    ≡ before ++ arrivals_of (take (i + 1) packets)
arrivals_more before packets i p inside is =
    let front = arrivals_of (take i packets) in
    let more : arrivals_of (take (i + 1) packets) ≡ front ++ arrival_of p ∷ [] =
    ap arrivals_of (take_more packets i p inside)
    ∙ (map-append arrival_of (take i packets) (get_or packets i p ∷ [])
    ∙ ap (λ (q : Packet). front ++ arrival_of q ∷ []) (sym is)) in
    append_assoc before front (arrival_of p ∷ []) ∙ ap (λ l. before ++ l) (sym more)

-- what a verdict hands back goes on from the arrivals
holds_of : {W : Type 0} (s : Watched W) (v : SessionVerdict W) (arrivals : List Arrival)
    → HandsBack s v → IsOpen s arrivals → Holds arrivals v
holds_of s (verdict.NoCodeword session) arrivals back o =
    subst (λ (t : Watched _). IsOpen t arrivals) (sym back) o
holds_of s (verdict.Block block watch) arrivals back o = back.0 ∙ o.block.code.source
holds_of s (verdict.Undetermined session word) arrivals back o =
    subst (λ (t : Watched _). IsOpen t arrivals) (sym back) o

-- a verdict that the session decides is that of the block
pub verdict_is : {W : Type 0} (s : Watched W) (v : SessionVerdict W)
    → Decides s v → HandsBack s v
    → (arrivals : List Arrival) → IsOpen s arrivals → IsVerdict arrivals v
verdict_is s v decides back arrivals o = record {
  matrix = s.core.matrix;
  code = o.block.code;
  determined = subst (λ (len : ℕ). Determines s.core.matrix len arrivals (outcome_of v))
      o.block.len (decides arrivals o.stands);
  holds = holds_of s v arrivals back o;
}

-- a block that was determined has K source symbols
pub has_source : {W : Type 0} (arrivals : List Arrival) (v : SessionVerdict W)
    → IsVerdict arrivals v → TellsSource v
has_source arrivals (verdict.NoCodeword session) is = tt
has_source arrivals (verdict.Block block watch) is = is.holds
has_source arrivals (verdict.Undetermined session word) is = tt
