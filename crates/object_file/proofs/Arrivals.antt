-- What arrives for each block, and its decoder, as packets come.
use Rattle.std.proofs.Common.{◌≡◌, ◌≢◌, ℕ, ◌<◌, Bool, true, false, cond, ◌==◌, List, [], ◌∷◌, ◌++◌}
use Rattle.std.proofs.Common.{length, map, filter, slice_index_or, slice_set, refl, sym, ap, ◌∙◌}
use Rattle.std.proofs.Common.{subst, subst₂, arith, eq-eqb, eqb-true, true≢false, append-nil}
use Rattle.std.proofs.Common.{get_or-set_same, get_or-set_other, length-set}
use Rattle.std.proofs.lemmas.List.{map-append}
use Rattle.std.proofs.lemmas.List.Elements.{filter-append}
use Rattle.sparse_rows.specs.Codeword.{Arrival}
use Rattle.peeling.specs.Decoder.{Decoder}
use Rattle.peeling.specs.Stands.{Receives, StandsFor}
use Rattle.object_file.specs.Received.{arrivals_of}
use Rattle.packet_file.specs.Packets.{Packet}
use Rattle.object_file.specs.Receiving.{StandForAll}

abbrev arrival : Packet → Arrival
arrival p = (p.0.esi, p.1)

-- what arrives for a block stands behind what arrived
pub arrivals_more : (b : ℕ) (before more : List Packet)
    → arrivals_of b (before ++ more) ≡ arrivals_of b before ++ arrivals_of b more
arrivals_more b before more =
    let is_own : Packet → Bool = λ p. p.0.sbn == b in
    ap (map arrival) (filter-append is_own before more) ∙ map-append arrival (filter is_own before)
    (filter is_own more)

-- a packet arrives for its own block, and for no other
pub arrivals_own : (b : ℕ) (p : Packet) → p.0.sbn == b ≡ true
    → arrivals_of b (p ∷ []) ≡ arrival p ∷ []
arrivals_own b p own = ap (λ t. map arrival (cond t (p ∷ []) [])) own

arrivals_other : (b : ℕ) (p : Packet) → p.0.sbn == b ≡ false → arrivals_of b (p ∷ []) ≡ []
arrivals_other b p other = ap (λ t. map arrival (cond t (p ∷ []) [])) other

-- the packet's decoder took it in, and the others stayed
module _ (before : List Packet) (decoders : List Decoder) (p : Packet) (old now : Decoder)
    (inside : p.0.sbn < length decoders)
    (receives : Receives (slice_index_or decoders p.0.sbn old) now p.0.esi p.1)
    (stand : StandForAll before decoders) where
  own_stands : (b : ℕ) (d : Decoder) → p.0.sbn == b ≡ true
      → StandsFor (slice_index_or (slice_set decoders p.0.sbn now) b d)
      (arrivals_of b (before ++ p ∷ []))
  own_stands b d own =
      let same : p.0.sbn ≡ b = eqb-true p.0.sbn b own in
      let now_at : slice_index_or (slice_set decoders p.0.sbn now) b d ≡ now =
      ap (λ i. slice_index_or (slice_set decoders p.0.sbn now) i d) (sym same)
      ∙ get_or-set_same decoders p.0.sbn now d inside in
      let old_at : slice_index_or decoders b old ≡ slice_index_or decoders p.0.sbn old =
      ap (λ i. slice_index_or decoders i old) (sym same) in
      let stood : StandsFor (slice_index_or decoders p.0.sbn old) (arrivals_of b before) =
      subst (λ (x : Decoder). StandsFor x (arrivals_of b before)) old_at
      (stand b old (omega (arith, inside, same))) in
      subst₂ StandsFor (sym now_at) (sym (arrivals_more b before (p ∷ [])
      ∙ ap (λ l. arrivals_of b before ++ l) (arrivals_own b p own)))
      (receives.stands (arrivals_of b before) stood)

  other_stands : (b : ℕ) (d : Decoder) → b < length decoders → p.0.sbn == b ≡ false
      → StandsFor (slice_index_or (slice_set decoders p.0.sbn now) b d)
      (arrivals_of b (before ++ p ∷ []))
  other_stands b d lt other =
      let apart : b ≢ p.0.sbn = λ same. true≢false (sym (eq-eqb p.0.sbn b (sym same)) ∙ other) in
      subst₂ StandsFor (sym (get_or-set_other decoders p.0.sbn b now d apart))
      (sym (arrivals_more b before (p ∷ []) ∙ ap (λ l. arrivals_of b before ++ l)
      (arrivals_other b p other) ∙ append-nil (arrivals_of b before))) (stand b d lt)

  pub stand_after : StandForAll (before ++ p ∷ []) (slice_set decoders p.0.sbn now)
  stand_after b d lt = by_case (p.0.sbn == b) refl where
    by_case : (t : Bool) → p.0.sbn == b ≡ t
        → StandsFor (slice_index_or (slice_set decoders p.0.sbn now) b d)
        (arrivals_of b (before ++ p ∷ []))
    by_case true own = own_stands b d own
    by_case false other = other_stands b d (omega (arith, lt, length-set decoders p.0.sbn now))
        other
