-- The symbols that are told as packets of a file come.
use Rattle.std.proofs.Common.{◌≡◌, ℕ, ◌<◌, ◌==◌, Bool, List, [], ◌∷◌, ◌++◌, length, get_or, take}
use Rattle.std.proofs.Common.{map, filter, All, Contains, refl, sym, ap, ◌∙◌, subst, arith}
use Rattle.std.proofs.Common.{append_assoc, ext_get_or}
use Rattle.std.proofs.lemmas.List.{get_or-map, length-map, map-append, take_at}
use Rattle.std.proofs.lemmas.List.Elements.{All-contains, All-map, All-take, All-weaker}
use Rattle.std.proofs.lemmas.List.Elements.{Contains-append_left, Contains-push, filter-append}
use Rattle.fec_base.specs.Told.{Telling, place_of}
use Rattle.fec_base.specs.declared.outside.Place.{Place}
use Rattle.sparse_rows.specs.Matrix.{Matrix}
use Rattle.sparse_rows.specs.Codeword.{Arrival, Fits, positions, symbol_at}
use Rattle.sparse_rows.specs.Closure.{fresh}
use Rattle.sparse_rows.specs.Fitting.{IsFitting}
use Rattle.sparse_rows.proofs.Null.{members_below}
use Rattle.packet_file.specs.Header.{HeaderFields, source_counts}
use Rattle.packet_file.specs.Packets.{IsPacketOf, Packet}
use Rattle.object_file.specs.Received.{arrivals_of}
use Rattle.object_file.specs.Told.{IsToldBy, new_places}

-- a place in the block of a packet, within its code
pub record IsPlaceIn (code : ℕ → Matrix) (p : Packet) (q : Place) : Type 0 where
  pub block : q.block ≡ p.0.sbn
  pub within : q.esi < (code p.0.sbn).n

abbrev place : ℕ → ℕ → Place
place block esi = record { block = block; esi = esi }

-- what a packet makes known is in its block
pub new_within : (code : ℕ → Matrix) (before : List Packet) (p : Packet)
    → All (IsPlaceIn code p) (new_places code before p)
new_within code before p =
    let m : Matrix = code p.0.sbn in
    let new : List ℕ = fresh m (positions (arrivals_of p.0.sbn before)) p.0.esi in
    All-map (IsPlaceIn code p) (place p.0.sbn) new
    (All-weaker (λ e. e < m.n) (λ e. IsPlaceIn code p (place p.0.sbn e))
    (λ e lt. record { block = refl; within = lt }) new (members_below m.n _))

-- what arrived first of what arrived
arrivals_front : (b : ℕ) (front after : List Packet)
    → take (length (arrivals_of b front)) (arrivals_of b (front ++ after)) ≡ arrivals_of b front
arrivals_front b front after =
    let of_block : Packet → Bool = λ p. p.0.sbn == b in
    let arrival : Packet → Arrival = λ p. (p.0.esi, p.1) in
    ap (λ (l : List Packet). take (length (arrivals_of b front)) (map arrival l))
    (filter-append of_block front after)
    ∙ ap (take (length (arrivals_of b front))) (map-append arrival (filter of_block front)
    (filter of_block after))
    ∙ take_at (arrivals_of b front) (arrivals_of b after) (length (arrivals_of b front)) refl

module _ (h : HeaderFields) (code : ℕ → Matrix) (packets : List Packet)
    (each : All (IsPacketOf h) packets) (t : Telling) (told : IsToldBy code h.oti.symbol packets t)
  where
    front : List Packet
    front = told.before ++ told.packet ∷ []

    front_is : packets ≡ (told.before ++ told.packet ∷ []) ++ told.after
    front_is = told.packets_are ∙ sym (append_assoc told.before (told.packet ∷ []) told.after)

    -- a symbol that is told is of a block of the file
    pub told_block : t.block < length (source_counts h)
    told_block =
        let last : Contains packets told.packet =
        subst (λ (l : List Packet). Contains l told.packet)
        (sym front_is)
        (Contains-append_left (told.before ++ told.packet ∷ []) told.after told.packet
        (Contains-push told.before told.packet)) in
        let of_file : IsPacketOf h told.packet = All-contains (IsPacketOf h) packets told.packet
        each
        last in
        let at : IsPlaceIn code told.packet (place_of t) = All-contains (IsPlaceIn code told.packet)
        (new_places code told.before told.packet) (place_of t)
        (new_within code told.before told.packet) told.place in
        subst (λ (b : ℕ). b < length (source_counts h)) (sym at.block) of_file.id.block

    -- and has the bytes of each codeword that fits what its block received in the end
    pub told_bytes : (word : List (List ℕ))
        → IsFitting (code t.block) h.oti.symbol (arrivals_of t.block packets) word
        → symbol_at h.oti.symbol word t.esi ≡ t.bytes
    told_bytes word fits =
        let P : Arrival → Type 0 = λ a. symbol_at h.oti.symbol word a.0 ≡ a.1 in
        let first : List Arrival = arrivals_of t.block (told.before ++ told.packet ∷ []) in
        let whole : Fits (arrivals_of t.block ((told.before ++ told.packet ∷ []) ++ told.after))
        (symbol_at h.oti.symbol word) =
        subst (λ (l : List Packet). Fits (arrivals_of t.block l) (symbol_at h.oti.symbol word))
        front_is fits.fits in
        let part : Fits first (symbol_at h.oti.symbol word) =
        subst (All P) (arrivals_front t.block (told.before ++ told.packet ∷ []) told.after)
        (All-take P (length first) (arrivals_of t.block ((told.before ++ told.packet ∷ [])
        ++ told.after)) whole) in
        told.forced.codeword word (record { codeword = fits.codeword; fits = part })

abbrev telling : ℕ → ℕ → List ℕ → Telling
telling block esi bytes = record { block = block; esi = esi; bytes = bytes }

-- where some codeword fits what each block received, the places decide what is told
pub tellings_one : (h : HeaderFields) (code other : ℕ → Matrix) (packets : List Packet)
    → All (IsPacketOf h) packets → ((b : ℕ) → b < length (source_counts h) → code b ≡ other b)
    → ((b : ℕ) → b < length (source_counts h) → (word : List (List ℕ))
    × IsFitting (code b) h.oti.symbol (arrivals_of b packets) word)
    → (tellings others : List Telling) → map place_of tellings ≡ map place_of others
    → All (IsToldBy code h.oti.symbol packets) tellings
    → All (IsToldBy other h.oti.symbol packets) others → tellings ≡ others
tellings_one h code other packets each codes words tellings others places first second =
    let long : length tellings ≡ length others = sym (length-map tellings place_of)
    ∙ ap length places ∙ length-map others place_of in
    let none : Telling = telling 0 0 [] in
    let nowhere : Place = place 0 0 in
    ext_get_or none tellings others long (λ i lt.
    let t : Telling = get_or tellings i none in
    let u : Telling = get_or others i none in
    let mine : IsToldBy code h.oti.symbol packets t = first i none lt in
    let its : IsToldBy other h.oti.symbol packets u = second i none (omega (arith, lt, long)) in
    let at : place_of t ≡ place_of u = sym (get_or-map place_of tellings i none nowhere lt)
    ∙ ap (λ (l : List Place). get_or l i nowhere) places ∙ get_or-map place_of others i none
    nowhere (omega (arith, lt, long)) in
    let block : t.block ≡ u.block = ap (λ (q : Place). q.block) at in
    let esi : t.esi ≡ u.esi = ap (λ (q : Place). q.esi) at in
    let inside : t.block < length (source_counts h) = told_block h code packets each t mine in
    let (word, fits) = words t.block inside in
    let fits_too : IsFitting (other u.block) h.oti.symbol (arrivals_of u.block packets) word =
    subst (λ (b : ℕ). IsFitting (other b) h.oti.symbol (arrivals_of b packets) word) block
    (subst (λ (m : Matrix). IsFitting m h.oti.symbol (arrivals_of t.block packets) word)
    (codes t.block inside) fits) in
    let bytes : t.bytes ≡ u.bytes = sym (told_bytes h code packets each t mine word fits)
    ∙ ap (symbol_at h.oti.symbol word) esi ∙ told_bytes h other packets each u its word
    fits_too in
    let same : telling t.block t.esi t.bytes ≡ telling u.block u.esi u.bytes = cc in
    same)
