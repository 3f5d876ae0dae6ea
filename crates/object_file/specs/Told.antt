-- What is told as the packets of a file come.
use Rattle.std.specs.Prelude.{◌≡◌, ◌≤◌, ◌<◌, ◌⊎◌, ℕ, Bool, true, List, [], ◌∷◌, ◌++◌, length, take}
use Rattle.std.specs.Prelude.{map, All, Contains, Option, Some}
use Rattle.std.specs.List.{flat_map, enumerate_from}
use Rattle.std.specs.Io.KnownBytes.{Consumes, IsAtEnd}
use Rattle.fec_base.specs.Told.{Telling, GrowsTold, place_of}
use Rattle.fec_base.specs.declared.outside.Place.{Place}
use Rattle.sparse_rows.specs.Matrix.{Matrix}
use Rattle.sparse_rows.specs.Codeword.{positions}
use Rattle.sparse_rows.specs.Closure.{fresh}
use Rattle.sparse_rows.specs.Determined.{IsForced, HoldsSource}
use Rattle.packet_file.specs.Header.{HeaderFields, IsHeader, header_bytes, source_counts}
use Rattle.object_file.specs.Codes.{count_at, header_matrix}
use Rattle.object_file.specs.Received.{arrivals_of}
use Rattle.packet_file.specs.Packets.{IsPacketOf, Packet, spelled}

-- these are the matrices of the file's blocks
abbrev pub HasCodes : HeaderFields → Option ℕ → (ℕ → Matrix) → Type 0
HasCodes h draws code = (b : ℕ) → b < length (source_counts h)
    → header_matrix h draws (count_at h b) ≡ Some (code b)

-- what a packet behind those before makes known in its block, beside its own symbol, rising
abbrev pub new_places : (ℕ → Matrix) → List Packet → Packet → List Place
new_places code before p = map (λ e. record { block = p.0.sbn; esi = e })
    (fresh (code p.0.sbn) (positions (arrivals_of p.0.sbn before)) p.0.esi)

-- what is told of once these packets came: packet by packet what it makes known
unfoldable pub told_places : (ℕ → Matrix) → List Packet → List Place
told_places code packets = flat_map (λ (q : ℕ × Packet). new_places code (take q.0 packets) q.1)
    (enumerate_from 0 packets)

-- a symbol that was told as one of these packets came, by the bytes that what its block had
-- received by then leaves to it
pub record IsToldBy (code : ℕ → Matrix) (len : ℕ) (packets : List Packet) (t : Telling) : Type 0
  where
    pub before : List Packet
    pub packet : Packet
    pub after : List Packet
    pub packets_are : packets ≡ before ++ packet ∷ after
    pub place : Contains (new_places code before packet) (place_of t)
    pub forced : IsForced (code t.block) len (arrivals_of t.block (before ++ packet ∷ [])) t.esi
        t.bytes

-- the watch was told of these places, one after the other, as these packets came, each by its bytes
pub record TellsOf (code : ℕ → Matrix) (len : ℕ) (packets : List Packet) (places : List Place)
    (told told_now : Option (List Telling)) : Type 0 where
  pub tellings : List Telling
  pub grown : GrowsTold told told_now tellings
  pub at : map place_of tellings ≡ places
  pub each : All (IsToldBy code len packets) tellings

-- the closure of what each block received holds its source
abbrev pub IsWhole : HeaderFields → (ℕ → Matrix) → List Packet → Type 0
IsWhole h code packets = (b : ℕ) → b < length (source_counts h)
    → HoldsSource (code b) (arrivals_of b packets)

-- packets that are taken: each is of the file, at most `most`; and with `early` none came once all
-- source was known
pub record AreTaken (h : HeaderFields) (code : ℕ → Matrix) (early : Bool) (most : ℕ)
    (packets : List Packet) : Type 0 where
  pub each : All (IsPacketOf h) packets
  pub few : length packets ≤ most
  pub least : early ≡ true → (i : ℕ) → i < length packets → ¬ IsWhole h code (take i packets)

-- a run stands at these packets of a file: behind the header they were taken from the input, and
-- then `rest`, and what they make known was told
pub record StandsAt (h : HeaderFields) (code : ℕ → Matrix) (early : Bool) (most : ℕ)
    (left left_now : Option (List ℕ)) (told told_now : Option (List Telling))
    (packets : List Packet) (rest : List ℕ) : Type 0 where
  pub packets_are : AreTaken h code early most packets
  pub taken : Consumes left left_now (spelled h packets ++ rest)
  pub told_of : TellsOf code h.oti.symbol packets (told_places code packets) told told_now

-- a run stands within what its last packet makes known: no byte behind that was taken, and of what
-- it makes known `count` were told, which aren't all
pub record StandsWithin (h : HeaderFields) (code : ℕ → Matrix) (early : Bool) (most : ℕ)
    (left left_now : Option (List ℕ)) (told told_now : Option (List Telling)) (before : List Packet)
    (last : Packet) (count : ℕ) : Type 0 where
  pub packets_are : AreTaken h code early most (before ++ last ∷ [])
  pub taken : Consumes left left_now (spelled h (before ++ last ∷ []))
  pub part : count < length (new_places code before last)
  pub told_of : TellsOf code h.oti.symbol (before ++ last ∷ [])
      (told_places code before ++ take count (new_places code before last)) told told_now

-- the last packet was taken: the input is at its end, or with `early` all source is known
abbrev pub IsOver : Bool → Option (List ℕ) → HeaderFields → (ℕ → Matrix) → List Packet → Type 0
IsOver early left_now h code packets = IsAtEnd left_now ⊎ ((early ≡ true) × IsWhole h code packets)

-- the header of a file whose blocks have these matrices was taken
pub record Opens (draws : Option ℕ) (left mid : Option (List ℕ)) (h : HeaderFields)
    (code : ℕ → Matrix) : Type 0 where
  pub header : IsHeader h
  pub codes : HasCodes h draws code
  pub taken : Consumes left mid (header_bytes h)
