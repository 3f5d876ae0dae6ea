-- Bytes decode in one way.
use Rattle.std.proofs.Common.{◌≡◌, ◌≢◌, ◌⊎◌, inl, inr, ⊎_elim, ℕ, ◌+◌, ◌<◌, Bool, true, false, List}
use Rattle.std.proofs.Common.{[], ◌∷◌, ◌++◌, length, get_or, slice_index_or, take, map, All, Option}
use Rattle.std.proofs.Common.{Some, None, IfSome, refl, sym, ap, ap₂, ◌∙◌, subst, arith, append-nil}
use Rattle.std.proofs.Common.{append_assoc, length-append}
use Rattle.std.specs.Io.KnownBytes.{Consumes, IsAtEnd}
use Rattle.std.specs.List.{flat_map, enumerate_from}
use Rattle.std.proofs.lemmas.List.Folds.{list_any_at}
use Rattle.tool_base.specs.declared.status.Status.TheVariants as status
use Rattle.sparse_rows.specs.Fitting.{IsFitting}
use Rattle.std.proofs.lemmas.List.{append_cancel_left, ext_get_or, map-append, take_at}
use Rattle.std.proofs.lemmas.List.Elements.{All-head, All-tail}
use Rattle.std.proofs.lemmas.Option.{same_Some}
use Rattle.fec_base.specs.Told.{GrowsTold, Telling, place_of}
use Rattle.fec_base.specs.declared.outside.Place.{Place}
use Rattle.sparse_rows.specs.Matrix.{Matrix}
use Rattle.sparse_rows.specs.Codeword.{Arrival, positions}
use Rattle.sparse_rows.specs.Closure.{fresh}
use Rattle.fec_session.specs.declared.outcome.Outcome.{Outcome}
use Rattle.fec_session.specs.declared.outcome.Outcome.TheVariants as outcome
use Rattle.packet_file.specs.Header.{HeaderFields, IsHeader, header_bytes, source_counts}
use Rattle.packet_file.specs.Laws.{HeaderIsOne, PacketIsOne}
use Rattle.packet_file.specs.Packets.{IsPacketOf, Packet, packet_bytes, spelled}
use Rattle.packet_file.proofs.OneFile.{same_fronts}
use Rattle.object_file.specs.Codes.{count_at}
use Rattle.sparse_rows.specs.Determined.{HoldsSource}
use Rattle.fec_session.specs.Determines.{Determines}
use Rattle.object_file.specs.Received.{arrivals_of}
use Rattle.tool_commands.specs.DecodeRun.{Decodes}
use Rattle.tool_commands.specs.Outcomes.{decode_report, is_contradicted, object_of, outcome_status}
use Rattle.tool_laws.specs.Laws.{told_at}
use Rattle.object_file.specs.Told.{AreTaken, HasCodes, IsToldBy, IsOver, IsWhole, Opens, new_places}
use Rattle.object_file.specs.Told.{told_places}
use Rattle.tool_laws.proofs.HeaderLength.{length_header}
use Rattle.tool_laws.proofs.DrawLimits.{matrix_one}
use Rattle.tool_laws.proofs.OneOutcome.{outcome_one}
use Rattle.tool_laws.proofs.ToldBytes.{tellings_one}

-- ---- what is taken of known bytes

-- known bytes from which some were taken are those, and then what is left
pub taken_of : (bytes : List ℕ) (now : Option (List ℕ)) (front : List ℕ)
    → Consumes (Some bytes) now front → (rest : List ℕ) × (now ≡ Some rest)
    × (bytes ≡ front ++ rest)
taken_of bytes None front taken = absurd taken
taken_of bytes (Some rest) front taken = (rest, refl, taken)

-- known bytes that were taken to their end are what was taken
pub taken_all : (bytes front : List ℕ) (now : Option (List ℕ)) → Consumes (Some bytes) now front
    → IsAtEnd now → front ≡ bytes
taken_all bytes front now taken ended =
    let (rest, now_is, bytes_are) = taken_of bytes now front taken in
    let none : rest ≡ [] = subst IsAtEnd now_is ended in
    sym (bytes_are ∙ ap (λ (l : List ℕ). front ++ l) none ∙ append-nil front)

-- ---- packets of the same bytes

-- a list goes on where the other ends, and so do the bytes behind it
abbrev pub GoesOn : HeaderFields → List Packet → List Packet → List ℕ → List ℕ → Type 0
GoesOn h packets others rest more = (tail : List Packet) × (others ≡ packets ++ tail)
    × (rest ≡ spelled h tail ++ more)

module _ (packet_one : PacketIsOne) (h : HeaderFields) (header : IsHeader h) where
  -- of packets of a file that begin the same bytes one list goes on where the other ends
  pub one_front : (packets others : List Packet) (rest more : List ℕ) → All (IsPacketOf h) packets
      → All (IsPacketOf h) others → spelled h packets ++ rest ≡ spelled h others ++ more
      → GoesOn h packets others rest more ⊎ GoesOn h others packets more rest
  one_front [] others rest more each other same = inl (others, refl, same)
  one_front (p ∷ packets) [] rest more each other same = inr (p ∷ packets, refl, sym same)
  one_front (p ∷ packets) (q ∷ others) rest more each other same =
      let whole : packet_bytes h p ++ (spelled h packets ++ rest) ≡ packet_bytes h q
      ++ (spelled h others ++ more) =
      sym (append_assoc (packet_bytes h p) (spelled h packets) rest) ∙ same
      ∙ append_assoc (packet_bytes h q) (spelled h others) more in
      let parts = packet_one h p q (spelled h packets ++ rest) (spelled h others ++ more) header
      (All-head (IsPacketOf h) p packets each) (All-head (IsPacketOf h) q others other) whole in
      ⊎_elim
      (λ (g : GoesOn h packets others rest more). inl
      (g.0, ap₂ (λ (a : Packet) (l : List Packet). a ∷ l) (sym parts.0) g.1, g.2))
      (λ (g : GoesOn h others packets more rest). inr
      (g.0, ap₂ (λ (a : Packet) (l : List Packet). a ∷ l) parts.0 g.1, g.2))
      (one_front packets others rest more (All-tail (IsPacketOf h) p packets each)
      (All-tail (IsPacketOf h) q others other) parts.1)

-- ---- where a run is over

-- the matrices of blocks that two runs have are the same
pub codes_one : (h : HeaderFields) (draws limit : Option ℕ) (code other : ℕ → Matrix)
    → HasCodes h draws code → HasCodes h limit other → (b : ℕ) → b < length (source_counts h)
    → code b ≡ other b
codes_one h draws limit code other first second b lt = matrix_one h limit draws (count_at h b)
    (other b) (code b) (second b lt) (first b lt)

module _ (h : HeaderFields) (early : Bool) (most : ℕ) (code other : ℕ → Matrix) (codes : (b : ℕ)
    → b < length (source_counts h) → code b ≡ other b) where
  -- packets have bytes
  no_bytes : (p : Packet) (tail : List Packet) (more : List ℕ)
      → spelled h (p ∷ tail) ++ more ≡ [] → ⊥
  no_bytes p tail more none = cc none

  -- where one run is over the other doesn't go on
  pub no_more : (packets others tail : List Packet) (rest more : List ℕ)
      → IsOver early (Some rest) h code packets → AreTaken h other early most others
      → others ≡ packets ++ tail → rest ≡ spelled h tail ++ more → tail ≡ []
  no_more packets others [] rest more over taken goes bytes = refl
  no_more packets others (p ∷ tail) rest more over taken goes bytes = absurd (⊎_elim
      (λ (end : rest ≡ []). no_bytes p tail more (sym bytes ∙ end))
      (λ (whole : (early ≡ true) × IsWhole h code packets).
      let before : take (length packets) others ≡ packets = ap (take (length packets)) goes
      ∙ take_at packets (p ∷ tail) (length packets) refl in
      let inside : length packets < length others =
      omega (arith, ap length goes, length-append packets (p ∷ tail)) in
      taken.least whole.0 (length packets) inside (subst (IsWhole h other) (sym before)
      (λ b lt. subst (λ (m : Matrix). HoldsSource m (arrivals_of b packets)) (codes b lt)
      (whole.1 b lt))))
      over)

-- ---- what is told

module _ {X Y : Type 0} (f g : ℕ → X → List Y) where
  same_lines : (n : ℕ) (xs : List X) → All (λ x. (i : ℕ) → f i x ≡ g i x) xs
      → flat_map (λ (q : ℕ × X). f q.0 q.1) (enumerate_from n xs)
      ≡ flat_map (λ (q : ℕ × X). g q.0 q.1) (enumerate_from n xs)
  same_lines n [] same = refl
  same_lines n (x ∷ xs) same = ap₂ (λ (l k : List Y). l ++ k) (All-head (λ x. (i : ℕ)
      → f i x ≡ g i x) x xs same n) (same_lines (n + 1) xs (All-tail (λ x. (i : ℕ) → f i x ≡ g i x)
      x xs same))

abbrev place : ℕ → ℕ → Place
place block esi = record { block = block; esi = esi }

-- by the same matrices the same places are told
pub places_one : (h : HeaderFields) (code other : ℕ → Matrix)
    → ((b : ℕ) → b < length (source_counts h) → code b ≡ other b) → (packets : List Packet)
    → All (IsPacketOf h) packets → told_places code packets ≡ told_places other packets
unfolding told_places
places_one h code other codes packets each =
    same_lines (λ i p. new_places code (take i packets) p) (λ i p. new_places other (take i packets)
    p) 0 packets (λ k d lt i. at (get_or packets k d) (each k d lt).id.block i)
  where
    at : (p : Packet) → p.0.sbn < length (source_counts h) → (i : ℕ)
        → new_places code (take i packets) p ≡ new_places other (take i packets) p
    at p lt i = ap (λ (m : Matrix). map (λ e. place p.0.sbn e)
        (fresh m (positions (arrivals_of p.0.sbn (take i packets))) p.0.esi)) (codes p.0.sbn lt)

-- ---- two runs over the same bytes

-- what a run says of the input: the header, the matrices of its blocks, and the packets up to where
-- it is over
pub record IsRead (draws : Option ℕ) (early : Bool) (most : ℕ) (bytes : List ℕ)
    (left_now : Option (List ℕ)) (h : HeaderFields) (code : ℕ
    → Matrix) (packets : List Packet) : Type 0 where
  pub header : IsHeader h
  pub codes : HasCodes h draws code
  pub taken : AreTaken h code early most packets
  pub rest : List ℕ
  pub rest_is : left_now ≡ Some rest
  pub bytes_are : bytes ≡ header_bytes h ++ (spelled h packets ++ rest)
  pub over : IsOver early (Some rest) h code packets

-- known bytes of which two runs took a header and packets
pub read_by : (draws : Option ℕ) (early : Bool) (most : ℕ) (bytes : List ℕ)
    (mid left_now : Option (List ℕ)) (h : HeaderFields) (code : ℕ → Matrix) (packets : List Packet)
    → Opens draws (Some bytes) mid h code → AreTaken h code early most packets
    → Consumes mid left_now (spelled h packets ++ []) → IsOver early left_now h code packets
    → IsRead draws early most bytes left_now h code packets
read_by draws early most bytes mid left_now h code packets opens are taken over =
    let first = taken_of bytes mid (header_bytes h) opens.taken in
    let second = taken_of first.0 left_now (spelled h packets ++ [])
    (subst (λ (l : Option (List ℕ)). Consumes l left_now (spelled h packets ++ [])) first.1 taken)
    in
    record {
      header = opens.header;
      codes = opens.codes;
      taken = are;
      rest = second.0;
      rest_is = second.1;
      bytes_are = first.2 ∙ ap (λ (l : List ℕ). header_bytes h ++ l) (second.2
          ∙ ap (λ (l : List ℕ). l ++ second.0) (append-nil (spelled h packets)));
      over = subst (λ (l : Option (List ℕ)). IsOver early l h code packets) second.1 over;
    }

module _ (header_one : HeaderIsOne) (packet_one : PacketIsOne) (draws limit : Option ℕ)
    (early : Bool) (most highest : ℕ) where
  -- of one header two runs take the same packets
  packets_read : (h : HeaderFields) (code other : ℕ → Matrix) (packets others : List Packet)
      (bytes : List ℕ) (left_now other_left : Option (List ℕ))
      → IsRead draws early most bytes left_now h code packets
      → IsRead limit early highest bytes other_left h other others → (packets ≡ others)
      × (left_now ≡ other_left)
  packets_read h code other packets others bytes left_now other_left first second =
      let same : spelled h packets ++ first.rest ≡ spelled h others ++ second.rest =
      append_cancel_left (header_bytes h) (spelled h packets ++ first.rest)
      (spelled h others ++ second.rest) (sym first.bytes_are ∙ second.bytes_are) in
      let there = codes_one h draws limit code other first.codes second.codes in
      let back = codes_one h limit draws other code second.codes first.codes in
      let both : (packets ≡ others) × (first.rest ≡ second.rest) = ⊎_elim
      (λ (g : GoesOn h packets others first.rest second.rest).
      let none = no_more h early highest code other there packets others g.0 first.rest second.rest
      first.over second.taken g.1 g.2 in (
        sym (g.1 ∙ ap (λ (l : List Packet). packets ++ l) none ∙ append-nil packets),
        g.2 ∙ ap (λ (l : List Packet). spelled h l ++ second.rest) none,
      ))
      (λ (g : GoesOn h others packets second.rest first.rest).
      let none = no_more h early most other code back others packets g.0 second.rest first.rest
      second.over first.taken g.1 g.2 in (
        g.1 ∙ ap (λ (l : List Packet). others ++ l) none ∙ append-nil others,
        sym (g.2 ∙ ap (λ (l : List Packet). spelled h l ++ first.rest) none),
      ))
      (one_front packet_one h first.header packets others first.rest second.rest first.taken.each
      second.taken.each same) in
      (both.0, first.rest_is ∙ ap (λ (l : List ℕ). Some l) both.1 ∙ sym second.rest_is)

  -- and their header is one
  header_read : (h k : HeaderFields) (code other : ℕ → Matrix) (packets others : List Packet)
      (bytes : List ℕ) (left_now other_left : Option (List ℕ))
      → IsRead draws early most bytes left_now h code packets
      → IsRead limit early highest bytes other_left k other others → h ≡ k
  header_read h k code other packets others bytes left_now other_left first second =
      let parts = same_fronts (header_bytes h) (header_bytes k) (spelled h packets ++ first.rest)
      (spelled k others ++ second.rest) (length_header h ∙ sym (length_header k))
      (sym first.bytes_are ∙ second.bytes_are) in
      header_one h k first.header.bits second.header.bits parts.0

-- ---- their outcomes

-- the blocks come out by these packets, by the matrices
pub outcomes_one : (h : HeaderFields) (draws limit : Option ℕ) (code other : ℕ
    → Matrix) (packets : List Packet) (outcomes others : List Outcome) → HasCodes h draws code
    → HasCodes h limit other
    → length outcomes ≡ length (source_counts h) → length others ≡ length (source_counts h)
    → ((b : ℕ) (o : Outcome) → b < length outcomes
    → Determines (code b) h.oti.symbol (arrivals_of b packets) (slice_index_or outcomes b o))
    → ((b : ℕ) (o : Outcome) → b < length others
    → Determines (other b) h.oti.symbol (arrivals_of b packets) (slice_index_or others b o))
    → outcomes ≡ others
outcomes_one h draws limit code other packets outcomes others codes other_codes counted
    other_counted first second =
    ext_get_or outcome.NoCodeword outcomes others (counted ∙ sym other_counted) (λ b lt.
    let inside : b < length (source_counts h) = omega (arith, lt, counted) in
    outcome_one (code b) h.oti.symbol (arrivals_of b packets) (get_or outcomes b outcome.NoCodeword)
    (get_or others b outcome.NoCodeword) (first b outcome.NoCodeword lt)
    (subst (λ (m : Matrix). Determines m h.oti.symbol (arrivals_of b packets)
    (get_or others b outcome.NoCodeword))
    (sym (codes_one h draws limit code other codes other_codes b inside))
    (second b outcome.NoCodeword (omega (arith, inside, other_counted)))))

-- ---- a whole decode

-- what is told in the end, where it is known
told_now_is : (told now : Option (List Telling)) (tellings before : List Telling)
    → told ≡ Some before → GrowsTold told now tellings → now ≡ Some (before ++ tellings)
told_now_is None now tellings before is grown = absurd (cc)
told_now_is (Some ts) None tellings before is grown = absurd grown
told_now_is (Some ts) (Some us) tellings before is grown = ap (λ (l : List Telling). Some l) (grown
    ∙ ap (λ (l : List Telling). l ++ tellings) (same_Some ts before is))

-- and its places
told_places_of : (told now : Option (List Telling)) (tellings : List Telling) (places : List Place)
    (before : List Telling) → told ≡ Some before → GrowsTold told now tellings
    → map place_of tellings ≡ places
    → told_at now ≡ Some (map place_of before ++ places)
told_places_of told now tellings places before is grown at =
    ap told_at (told_now_is told now tellings before is grown) ∙ ap (λ (l : List Place). Some l)
    (map-append place_of before tellings ∙ ap (λ (l : List Place). map place_of before ++ l) at)

module _ (header_one : HeaderIsOne) (packet_one : PacketIsOne) (draws limit : Option ℕ)
    (early : Bool) (most highest : ℕ) (bytes : List ℕ) (told : Option (List Telling))
    (left other_left : Option (List ℕ)) (told_now other_told : Option (List Telling))
    (outcomes others : List Outcome) (object other report other_report : List ℕ)
    (first : Decodes draws early most (Some bytes) left told told_now outcomes object report)
    (second : Decodes limit early highest (Some bytes) other_left told other_told others other
    other_report) where
  mine : IsRead draws early most bytes left first.header first.code first.packets
  mine = read_by draws early most bytes first.mid left first.header first.code first.packets
      first.opens first.stands.packets_are first.stands.taken first.over

  its : IsRead limit early highest bytes other_left second.header second.code second.packets
  its = read_by limit early highest bytes second.mid other_left second.header second.code
      second.packets second.opens second.stands.packets_are second.stands.taken second.over

  headers : first.header ≡ second.header
  headers = header_read header_one packet_one draws limit early most highest first.header
      second.header first.code second.code first.packets second.packets bytes left other_left mine
      its

  its_too : IsRead limit early highest bytes other_left first.header second.code second.packets
  its_too = subst (λ (k : HeaderFields). IsRead limit early highest bytes other_left k second.code
      second.packets) (sym headers) its

  packets_too : (first.packets ≡ second.packets) × (left ≡ other_left)
  packets_too = packets_read header_one packet_one draws limit early most highest first.header
      first.code second.code first.packets second.packets bytes left other_left mine its_too

  -- the second run's outcomes, by the header and the packets of the first
  abbrev ComeOut : HeaderFields → List Packet → Type 0
  ComeOut k packets = (length others ≡ length (source_counts k)) × ((b : ℕ) (o : Outcome)
      → b < length others → Determines (second.code b) k.oti.symbol (arrivals_of b packets)
      (slice_index_or others b o))

  outcomes_too : outcomes ≡ others
  outcomes_too =
      let out : ComeOut first.header first.packets =
      subst (λ (packets : List Packet). ComeOut first.header packets) (sym packets_too.0)
      (subst (λ (k : HeaderFields). ComeOut k second.packets) (sym headers)
      (second.counted, second.determined)) in
      outcomes_one first.header draws limit first.code second.code first.packets outcomes others
      mine.codes its_too.codes first.counted out.0 first.determined out.1

  same_places : told_places first.code first.packets ≡ told_places second.code second.packets
  same_places = places_one first.header first.code second.code (codes_one first.header draws limit
      first.code second.code mine.codes its_too.codes) first.packets mine.taken.each
      ∙ ap (told_places second.code) packets_too.0

  told_too : (before : List Telling) → told ≡ Some before → told_at told_now ≡ told_at other_told
  told_too before is =
      told_places_of told told_now first.stands.told_of.tellings
      (told_places first.code first.packets) before is first.stands.told_of.grown
      first.stands.told_of.at
      ∙ ap (λ (l : List Place). Some (map place_of before ++ l)) same_places
      ∙ sym (told_places_of told other_told second.stands.told_of.tellings
      (told_places second.code second.packets) before is second.stands.told_of.grown
      second.stands.told_of.at)

  told_if : (known : Option (List Telling)) → told ≡ known
      → IfSome known (λ before. told_at told_now ≡ told_at other_told)
  told_if None is = tt
  told_if (Some before) is = told_too before is

  -- where a block isn't contradicted some codeword fits
  some_fits : (m : Matrix) (len : ℕ) (arrivals : List Arrival) (o : Outcome)
      → is_contradicted o ≡ false → Determines m len arrivals o → (word : List (List ℕ))
      × IsFitting m len arrivals word
  some_fits m len arrivals outcome.NoCodeword right is = absurd (cc)
  some_fits m len arrivals (outcome.Block block) right is = (is.0.word, is.0.fits)
  some_fits m len arrivals (outcome.Undetermined word) right is = (is.0.word, is.0.word_fits)

  not_contradicted : outcome_status outcomes ≢ status.NoCodeword → (b : ℕ) → b < length outcomes
      → is_contradicted (get_or outcomes b outcome.NoCodeword) ≡ false
  not_contradicted right b lt = by_case (is_contradicted (get_or outcomes b outcome.NoCodeword))
      refl
    where
      by_case : (t : Bool) → is_contradicted (get_or outcomes b outcome.NoCodeword) ≡ t → t ≡ false
      by_case true is = absurd (right
          (rw (list_any_at is_contradicted outcomes b outcome.NoCodeword lt is) refl))
      by_case false is = refl

  symbols_too : outcome_status outcomes ≢ status.NoCodeword
      → first.stands.told_of.tellings ≡ second.stands.told_of.tellings
  symbols_too right =
      let places : map place_of first.stands.told_of.tellings ≡ map place_of
      second.stands.told_of.tellings = first.stands.told_of.at ∙ same_places
      ∙ sym second.stands.told_of.at in
      let told_second : All (IsToldBy second.code first.header.oti.symbol first.packets)
      second.stands.told_of.tellings =
      subst (λ (packets : List Packet). All (IsToldBy second.code first.header.oti.symbol packets)
      second.stands.told_of.tellings) (sym packets_too.0)
      (subst (λ (k : HeaderFields). All (IsToldBy second.code k.oti.symbol second.packets)
      second.stands.told_of.tellings) (sym headers) second.stands.told_of.each) in
      tellings_one first.header first.code second.code first.packets mine.taken.each
      (codes_one first.header draws limit first.code second.code mine.codes its_too.codes)
      (λ b lt.
      let inside : b < length outcomes = omega (arith, lt, first.counted) in
      some_fits (first.code b) first.header.oti.symbol (arrivals_of b first.packets)
      (get_or outcomes b outcome.NoCodeword) (not_contradicted right b inside)
      (first.determined b outcome.NoCodeword inside))
      first.stands.told_of.tellings second.stands.told_of.tellings places first.stands.told_of.each
      told_second

  symbols_if : outcome_status outcomes ≢ status.NoCodeword → (known : Option (List Telling))
      → told ≡ known → IfSome known (λ before. told_now ≡ other_told)
  symbols_if right None is = tt
  symbols_if right (Some before) is =
      told_now_is told told_now first.stands.told_of.tellings before is first.stands.told_of.grown
      ∙ ap (λ (l : List Telling). Some (before ++ l)) (symbols_too right)
      ∙ sym (told_now_is told other_told second.stands.told_of.tellings before is
      second.stands.told_of.grown)

  -- two runs over the same bytes come to the same
  pub decoding_one : (outcomes ≡ others) × (object ≡ other) × (report ≡ other_report)
      × (left ≡ other_left) × IfSome told (λ before. told_at told_now ≡ told_at other_told)
      × (outcome_status outcomes ≢ status.NoCodeword
      → IfSome told (λ before. told_now ≡ other_told))
  decoding_one = (
    outcomes_too,
    first.object_is ∙ ap₂ (λ (os : List Outcome) (k : HeaderFields). object_of os k.oti.length)
        outcomes_too headers ∙ sym second.object_is,
    first.report_is ∙ ap₂ (λ (os : List Outcome) (l : List Packet). decode_report os (length l))
        outcomes_too packets_too.0 ∙ sym second.report_is,
    packets_too.1,
    told_if told refl,
    λ right. symbols_if right told refl,
  )
