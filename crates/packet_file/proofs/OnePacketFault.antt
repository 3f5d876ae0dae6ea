-- A piece has one packet fault at most.
use Rattle.std.proofs.Common.{◌≡◌, ◌≢◌, ◌<◌, ◌≤◌, ◌+◌, ◌*◌, ◌/◌, ◌%◌, ◌^◌, ◌⊎◌, inl, inr, ℕ, List}
use Rattle.std.proofs.Common.{◌++◌, length, drop, get_or, slice_index, refl, sym, ap, ◌∙◌, subst}
use Rattle.std.proofs.Common.{arith}
use Rattle.byteorder.specs.Endian.{big_bytes}
use Rattle.oti_fields.specs.Fields.{FitsIdBits, id_bytes}
use Rattle.oti_fields.specs.Laws.{IdIsOne}
use Rattle.oti_fields.specs.declared.identifier.PacketId.{PacketId}
use Rattle.packet_file.specs.Header.{HeaderFields, IsHeader, source_counts}
use Rattle.packet_file.specs.Packets.{IsIdOf, block_symbols, true_len}
use Rattle.packet_file.specs.Pieces.{IsBroken, IsLead, lead_by, lead_len}
use Rattle.packet_file.specs.Faults.{HasPacketFault}
use Rattle.packet_file.specs.FaultLaws.{PacketFaultIsOne}
use Rattle.packet_file.proofs.Limits.{ids_fit}
use Rattle.packet_file.proofs.OneFault.{level}
use Rattle.packet_file.proofs.OneFile.{same_fronts}
use Rattle.packet_file.proofs.ReadPieces.{mismeasured_whole, unknown_whole}
use Rattle.packet_file.specs.declared.fault.FileFault.{FileFault}
use Rattle.packet_file.specs.declared.fault.FileFault.TheVariants.{ShortPacket, NoSuchBlock}
use Rattle.packet_file.specs.declared.fault.FileFault.TheVariants.{NoSuchSymbol, BadLength}
use Rattle.packet_file.specs.declared.fault.FileFault.TheVariants.{TooManyPackets}
use Rattle.packet_file.specs.declared.version.Version.{Version}
use Rattle.packet_file.specs.declared.version.Version.TheVariants.{Two}

module _ (h : HeaderFields) (index most : ℕ) (bytes : List ℕ) where
  abbrev IsTooMany : FileFault → Type 0
  IsTooMany f = (f ≡ TooManyPackets) × (index ≡ most)

  abbrev IsShort : FileFault → Type 0
  IsShort f = (f ≡ ShortPacket index (length bytes)) × (index < most)
      × IsBroken h index most bytes

  abbrev LacksBlock : FileFault → Type 0
  LacksBlock f = (id : PacketId) × (f ≡ NoSuchBlock index id.sbn) × (index < most)
      × IsLead h bytes id × (length (source_counts h) ≤ id.sbn)

  abbrev LacksSymbol : FileFault → Type 0
  LacksSymbol f = (id : PacketId) × (f ≡ NoSuchSymbol index id.esi) × (index < most)
      × IsLead h bytes id × (id.sbn < length (source_counts h))
      × (block_symbols h id.sbn ≤ id.esi)

  abbrev LacksLength : FileFault → Type 0
  LacksLength f = (id : PacketId) × (len : ℕ) × (f ≡ BadLength index len) × (index < most)
      × (h.version ≡ Two) × IsIdOf h id × (len < 2 ^ 16)
      × (bytes ≡ id_bytes id ++ big_bytes 2 len) × (len ≢ true_len h id)

  abbrev FromSymbol : FileFault → Type 0
  FromSymbol f = LacksSymbol f ⊎ LacksLength f

  abbrev FromBlock : FileFault → Type 0
  FromBlock f = LacksBlock f ⊎ FromSymbol f

  abbrev IsInside : FileFault → Type 0
  IsInside f = IsShort f ⊎ FromBlock f

  -- the test that a piece with this fault fails
  failing : (f : FileFault) → HasPacketFault h index most bytes f → IsTooMany f ⊎ IsInside f
  failing TooManyPackets (all, some, long) = inl (refl, all)
  failing (ShortPacket i have) (few, i_is, long, some, broken) =
      inr (inl (
        ap (λ (n : ℕ). ShortPacket n have) i_is ∙ ap (ShortPacket index) (sym long),
        few,
        broken,
      ))
  failing (NoSuchBlock i sbn) (few, i_is, id, lead, sbn_is, past) =
      inr (inr (inl (
        id,
        ap (λ (n : ℕ). NoSuchBlock n sbn) i_is
            ∙ ap (NoSuchBlock index) (sym sbn_is),
        few,
        lead,
        omega (arith, past, sbn_is),
      )))
  failing (NoSuchSymbol i esi) (few, i_is, id, lead, block, esi_is, past) =
      inr (inr (inr (inl (
        id,
        ap (λ (n : ℕ). NoSuchSymbol n esi) i_is
            ∙ ap (NoSuchSymbol index) (sym esi_is),
        few,
        lead,
        block,
        omega (arith, past, esi_is),
      ))))
  failing (BadLength i len) (few, i_is, two, id, of, fits, is, differs) =
      inr (inr (inr (inr (
        id,
        len,
        ap (λ (n : ℕ). BadLength n len) i_is,
        few,
        two,
        of,
        fits,
        is,
        differs,
      ))))
  failing _ has = absurd has

  -- behind the limit there is no packet to fail
  inside_few : (f : FileFault) → IsInside f → index < most
  inside_few f (inl (fault, few, broken)) = few
  inside_few f (inr (inl (id, fault, few, lead, past))) = few
  inside_few f (inr (inr (inl (id, fault, few, lead, block, past)))) = few
  inside_few f (inr (inr (inr (id, len, fault, few, two, of, fits, is, differs)))) = few

  module _ (id_one : IdIsOne) (header : IsHeader h) where
    -- bytes begin with one identifier
    ids_one : (id other : PacketId) (rest more : List ℕ) → FitsIdBits id → FitsIdBits other
        → bytes ≡ id_bytes id ++ rest → bytes ≡ id_bytes other ++ more → id ≡ other
    ids_one id other rest more fits its_fits is its =
        let fronts = same_fronts (id_bytes id) (id_bytes other) rest more refl (sym is ∙ its) in
        id_one id other fits its_fits fronts.0

    leads_one : (id other : PacketId) → IsLead h bytes id → IsLead h bytes other → id ≡ other
    leads_one id other (rest, fits, long, is) (more, its_fits, its_long, its) =
        ids_one id other rest more fits its_fits is its

    -- the identifier of a lead is of the file where its length is what is wrong
    lead_of : (g : FileFault) (id : PacketId) → IsLead h bytes id → LacksLength g → IsIdOf h id
    lead_of g id (rest, fits, long, is) (
      other,
      len,
      fault,
      few,
      two,
      of,
      len_fits,
      its,
      differs,
    ) = subst (IsIdOf h) (ids_one other id (big_bytes 2 len) rest (ids_fit h other header of) fits
        its is) of

    -- a piece whose identifier isn't of the file doesn't break off
    unknown : (id : PacketId) → IsLead h bytes id → ¬ IsIdOf h id → ¬ IsBroken h index most bytes
    unknown id (rest, fits, long, is) not =
        let spelled : bytes ≡ id_bytes id ++ drop 4 bytes =
        is ∙ ap (λ l. id_bytes id ++ l) (sym (ap (drop 4) is)) in
        unknown_whole id_one h header index most bytes id long fits spelled not

    -- nor does one of another length
    mismeasured : (g : FileFault) → LacksLength g → ¬ IsBroken h index most bytes
    mismeasured g (id, len, fault, few, two, of, fits, is, differs) =
        let spelled : bytes ≡ id_bytes id ++ drop 4 bytes =
        is ∙ ap (λ l. id_bytes id ++ l) (sym (ap (drop 4) is)) in
        let long : length bytes ≡ lead_len h = ap length is
        ∙ sym (ap (λ (v : Version). lead_by v h.oti.symbol) two) in
        let high : slice_index bytes 4 ≡ len / 256 % 256 = ap (λ l. get_or l 4 0) is in
        let low : slice_index bytes 5 ≡ len % 256 = ap (λ l. get_or l 5 0) is in
        let told : slice_index bytes 4 * 256 + slice_index bytes 5 ≡ len =
        omega (arith, high, low, fits) in
        mismeasured_whole id_one h header index most bytes id long (ids_fit h id header of) spelled
        two (λ same. differs (sym told ∙ same))

    not_short : (f g : FileFault) → IsShort f → FromBlock g → ⊥
    not_short f g (fault, few, broken) (inl (id, its, inside, lead, past)) =
        unknown id lead (λ of. absurd (omega (arith, of.block, past))) broken
    not_short f g (fault, few, broken) (inr (inl (id, its, inside, lead, block, past))) =
        unknown id lead (λ of. absurd (omega (arith, of.symbol, past))) broken
    not_short f g (fault, few, broken) (inr (inr lacks)) = mismeasured g lacks broken

    not_block : (f g : FileFault) → LacksBlock f → FromSymbol g → ⊥
    not_block f g (id, fault, few, lead, past)
        (inl (other, its_fault, its_few, its, block, over)) =
        absurd (omega (
          arith,
          past,
          block,
          ap (λ (x : PacketId). x.sbn) (leads_one id other lead its),
        ))
    not_block f g (id, fault, few, lead, past) (inr lacks) =
        absurd (omega (arith, past, (lead_of g id lead lacks).block))

    not_symbol : (f g : FileFault) → LacksSymbol f → LacksLength g → ⊥
    not_symbol f g (id, fault, few, lead, block, past) lacks =
        absurd (omega (arith, past, (lead_of g id lead lacks).symbol))

    blocks_one : (f g : FileFault) → LacksBlock f → LacksBlock g → f ≡ g
    blocks_one f g (id, fault, few, lead, past) (other, its_fault, its_few, its, over) =
        fault ∙ ap (λ (x : PacketId). NoSuchBlock index x.sbn) (leads_one id other lead its)
        ∙ sym its_fault

    symbols_one : (f g : FileFault) → LacksSymbol f → LacksSymbol g → f ≡ g
    symbols_one f g (id, fault, few, lead, block, past)
        (other, its_fault, its_few, its, its_block, over) =
        fault ∙ ap (λ (x : PacketId). NoSuchSymbol index x.esi) (leads_one id other lead its)
        ∙ sym its_fault

    lengths_one : (f g : FileFault) → LacksLength f → LacksLength g → f ≡ g
    lengths_one f g (id, len, fault, few, two, of, fits, is, differs)
        (other, second, its_fault, its_few, its_two, its_of, its_fits, its, its_differs) =
        let high : len / 256 % 256 ≡ second / 256 % 256 =
        sym (ap (λ l. get_or l 4 0) is) ∙ ap (λ l. get_or l 4 0) its in
        let low : len % 256 ≡ second % 256 =
        sym (ap (λ l. get_or l 5 0) is) ∙ ap (λ l. get_or l 5 0) its in
        let equal : len ≡ second = omega (arith, high, low, fits, its_fits) in
        fault ∙ ap (BadLength index) equal ∙ sym its_fault

    faults_one : (f g : FileFault) → IsTooMany f ⊎ IsInside f → IsTooMany g ⊎ IsInside g → f ≡ g
    faults_one f g = level
        (λ a b. a.0 ∙ sym b.0)
        (λ a b. absurd (omega (arith, a.1, inside_few g b)))
        (λ a b. absurd (omega (arith, b.1, inside_few f a)))
        (λ a b. level
        (λ a b. a.0 ∙ sym b.0)
        (λ a b. not_short f g a b)
        (λ a b. not_short g f b a)
        (λ a b. level
        (blocks_one f g)
        (λ a b. not_block f g a b)
        (λ a b. not_block g f b a)
        (λ a b. level
        (symbols_one f g)
        (λ a b. not_symbol f g a b)
        (λ a b. not_symbol g f b a)
        (lengths_one f g)
        a b) a b) a b)

pub packet_fault_one : IdIsOne → PacketFaultIsOne
packet_fault_one id_one h index most bytes f g header has its =
    faults_one h index most bytes id_one header f g (failing h index most bytes f has)
    (failing h index most bytes g its)
