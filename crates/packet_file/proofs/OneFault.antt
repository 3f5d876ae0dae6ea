-- Bytes have one fault at most: each fault is the first test that they fail.
use Rattle.std.proofs.Common.{◌≡◌, ◌≢◌, ◌<◌, ◌⊎◌, inl, inr, ℕ, List, ◌∷◌, ◌++◌, length, take}
use Rattle.std.proofs.Common.{get_or, codes, Option, Some, None, refl, sym, ap, ◌∙◌, arith}
use Rattle.oti_fields.specs.Fields.{FitsBits, codec_number}
use Rattle.oti_fields.specs.Faults.{field_fault}
use Rattle.oti_fields.specs.declared.codec.Codec.{Codec}
use Rattle.oti_fields.specs.declared.check.FieldFault.{FieldFault}
use Rattle.packet_file.specs.Header.{HeaderFields, header_bytes, size_fault, version_number}
use Rattle.packet_file.specs.Faults.{AreNotZero, HasHeaderFault, IsNoCodec, IsNoVersion}
use Rattle.packet_file.specs.Laws.{HeaderIsOne}
use Rattle.packet_file.specs.FaultLaws.{HeaderFaultIsOne, HeaderHasNoFault}
use Rattle.packet_file.specs.declared.fault.FileFault.{FileFault}
use Rattle.packet_file.specs.declared.fault.FileFault.TheVariants.{ShortHeader, BadMagic}
use Rattle.packet_file.specs.declared.fault.FileFault.TheVariants.{BadVersion, BadCodec}
use Rattle.packet_file.specs.declared.fault.FileFault.TheVariants.{BadReserved, Field}
use Rattle.packet_file.specs.declared.fault.FileFault.TheVariants.{TooLarge, TooManyBlocks}
use Rattle.packet_file.specs.declared.version.Version.{Version}

-- two that fail the same test, or both a later one
pub level : {A B C D R : Type 0} → (A → C → R) → (A → D → ⊥) → (B → C → ⊥) → (B → D → R)
    → A ⊎ B → C ⊎ D → R
level both first second rest (inl a) (inl c) = both a c
level both first second rest (inl a) (inr d) = absurd (first a d)
level both first second rest (inr b) (inl c) = absurd (second b c)
level both first second rest (inr b) (inr d) = rest b d

-- ---- the header

-- the first fault of fields, and then of sizes
abbrev fault_or : Option FieldFault → Option FileFault → Option FileFault
fault_or (Some field) sizes = Some (Field field)
fault_or None sizes = sizes

abbrev first_fault : HeaderFields → Option FileFault
first_fault h = fault_or (field_fault h.codec h.oti) (size_fault h)

abbrev IsShort : List ℕ → FileFault → Type 0
IsShort bytes f = (f ≡ ShortHeader (length bytes)) × (length bytes < 26)

abbrev LacksMagic : List ℕ → FileFault → Type 0
LacksMagic bytes f = (f ≡ BadMagic) × (length bytes ≡ 26) × (take 4 bytes ≢ codes "OFPK")

abbrev LacksVersion : List ℕ → FileFault → Type 0
LacksVersion bytes f = (number : ℕ) × (rest : List ℕ) × (f ≡ BadVersion number)
    × (length bytes ≡ 26) × (bytes ≡ codes "OFPK" ++ number ∷ rest) × IsNoVersion number

abbrev LacksCodec : List ℕ → FileFault → Type 0
LacksCodec bytes f = (version : Version) × (number : ℕ) × (rest : List ℕ)
    × (f ≡ BadCodec number) × (length bytes ≡ 26)
    × (bytes ≡ codes "OFPK" ++ version_number version ∷ number ∷ rest) × IsNoCodec number

abbrev LacksZeros : List ℕ → FileFault → Type 0
LacksZeros bytes f = (version : Version) × (codec : Codec) × (a : ℕ) × (b : ℕ) × (rest : List ℕ)
    × (f ≡ BadReserved) × (length bytes ≡ 26)
    × (bytes ≡ codes "OFPK" ++ version_number version ∷ codec_number codec ∷ a ∷ b ∷ rest)
    × AreNotZero a b

abbrev HasFields : List ℕ → FileFault → Type 0
HasFields bytes f = (h : HeaderFields) × FitsBits h.oti × (bytes ≡ header_bytes h)
    × (first_fault h ≡ Some f)

abbrev FromZeros : List ℕ → FileFault → Type 0
FromZeros bytes f = LacksZeros bytes f ⊎ HasFields bytes f

abbrev FromCodec : List ℕ → FileFault → Type 0
FromCodec bytes f = LacksCodec bytes f ⊎ FromZeros bytes f

abbrev FromVersion : List ℕ → FileFault → Type 0
FromVersion bytes f = LacksVersion bytes f ⊎ FromCodec bytes f

abbrev FromMagic : List ℕ → FileFault → Type 0
FromMagic bytes f = LacksMagic bytes f ⊎ FromVersion bytes f

-- the test that bytes with this fault fail
failing : (bytes : List ℕ) (f : FileFault) → HasHeaderFault bytes f
    → IsShort bytes f ⊎ FromMagic bytes f
failing bytes (ShortHeader have) (long, short) =
    inl (ap ShortHeader (sym long), omega (arith, long, short))
failing bytes BadMagic (long, differs) = inr (inl (refl, long, differs))
failing bytes (BadVersion number) (long, rest, is, none) =
    inr (inr (inl (number, rest, refl, long, is, none)))
failing bytes (BadCodec number) (long, version, rest, is, none) =
    inr (inr (inr (inl (version, number, rest, refl, long, is, none))))
failing bytes BadReserved (long, version, codec, a, b, rest, is, not_zero) =
    inr (inr (inr (inr (inl (version, codec, a, b, rest, refl, long, is, not_zero)))))
failing bytes (Field fault) (h, fits, is, found) =
    inr (inr (inr (inr (inr (h, fits, is, ap (λ x. fault_or x (size_fault h)) found)))))
failing bytes (TooLarge limit) (h, fits, is, fields, found) =
    inr (inr (inr (inr (inr (h, fits, is, ap (λ x. fault_or x (size_fault h)) fields ∙ found)))))
failing bytes TooManyBlocks (h, fits, is, fields, found) =
    inr (inr (inr (inr (inr (h, fits, is, ap (λ x. fault_or x (size_fault h)) fields ∙ found)))))
failing bytes _ has = absurd has

-- what bytes are that pass the first tests
zeros_of : (bytes : List ℕ) (f : FileFault) → HasFields bytes f
    → (version : Version) × (codec : Codec) × (rest : List ℕ)
    × (bytes ≡ codes "OFPK" ++ version_number version ∷ codec_number codec ∷ 0 ∷ 0 ∷ rest)
zeros_of bytes f (h, fits, is, found) = (h.version, h.codec, _, is)

codec_of : (bytes : List ℕ) (f : FileFault) → FromZeros bytes f
    → (version : Version) × (codec : Codec) × (rest : List ℕ)
    × (bytes ≡ codes "OFPK" ++ version_number version ∷ codec_number codec ∷ rest)
codec_of bytes f (inl (version, codec, a, b, rest, fault, long, is, not_zero)) =
    (version, codec, a ∷ b ∷ rest, is)
codec_of bytes f (inr (h, fits, is, found)) = (h.version, h.codec, _, is)

version_of : (bytes : List ℕ) (f : FileFault) → FromCodec bytes f
    → (version : Version) × (rest : List ℕ)
    × (bytes ≡ codes "OFPK" ++ version_number version ∷ rest)
version_of bytes f (inl (version, number, rest, fault, long, is, none)) =
    (version, number ∷ rest, is)
version_of bytes f (inr later) =
    let (version, codec, rest, is) = codec_of bytes f later in
    (version, codec_number codec ∷ rest, is)

magic_of : (bytes : List ℕ) (f : FileFault) → FromVersion bytes f
    → take 4 bytes ≡ codes "OFPK"
magic_of bytes f (inl (number, rest, fault, long, is, none)) = ap (take 4) is
magic_of bytes f (inr later) = ap (take 4) (version_of bytes f later).2

long_of : (bytes : List ℕ) (f : FileFault) → FromMagic bytes f → length bytes ≡ 26
long_of bytes f (inl (fault, long, differs)) = long
long_of bytes f (inr (inl (number, rest, fault, long, is, none))) = long
long_of bytes f (inr (inr (inl (version, number, rest, fault, long, is, none)))) = long
long_of bytes f (inr (inr (inr (inl (version, codec, a, b, rest, fault, long, is, not_zero))))) =
    long
long_of bytes f (inr (inr (inr (inr (h, fits, is, found))))) = ap length is

-- so they don't fail those
not_version : (bytes : List ℕ) (f g : FileFault) → LacksVersion bytes f → FromCodec bytes g → ⊥
not_version bytes f g (number, rest, fault, long, is, none) later =
    let (version, more, its) = version_of bytes g later in
    none version (sym (ap (λ l. get_or l 4 0) its) ∙ ap (λ l. get_or l 4 0) is)

not_codec : (bytes : List ℕ) (f g : FileFault) → LacksCodec bytes f → FromZeros bytes g → ⊥
not_codec bytes f g (version, number, rest, fault, long, is, none) later =
    let (second, codec, more, its) = codec_of bytes g later in
    none codec (sym (ap (λ l. get_or l 5 0) its) ∙ ap (λ l. get_or l 5 0) is)

not_zeros : (bytes : List ℕ) (f g : FileFault) → LacksZeros bytes f → HasFields bytes g → ⊥
not_zeros bytes f g (version, codec, a, b, rest, fault, long, is, not_zero) later =
    let (second, other, more, its) = zeros_of bytes g later in
    not_zero (
      sym (ap (λ l. get_or l 6 0) is) ∙ ap (λ l. get_or l 6 0) its,
      sym (ap (λ l. get_or l 7 0) is) ∙ ap (λ l. get_or l 7 0) its,
    )

not_short : (bytes : List ℕ) (f g : FileFault) → IsShort bytes f → FromMagic bytes g → ⊥
not_short bytes f g (fault, short) later = absurd (omega (arith, short, long_of bytes g later))

some_one : {T : Type 0} (a b : T) → Some a ≡ Some b → a ≡ b
some_one a b same = cc same

module _ (header_one : HeaderIsOne) where
  fields_one : (bytes : List ℕ) (f g : FileFault) → HasFields bytes f → HasFields bytes g → f ≡ g
  fields_one bytes f g (h, fits, is, found) (other, others, its, same) =
      let equal : h ≡ other = header_one h other fits others (sym is ∙ its) in
      some_one f g (sym found ∙ ap first_fault equal ∙ same)

  -- two first faults are one
  pub header_fault_one : HeaderFaultIsOne
  header_fault_one bytes f g has its = level
      (λ a b. a.0 ∙ sym b.0)
      (λ a b. not_short bytes f g a b)
      (λ a b. not_short bytes g f b a)
      (λ a b. level
      (λ a b. a.0 ∙ sym b.0)
      (λ a b. a.2 (magic_of bytes g b))
      (λ a b. b.2 (magic_of bytes f a))
      (λ a b. level
      (version_one bytes f g)
      (λ a b. not_version bytes f g a b)
      (λ a b. not_version bytes g f b a)
      (λ a b. level
      (codec_one bytes f g)
      (λ a b. not_codec bytes f g a b)
      (λ a b. not_codec bytes g f b a)
      (λ a b. level
      (zeros_one bytes f g)
      (λ a b. not_zeros bytes f g a b)
      (λ a b. not_zeros bytes g f b a)
      (fields_one bytes f g)
      a b) a b) a b) a b)
      (failing bytes f has) (failing bytes g its)
    where
      version_one : (bytes : List ℕ) (f g : FileFault) → LacksVersion bytes f
          → LacksVersion bytes g → f ≡ g
      version_one bytes f g (number, rest, fault, long, is, none)
          (second, more, its_fault, its_long, its, its_none) =
          fault ∙ ap BadVersion (sym (ap (λ l. get_or l 4 0) is) ∙ ap (λ l. get_or l 4 0) its)
          ∙ sym its_fault

      codec_one : (bytes : List ℕ) (f g : FileFault) → LacksCodec bytes f → LacksCodec bytes g
          → f ≡ g
      codec_one bytes f g (version, number, rest, fault, long, is, none)
          (other, second, more, its_fault, its_long, its, its_none) =
          fault ∙ ap BadCodec (sym (ap (λ l. get_or l 5 0) is) ∙ ap (λ l. get_or l 5 0) its)
          ∙ sym its_fault

      zeros_one : (bytes : List ℕ) (f g : FileFault) → LacksZeros bytes f → LacksZeros bytes g
          → f ≡ g
      zeros_one bytes f g (version, codec, a, b, rest, fault, long, is, not_zero)
          (other, second, c, d, more, its_fault, its_long, its, its_zero) =
          fault ∙ sym its_fault

  -- the bytes of a header fail no test
  pub header_less : HeaderHasNoFault
  header_less h f header has = less (failing (header_bytes h) f has)
    where
      less : IsShort (header_bytes h) f ⊎ FromMagic (header_bytes h) f → ⊥
      less (inl (fault, short)) = absurd (omega (arith, short))
      less (inr (inl (fault, long, differs))) = differs refl
      less (inr (inr (inl (number, rest, fault, long, is, none)))) =
          none h.version (ap (λ l. get_or l 4 0) is)
      less (inr (inr (inr (inl (version, number, rest, fault, long, is, none))))) =
          none h.codec (ap (λ l. get_or l 5 0) is)
      less (inr (inr (inr (inr (inl (version, codec, a, b, rest, fault, long, is, not_zero)))))) =
          not_zero (sym (ap (λ l. get_or l 6 0) is), sym (ap (λ l. get_or l 7 0) is))
      less (inr (inr (inr (inr (inr (other, fits, is, found)))))) =
          let equal : h ≡ other = header_one h other header.bits fits is in
          let none : first_fault h ≡ None =
          ap (λ x. fault_or x (size_fault h)) header.fields ∙ header.sizes in
          absurd (cc (sym none ∙ ap first_fault equal ∙ found))
