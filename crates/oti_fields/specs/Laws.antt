-- Fields and bytes, one to one.
use Rattle.std.specs.Prelude.{◌≡◌, ◌<◌, ℕ, List, length, All}
use Rattle.oti_fields.specs.Fields.{FitsBits, oti_bytes, FitsIdBits, id_bytes}
use Rattle.oti_fields.specs.declared.oti.Oti.{Oti}
use Rattle.oti_fields.specs.declared.identifier.PacketId.{PacketId}

-- bytes spell the fields of one transmission information at most
abbrev pub FieldsAreOne : Type 0
FieldsAreOne = (oti other : Oti) → FitsBits oti → FitsBits other → oti_bytes oti ≡ oti_bytes other
    → oti ≡ other

-- and of one identifier at most
abbrev pub IdIsOne : Type 0
IdIsOne = (id other : PacketId) → FitsIdBits id → FitsIdBits other → id_bytes id ≡ id_bytes other
    → id ≡ other

-- four bytes spell an identifier
abbrev pub IdIsSpelled : Type 0
IdIsSpelled = (bytes : List ℕ) → length bytes ≡ 4 → All (λ byte. byte < 256) bytes
    → (id : PacketId) × FitsIdBits id × (bytes ≡ id_bytes id)
