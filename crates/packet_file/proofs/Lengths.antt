-- How many bytes of an encoding symbol its packet has.
use Rattle.std.proofs.Common.{◌≡◌, ℕ, ◌+◌, ◌-◌, ◌*◌, ◌<◌, ◌≤◌, Bool, true, false, arith}
use Rattle.std.proofs.Common.{List, [], length, drop, refl, sym, subst, if◌then◌else◌, ⊎_elim}
use Rattle.std.specs.Int.{div_ceil}
use Rattle.std.proofs.Math.Nat.{mul-le-mul_right}
use Rattle.std.proofs.lemmas.Bool.{cases_lt}
use Rattle.std.proofs.lemmas.List.{drop_all}
use Rattle.fec_base.specs.Symbol.{zero_symbol}
use Rattle.blocking.specs.Blocks.{symbol_total}
use Rattle.blocking.proofs.Spread.{ceil_most, ceil_room}
use Rattle.oti_fields.specs.declared.oti.Oti.{Oti}
use Rattle.oti_fields.specs.declared.identifier.PacketId.{PacketId}
use Rattle.packet_file.specs.Header.{HeaderFields, IsHeader}
use Rattle.packet_file.specs.Files.{HasZeroPadding}
use Rattle.packet_file.specs.Packets.{IsIdOf, IsPacketOf, IsZeroFrom, is_last, last_len, payload_by}
use Rattle.packet_file.specs.Packets.{payload_len, true_len}
use Rattle.packet_file.specs.declared.version.Version.{Version}
use Rattle.packet_file.specs.declared.version.Version.TheVariants.{One, Two}
use Rattle.packet_file.proofs.Limits.{counted}
use Rattle.packet_file.proofs.Sizes.{HasSizes, fields_have_sizes}

-- where an object has a byte, some of its last source symbol is of the object
pub last_in_range : (oti : Oti) → 1 ≤ oti.symbol → 1 ≤ oti.length
    → (1 ≤ last_len oti) × (last_len oti ≤ oti.symbol)
last_in_range oti len bytes =
    let total : ℕ = symbol_total oti.length oti.symbol in
    let room : oti.length ≤ total * oti.symbol = ceil_room oti.length oti.symbol len in
    ⊎_elim (λ (some : 0 < total). in_range total room some (fewer some)) (λ (none : total ≤ 0).
    let nothing : total * oti.symbol ≤ 0 * oti.symbol = mul-le-mul_right oti.symbol none in
    absurd (omega (arith, room, nothing, bytes))) (cases_lt 0 total)
  where
    before : ℕ
    before = (symbol_total oti.length oti.symbol - 1) * oti.symbol

    fewer : 0 < symbol_total oti.length oti.symbol → before < oti.length
    fewer some = ⊎_elim (λ (lt : before < oti.length). lt) (λ (all : oti.length ≤ before).
        absurd (omega (
          arith,
          some,
          ceil_most oti.length oti.symbol
              (symbol_total oti.length oti.symbol - 1) len all,
        ))) (cases_lt before oti.length)

    in_range : (total : ℕ) → oti.length ≤ total * oti.symbol → 0 < total
        → (total - 1) * oti.symbol < oti.length
        → (1 ≤ oti.length - (total - 1) * oti.symbol)
        × (oti.length - (total - 1) * oti.symbol ≤ oti.symbol)
    in_range total room some less =
        let one : total ≡ (total - 1) + 1 = omega (arith, some) in
        let more : total * oti.symbol ≡ (total - 1) * oti.symbol + oti.symbol =
        subst (λ n. n * oti.symbol ≡ (total - 1) * oti.symbol + oti.symbol) (sym one)
        (omega arith) in
        (omega (arith, less), omega (arith, room, more))

-- a file with a block has a byte
pub some_bytes : (h : HeaderFields) (id : PacketId) → IsHeader h → IsIdOf h id → 1 ≤ h.oti.length
some_bytes h id is of = ⊎_elim (λ (some : 0 < h.oti.length). some) none (cases_lt 0 h.oti.length)
  where
    none : h.oti.length ≤ 0 → 1 ≤ h.oti.length
    none few =
        let sizes : HasSizes h.codec h.oti = fields_have_sizes h.codec h.oti is.fields in
        let total : ℕ = symbol_total h.oti.length h.oti.symbol in
        let no_symbol : total ≤ 0 = ceil_most h.oti.length h.oti.symbol 0 sizes.symbol
        (omega (arith, few)) in
        let no_block : div_ceil total h.oti.block ≤ 0 = ceil_most total h.oti.block 0 sizes.block
        (omega (arith, no_symbol)) in
        absurd (omega (arith, of.block, counted total h.oti.block sizes.block, no_block))

-- how many bytes of an encoding symbol are no padding: some, and at most all
pub true_in_range : (h : HeaderFields) (id : PacketId) → IsHeader h → IsIdOf h id
    → (1 ≤ true_len h id) × (true_len h id ≤ h.oti.symbol)
true_in_range h id is of =
    let sizes : HasSizes h.codec h.oti = fields_have_sizes h.codec h.oti is.fields in
    let last = last_in_range h.oti sizes.symbol (some_bytes h id is of) in
    by_last (is_last h id) sizes.symbol last
  where
    by_last : (is : Bool) → 1 ≤ h.oti.symbol
        → (1 ≤ last_len h.oti) × (last_len h.oti ≤ h.oti.symbol)
        → (1 ≤ (if is then last_len h.oti else h.oti.symbol))
        × ((if is then last_len h.oti else h.oti.symbol) ≤ h.oti.symbol)
    by_last true some last = last
    by_last false some last = (some, omega arith)

-- and so of its packet
pub payload_in_range : (h : HeaderFields) (id : PacketId) → IsHeader h → IsIdOf h id
    → (1 ≤ payload_len h id) × (payload_len h id ≤ h.oti.symbol)
payload_in_range h id is of =
    let sizes : HasSizes h.codec h.oti = fields_have_sizes h.codec h.oti is.fields in
    by_version h.version sizes.symbol (true_in_range h id is of)
  where
    by_version : (v : Version) → 1 ≤ h.oti.symbol
        → (1 ≤ true_len h id) × (true_len h id ≤ h.oti.symbol)
        → (1 ≤ payload_by v h.oti.symbol (true_len h id))
        × (payload_by v h.oti.symbol (true_len h id) ≤ h.oti.symbol)
    by_version One some range = (some, omega arith)
    by_version Two some range = range

-- a symbol whose padding is zero makes a packet of the file
pub zero_is_packet : (h : HeaderFields) (id : PacketId) (symbol : List ℕ) → IsIdOf h id
    → length symbol ≡ h.oti.symbol → HasZeroPadding h (id, symbol) → IsPacketOf h (id, symbol)
zero_is_packet h id symbol of long zero = record {
  id = of;
  long = long;
  padded = by_version h.version;
}
  where
    whole : IsZeroFrom h.oti.symbol symbol
    whole =
        let none : drop h.oti.symbol symbol ≡ [] = drop_all h.oti.symbol symbol
        (omega (arith, long)) in
        subst (λ (l : List ℕ). l ≡ zero_symbol (length l)) (sym none) refl

    by_version : (v : Version) → IsZeroFrom (payload_by v h.oti.symbol (true_len h id)) symbol
    by_version One = whole
    by_version Two = zero
