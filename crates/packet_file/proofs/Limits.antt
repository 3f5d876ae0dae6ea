-- What the limits of a header say of each block.
use Rattle.std.proofs.Common.{◌≡◌, ℕ, ◌*◌, ◌<◌, ◌≤◌, Bool, true, false, nat_lt, if◌then◌else◌, List}
use Rattle.std.proofs.Common.{length, slice_index, slice_index_or, Option, Some, None, IfSome, All}
use Rattle.std.proofs.Common.{refl, sym, ap, ap₂, ◌∙◌, subst, arith, true≢false, ⊎_elim}
use Rattle.std.specs.Prelude.{⊤}
use Rattle.std.specs.Int.{div_ceil}
use Rattle.std.proofs.Math.Nat.{mul-le-mul_right}
use Rattle.std.proofs.lemmas.Bool.{cases_lt, ltb-false, le-ltb, lt-ltb, false_from_ne_true}
use Rattle.std.proofs.lemmas.List.Folds.{list_any_at}
use Rattle.blocking.specs.Blocks.{block_count, spread, symbol_total}
use Rattle.blocking.proofs.Spread.{ceil_room, spread_long}
use Rattle.oti_fields.specs.Fields.{FitsBits, FitsIdBits}
use Rattle.oti_fields.specs.Faults.{field_fault}
use Rattle.oti_fields.specs.declared.codec.Codec.{Codec}
use Rattle.oti_fields.specs.declared.oti.Oti.{Oti}
use Rattle.oti_fields.specs.declared.identifier.PacketId.{PacketId}
use Rattle.packet_file.specs.declared.version.Version.TheVariants.{One}
use Rattle.packet_file.specs.Header.{HeaderFields, IsHeader, has_large_block, header_bytes}
use Rattle.packet_file.specs.Header.{size_fault, source_counts, symbol_count, symbols_by}
use Rattle.packet_file.specs.Header.{total_symbols}
use Rattle.packet_file.specs.Faults.{HasHeaderFault}
use Rattle.packet_file.specs.Laws.{IsBlockOf}
use Rattle.packet_file.specs.Packets.{IsIdOf}
use Rattle.packet_file.specs.declared.fault.Limit.TheVariants.{Length, BlockBytes, AllSymbols}
use Rattle.packet_file.specs.declared.fault.Limit.TheVariants.{AllBytes}
use Rattle.packet_file.specs.declared.fault.FileFault.{FileFault}
use Rattle.packet_file.specs.declared.fault.FileFault.TheVariants.{ShortHeader, BadMagic}
use Rattle.packet_file.specs.declared.fault.FileFault.TheVariants.{BadVersion, BadCodec}
use Rattle.packet_file.specs.declared.fault.FileFault.TheVariants.{BadReserved, Field, ShortPacket}
use Rattle.packet_file.specs.declared.fault.FileFault.TheVariants.{NoSuchBlock, NoSuchSymbol}
use Rattle.packet_file.specs.declared.fault.FileFault.TheVariants.{TooLarge, TooManyBlocks}
use Rattle.packet_file.specs.declared.fault.FileFault.TheVariants.{TooManyPackets, ReadFault}
use Rattle.packet_file.specs.declared.fault.FileFault.TheVariants.{BadLength, BadPadding}
use Rattle.packet_file.proofs.Sizes.{HasSizes, counts_in_range, fields_have_sizes, no_large_block}
use Rattle.packet_file.proofs.Sizes.{passed, symbols_least, symbols_most}

-- sizes that pass no limit
pub record IsLimited (h : HeaderFields) : Type 0 where
  pub transfer_length : h.oti.length ≤ 268435456
  pub few : block_count h.oti.length h.oti.symbol h.oti.block ≤ 4096
  pub small : has_large_block h ≡ false
  pub symbols : total_symbols h ≤ 4194304
  pub bytes : total_symbols h * h.oti.symbol ≤ 536870912

pub within_limits : (h : HeaderFields) → size_fault h ≡ None → IsLimited h
within_limits h is =
    let transfer_length = passed (nat_lt 268435456 h.oti.length) (TooLarge Length) _ is in
    let few = passed (nat_lt 4096 (block_count h.oti.length h.oti.symbol h.oti.block)) TooManyBlocks
    _ transfer_length.1 in
    let small = passed (has_large_block h) (TooLarge BlockBytes) _ few.1 in
    let symbols = passed (nat_lt 4194304 (total_symbols h)) (TooLarge AllSymbols) _ small.1 in
    let bytes = passed (nat_lt 536870912 (total_symbols h * h.oti.symbol)) (TooLarge AllBytes) None
    symbols.1 in
    record {
      transfer_length = ltb-false 268435456 h.oti.length transfer_length.0;
      few = ltb-false 4096 (block_count h.oti.length h.oti.symbol h.oti.block) few.0;
      small = small.0;
      symbols = ltb-false 4194304 (total_symbols h) symbols.0;
      bytes = ltb-false 536870912 (total_symbols h * h.oti.symbol) bytes.0;
    }

-- a test that fails hands on, and one that holds answers
failed : {F : Type 0} (test : Bool) (fault : F) (rest : Option F) → test ≡ false
    → (if test then Some fault else rest) ≡ rest
failed test fault rest is = rw is refl

held : {F : Type 0} (test : Bool) (fault : F) (rest : Option F) → test ≡ true
    → (if test then Some fault else rest) ≡ Some fault
held test fault rest is = rw is refl

-- the limits in their order, where the first three aren't passed
module _ (codec : Codec) (oti : Oti) (is : field_fault codec oti ≡ None)
    (fits : oti.length ≤ 268435456) (few : block_count oti.length oti.symbol oti.block ≤ 4096)
    (small : symbols_by codec oti (slice_index (source_counts (record {
      version = One;
      codec = codec;
      oti = oti;
    })) 0) * oti.symbol ≤ 268435456) where
  abbrev made : HeaderFields
  made = record { version = One; codec = codec; oti = oti }

  three_passed : size_fault made ≡ (if nat_lt 4194304 (total_symbols made) then Some
      (TooLarge AllSymbols) else if nat_lt 536870912 (total_symbols made * oti.symbol) then Some
      (TooLarge AllBytes) else None)
  three_passed =
      failed (nat_lt 268435456 oti.length) (TooLarge Length) _ (le-ltb 268435456 oti.length fits)
      ∙ failed (nat_lt 4096 (block_count oti.length oti.symbol oti.block)) TooManyBlocks _
      (le-ltb 4096 (block_count oti.length oti.symbol oti.block) few)
      ∙ failed (has_large_block made) (TooLarge BlockBytes) _ (no_large_block codec oti is small)

  pub too_many_symbols : 4194304 < total_symbols made → size_fault made ≡ Some (TooLarge AllSymbols)
  too_many_symbols more = three_passed ∙ held (nat_lt 4194304 (total_symbols made))
      (TooLarge AllSymbols) _ (lt-ltb 4194304 (total_symbols made) more)

  module _ (symbols : total_symbols made ≤ 4194304) where
    four_passed : size_fault made ≡ (if nat_lt 536870912 (total_symbols made * oti.symbol) then Some
        (TooLarge AllBytes) else None)
    four_passed = three_passed ∙ failed (nat_lt 4194304 (total_symbols made)) (TooLarge AllSymbols)
        _ (le-ltb 4194304 (total_symbols made) symbols)

    pub too_many_bytes : 536870912 < total_symbols made * oti.symbol
        → size_fault made ≡ Some (TooLarge AllBytes)
    too_many_bytes more = four_passed ∙ held (nat_lt 536870912 (total_symbols made * oti.symbol))
        (TooLarge AllBytes) None (lt-ltb 536870912 (total_symbols made * oti.symbol) more)

    pub no_limit_passed : total_symbols made * oti.symbol ≤ 536870912 → size_fault made ≡ None
    no_limit_passed bytes = four_passed
        ∙ failed (nat_lt 536870912 (total_symbols made * oti.symbol)) (TooLarge AllBytes) None
        (le-ltb 536870912 (total_symbols made * oti.symbol) bytes)

-- the faults of sizes
abbrev IsSizeFault : FileFault → Type 0
IsSizeFault (TooLarge limit) = ⊤
IsSizeFault TooManyBlocks = ⊤
IsSizeFault (ShortHeader have) = ⊥
IsSizeFault BadMagic = ⊥
IsSizeFault (BadVersion version) = ⊥
IsSizeFault (BadCodec number) = ⊥
IsSizeFault BadReserved = ⊥
IsSizeFault (Field fault) = ⊥
IsSizeFault (ShortPacket index have) = ⊥
IsSizeFault (NoSuchBlock index sbn) = ⊥
IsSizeFault (NoSuchSymbol index esi) = ⊥
IsSizeFault (BadLength index len) = ⊥
IsSizeFault (BadPadding index) = ⊥
IsSizeFault TooManyPackets = ⊥
IsSizeFault ReadFault = ⊥

of_sizes : (test : Bool) (fault : FileFault) (rest : Option FileFault) → IsSizeFault fault
    → IfSome rest IsSizeFault → IfSome (if test then Some fault else rest) IsSizeFault
of_sizes true fault rest first others = first
of_sizes false fault rest first others = others

is_size_fault : (h : HeaderFields) → IfSome (size_fault h) IsSizeFault
is_size_fault h =
    of_sizes (nat_lt 268435456 h.oti.length) (TooLarge Length) _ tt
    (of_sizes (nat_lt 4096 (block_count h.oti.length h.oti.symbol h.oti.block)) TooManyBlocks _
    tt
    (of_sizes (has_large_block h) (TooLarge BlockBytes) _ tt
    (of_sizes (nat_lt 4194304 (total_symbols h)) (TooLarge AllSymbols) _ tt
    (of_sizes (nat_lt 536870912 (total_symbols h * h.oti.symbol)) (TooLarge AllBytes) None tt tt))))

-- the limit that a header's sizes pass is the fault of its bytes
pub has_size_fault : (bytes : List ℕ) (h : HeaderFields) (fault : FileFault) → FitsBits h.oti
    → bytes ≡ header_bytes h → field_fault h.codec h.oti ≡ None → size_fault h ≡ Some fault
    → HasHeaderFault bytes fault
has_size_fault bytes h fault bits spelled fields is =
    by_kind fault is (subst (λ found. IfSome found IsSizeFault) is (is_size_fault h))
  where
    by_kind : (fault : FileFault) → size_fault h ≡ Some fault → IsSizeFault fault
        → HasHeaderFault bytes fault
    by_kind (TooLarge limit) is kind = (h, bits, spelled, fields, is)
    by_kind TooManyBlocks is kind = (h, bits, spelled, fields, is)
    by_kind (ShortHeader have) is kind = absurd kind
    by_kind BadMagic is kind = absurd kind
    by_kind (BadVersion version) is kind = absurd kind
    by_kind (BadCodec number) is kind = absurd kind
    by_kind BadReserved is kind = absurd kind
    by_kind (Field fault) is kind = absurd kind
    by_kind (ShortPacket index have) is kind = absurd kind
    by_kind (NoSuchBlock index sbn) is kind = absurd kind
    by_kind (NoSuchSymbol index esi) is kind = absurd kind
    by_kind (BadLength index len) is kind = absurd kind
    by_kind (BadPadding index) is kind = absurd kind
    by_kind TooManyPackets is kind = absurd kind
    by_kind ReadFault is kind = absurd kind

-- each block of a header is one
pub blocks_are_sized : (h : HeaderFields) → IsHeader h → All (IsBlockOf h) (source_counts h)
blocks_are_sized h is i d inside =
    let k : ℕ = slice_index_or (source_counts h) i d in
    let sizes : HasSizes h.codec h.oti = fields_have_sizes h.codec h.oti is.fields in
    let limits : IsLimited h = within_limits h is.sizes in
    let range : (1 ≤ k) × (k ≤ h.oti.block) = counts_in_range h.codec h.oti is.fields i d inside in
    let test : ℕ → Bool = λ n. nat_lt 268435456 (symbol_count h n * h.oti.symbol) in
    let small : test k ≡ false = false_from_ne_true (test k)
    (λ large. true≢false (sym (list_any_at test (source_counts h) i d inside large)
    ∙ limits.small)) in
    record {
      some = range.0;
      within = range.1;
      encoded = symbols_least h.codec h.oti k sizes;
      symbols = omega (arith, symbols_most h.codec h.oti k sizes range.1, sizes.most);
      bytes = ltb-false 268435456 (symbol_count h k * h.oti.symbol) small;
    }

pub block_is_sized : (h : HeaderFields) (i : ℕ) → IsHeader h → i < length (source_counts h)
    → IsBlockOf h (slice_index (source_counts h) i)
block_is_sized h i is inside = blocks_are_sized h is i 0 inside

-- there are as many blocks as counted
pub counted : (total most : ℕ) → 1 ≤ most
    → length (spread total (div_ceil total most)) ≡ div_ceil total most
counted total most some = ⊎_elim (λ (blocks : 0 < div_ceil total most). spread_long total
    (div_ceil total most) blocks) none (cases_lt 0 (div_ceil total most))
  where
    none : div_ceil total most ≤ 0 → length (spread total (div_ceil total most)) ≡ div_ceil total
        most
    none few =
        let nothing : div_ceil total most * most ≤ 0 * most = mul-le-mul_right most few in
        let no_symbol : total ≡ 0 = omega (arith, ceil_room total most some, nothing) in
        let no_block : div_ceil total most ≡ 0 = omega (arith, few) in
        ap₂ (λ n count. length (spread n count)) no_symbol no_block ∙ sym no_block

-- there are few blocks
pub blocks_are_few : (h : HeaderFields) → IsHeader h → length (source_counts h) ≤ 4096
blocks_are_few h is =
    let limits : IsLimited h = within_limits h is.sizes in
    let sizes : HasSizes h.codec h.oti = fields_have_sizes h.codec h.oti is.fields in
    omega (
      arith,
      counted (symbol_total h.oti.length h.oti.symbol) h.oti.block sizes.block,
      limits.few,
    )

-- the identifiers of a header's packets fit into their bits
pub ids_fit : (h : HeaderFields) (id : PacketId) → IsHeader h → IsIdOf h id → FitsIdBits id
ids_fit h id is of = record {
  sbn_bits = omega (arith, of.block, blocks_are_few h is);
  esi_bits = omega (arith, of.symbol, (block_is_sized h id.sbn is of.block).symbols);
}

-- block i of a header that a value keeps, by the plan that it keeps
pub block_at : (h kept : HeaderFields) (plan : List ℕ) (i n : ℕ) → kept ≡ h
    → IsHeader kept × (plan ≡ source_counts kept) → i < length (source_counts h)
    → n ≡ slice_index plan i → IsBlockOf kept n
block_at h kept plan i n same is inside n_is =
    let at : slice_index (source_counts kept) i ≡ n =
    sym (n_is ∙ ap (λ counts. slice_index counts i) is.1) in
    subst (IsBlockOf kept) at (block_is_sized kept i is.0
    (subst (λ (k : HeaderFields). i < length (source_counts k)) (sym same) inside))

-- the fields of a header pass no limit, whatever the version
pub no_size_fault : (h : HeaderFields) → IsHeader h → (codec : Codec) (oti : Oti) → codec ≡ h.codec
    → oti ≡ h.oti → (fault : FileFault)
    → size_fault (record { version = One; codec = codec; oti = oti }) ≡ Some fault → ⊥
no_size_fault h is codec oti codec_is oti_is fault passed_limit =
    let same : size_fault (record { version = One; codec = codec; oti = oti }) ≡ size_fault h =
    ap₂ (λ (c : Codec) (o : Oti). size_fault (record { version = One; codec = c; oti = o }))
    codec_is oti_is in
    let none : Some fault ≡ None = sym passed_limit ∙ same ∙ is.sizes in
    absurd (cc none)
