-- The source blocks of an object, one after the other, are the object.
use Rattle.std.proofs.Common.{◌≡◌, ℕ, zero, suc, ◌+◌, ◌-◌, ◌*◌, ◌<◌, ◌≤◌, List, [], ◌∷◌, ◌++◌}
use Rattle.std.proofs.Common.{length, get_or, take, drop, replicate, sum, refl, sym, ap, ap₂, ◌∙◌}
use Rattle.std.proofs.Common.{arith, append-nil, add-one}
use Rattle.std.specs.Int.{div_ceil}
use Rattle.std.specs.List.{flat_map}
use Rattle.std.proofs.Math.Seq.{take-suc}
use Rattle.std.proofs.lemmas.Grind.{flat_map-append}
use Rattle.std.proofs.lemmas.List.{drop-take, take-append-drop, take-take, take_all, take_at}
use Rattle.std.proofs.lemmas.List.Sums.{sum_by_more}
use Rattle.fec_base.specs.Symbol.{symbols_of}
use Rattle.sparse_rows.proofs.Symbols.{length_symbols, symbols_more}
use Rattle.blocking.proofs.Spread.{ceil_room}
use Rattle.fec_session.specs.declared.outcome.Outcome.{Outcome}
use Rattle.fec_session.specs.declared.outcome.Outcome.TheVariants as outcome
use Rattle.packet_file.specs.Header.{HeaderFields, IsHeader, source_counts}
use Rattle.object_file.specs.Codes.{count_at}
use Rattle.tool_commands.specs.Outcomes.{object_of, source_bytes}
use Rattle.object_file.specs.File.{block_start, padded, source_block, source_symbols}
use Rattle.tool_laws.specs.RoundTrip.{EachBlock}
use Rattle.object_file.proofs.SourceBlocks.{counts_sum, sizes}

abbrev joined : List (List ℕ) → List ℕ
joined symbols = flat_map (λ symbol. symbol) symbols

-- one more part of a list
take_part : {X : Type 0} (start count : ℕ) (xs : List X) → take (start + count) xs ≡ take start xs
    ++ take count (drop start xs)
take_part {X} start count xs = sym (take-append-drop start (take (start + count) xs))
    ∙ ap₂ (λ (a b : List X). a ++ b) (take-take start (start + count) xs (omega arith))
    (drop-take start count xs)

-- the symbols of some bytes are a front of them
joined_symbols : (len count : ℕ) (bytes : List ℕ) → joined (symbols_of len count bytes)
    ≡ take (count * len) bytes
joined_symbols len zero bytes = let none : 0 ≡ 0 * len = omega arith in ap (λ (n : ℕ). take n bytes)
    none
joined_symbols len (suc count) bytes =
    let size : count * len + len ≡ suc count * len = omega arith in
    let last : List ℕ = take len (drop (count * len) bytes) in
    ap (λ (n : ℕ). joined (symbols_of len n bytes)) (sym (add-one count))
    ∙ ap joined (symbols_more len count bytes)
    ∙ flat_map-append (λ (symbol : List ℕ). symbol) (symbols_of len count bytes) (last ∷ [])
    ∙ ap₂ (λ (a b : List ℕ). a ++ b) (joined_symbols len count bytes) (append-nil last)
    ∙ sym (take_part (count * len) len bytes) ∙ ap (λ (n : ℕ). take n bytes) size

-- a block that has this source
abbrev pub HasBlock : List (List ℕ) → Outcome → Type 0
HasBlock source outcome.NoCodeword = ⊥
HasBlock source (outcome.Block block) = block.source ≡ source
HasBlock source (outcome.Undetermined word) = ⊥

bytes_of : (source : List (List ℕ)) (o : Outcome) → HasBlock source o
    → source_bytes o ≡ joined source
bytes_of source outcome.NoCodeword has = absurd has
bytes_of source (outcome.Block block) has = ap joined has
bytes_of source (outcome.Undetermined word) has = absurd has

module _ (h : HeaderFields) (header : IsHeader h) (object : List ℕ)
    (long : h.oti.length ≡ length object)
    (outcomes : List Outcome) (counted : length outcomes ≡ length (source_counts h))
    (each : EachBlock HasBlock h object outcomes) where
  -- the source symbols of the object
  abbrev symbols : List (List ℕ)
  symbols = source_symbols h.oti.symbol object

  -- those of the first blocks
  fronts : (i : ℕ) → i ≤ length outcomes → flat_map source_bytes (take i outcomes)
      ≡ joined (take (block_start h i) symbols)
  fronts zero le = refl
  fronts (suc i) le =
      let inside : i < length (source_counts h) = omega (arith, counted) in
      let o : Outcome = get_or outcomes i outcome.NoCodeword in
      let next : block_start h i + count_at h i ≡ block_start h (suc i) =
      sym (sum_by_more (λ n. n) (source_counts h) i 0 inside) ∙ ap (block_start h) (add-one i) in
      ap (flat_map source_bytes) (take-suc outcomes i outcome.NoCodeword (omega arith))
      ∙ flat_map-append source_bytes (take i outcomes) (o ∷ [])
      ∙ ap₂ (λ (a b : List ℕ). a ++ b) (fronts i (omega arith)) (append-nil (source_bytes o)
      ∙ bytes_of (source_block h object i) o (each i outcome.NoCodeword (omega arith)))
      ∙ sym (flat_map-append (λ (symbol : List ℕ). symbol) (take (block_start h i) symbols)
      (source_block h object i))
      ∙ ap joined (sym (take_part (block_start h i) (count_at h i) symbols))
      ∙ ap (λ (n : ℕ). joined (take n symbols)) next

  -- those of all blocks
  all_counted : block_start h (length outcomes) ≡ div_ceil (length object) h.oti.symbol
  all_counted = ap sum (take_all (length outcomes) (source_counts h) (omega (arith, counted)))
      ∙ counts_sum h header ∙ ap (λ (n : ℕ). div_ceil n h.oti.symbol) long

  -- are the object, and zero bytes behind it
  all_joined : flat_map source_bytes outcomes ≡ take (div_ceil (length object) h.oti.symbol *
      h.oti.symbol) (padded (div_ceil (length object) h.oti.symbol * h.oti.symbol) object)
  all_joined =
      let count : ℕ = div_ceil (length object) h.oti.symbol in
      let bytes : List ℕ = padded (count * h.oti.symbol) object in
      ap (flat_map source_bytes) (sym (take_all (length outcomes) outcomes (omega arith)))
      ∙ fronts (length outcomes) (omega arith)
      ∙ ap (λ (n : ℕ). joined (take n symbols)) all_counted
      ∙ ap joined (take_all count symbols (omega (arith, length_symbols h.oti.symbol count bytes)))
      ∙ joined_symbols h.oti.symbol count bytes

  pub object_whole : object_of outcomes h.oti.length ≡ object
  object_whole =
      let count : ℕ = div_ceil (length object) h.oti.symbol in
      let room : h.oti.length ≤ count * h.oti.symbol =
      omega (arith, ceil_room (length object) h.oti.symbol (sizes h header).symbol, long) in
      ap (take h.oti.length) all_joined ∙ take-take h.oti.length (count * h.oti.symbol)
      (padded (count * h.oti.symbol) object) room
      ∙ take_at object (replicate (count * h.oti.symbol - length object) 0) h.oti.length (sym long)
