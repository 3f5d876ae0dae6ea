-- The symbols of a block's word: the object's last source symbol is zero behind the object.
use Rattle.std.proofs.Common.{◌≡◌, ℕ, ◌+◌, ◌-◌, ◌*◌, ◌<◌, Bool, true, false, List, []}
use Rattle.std.proofs.Common.{if◌then◌else◌, length, get_or, take, drop, sum, refl, sym, ap, ◌∙◌}
use Rattle.std.proofs.Common.{subst, arith, eqb-true, ◌==◌, ◌&&◌, add-mul, drop-drop}
use Rattle.std.proofs.Common.{length-drop, get_or-take}
use Rattle.std.specs.Int.{div_ceil}
use Rattle.std.proofs.lemmas.List.{drop_all, take_all}
use Rattle.std.proofs.lemmas.List.Elements.{All-get_or}
use Rattle.std.proofs.lemmas.List.Sums.{sum_by_more}
use Rattle.sparse_rows.specs.Matrix.{Matrix}
use Rattle.fec_base.specs.Symbol.{IsSymbol, zero_symbol}
use Rattle.sparse_rows.specs.Codeword.{IsEncoded}
use Rattle.sparse_rows.proofs.Symbols.{symbol_is}
use Rattle.packet_file.specs.Header.{HeaderFields, IsHeader, source_counts}
use Rattle.packet_file.specs.Packets.{IsIdOf, IsZeroFrom, is_last, last_len, payload_by}
use Rattle.packet_file.specs.Packets.{payload_len, true_len}
use Rattle.packet_file.specs.declared.version.Version.{Version}
use Rattle.packet_file.specs.declared.version.Version.TheVariants.{One, Two}
use Rattle.packet_file.proofs.Lengths.{last_in_range, some_bytes}
use Rattle.object_file.specs.Codes.{count_at}
use Rattle.object_file.specs.File.{block_start, identifier}
use Rattle.object_file.specs.Made.{block_source}
use Rattle.object_file.proofs.SourceBlocks.{counts_sum, sizes}

-- both tests hold
both_hold : (x y : Bool) → (x && y) ≡ true → (x ≡ true) × (y ≡ true)
both_hold true y is = (refl, is)
both_hold false y is = absurd (cc)

-- bytes that are all zero
abbrev IsZero : List ℕ → Type 0
IsZero l = l ≡ zero_symbol (length l)

module _ (h : HeaderFields) (header : IsHeader h) (bytes : List ℕ)
    (room : length bytes ≡ div_ceil h.oti.length h.oti.symbol * h.oti.symbol)
    (padding : IsZeroFrom h.oti.length bytes) (b : ℕ) (inside : b < length (source_counts h))
    (m : Matrix) (k_is : m.k ≡ count_at h b) (word : List (List ℕ))
    (encoded : IsEncoded m h.oti.symbol (block_source h bytes b) word) (e : ℕ)
    (lt : e < length word) (of : IsIdOf h (identifier b e)) where
  abbrev len : ℕ
  len = h.oti.symbol

  abbrev total : ℕ
  total = div_ceil h.oti.length h.oti.symbol

  abbrev symbol : List ℕ
  symbol = get_or word e []

  long : length symbol ≡ len
  long = (All-get_or (IsSymbol len) word e [] lt encoded.codeword.symbols).long

  -- behind a whole symbol there is nothing
  whole : IsZeroFrom len symbol
  whole =
      let none : drop len symbol ≡ [] = drop_all len symbol (omega (arith, long)) in
      subst IsZero (sym none) refl

  module _ (last_block : b + 1 ≡ length (source_counts h)) (last_symbol : e + 1 ≡ count_at h b)
    where
      -- it is the last of all source symbols
      ends : block_start h b + (e + 1) ≡ total
      ends =
          let counts : List ℕ = source_counts h in
          let all : take (b + 1) counts ≡ counts = take_all (b + 1) counts
          (omega (arith, last_block)) in
          omega (
            arith,
            last_symbol,
            sum_by_more (λ n. n) counts b 0 inside,
            ap sum all,
            counts_sum h header,
          )

      place : block_start h b + e ≡ total - 1
      place = omega (arith, ends)

      abbrev before : ℕ
      before = (total - 1) * len

      size : length bytes ≡ before + len
      size =
          let one : total ≡ (total - 1) + 1 = omega (arith, ends) in
          room ∙ ap (λ n. n * len) one ∙ omega (arith, add-mul (total - 1) 1 len)

      -- so it is what lies behind the others
      symbol_is_rest : symbol ≡ drop before bytes
      symbol_is_rest =
          let source : get_or word e [] ≡ get_or (take m.k word) e [] =
          sym (get_or-take m.k word e [] (omega (arith, last_symbol, k_is))) in
          let at : block_start h b * len + e * len ≡ before =
          sym (add-mul (block_start h b) e len) ∙ ap (λ n. n * len) place in
          source ∙ ap (λ l. get_or l e []) encoded.source_is
          ∙ symbol_is len (count_at h b) (drop (block_start h b * len) bytes) e []
          (omega (arith, last_symbol))
          ∙ ap (take len) (drop-drop (e * len) (block_start h b * len) bytes
          ∙ ap (λ n. drop n bytes) at)
          ∙ take_all len (drop before bytes) (omega (arith, length-drop before bytes, size))

      last_zero : IsZeroFrom (last_len h.oti) symbol
      last_zero =
          let n : ℕ = last_len h.oti in
          let range = last_in_range h.oti (sizes h header).symbol
          (some_bytes h (identifier b e) header of) in
          let ends : before + n ≡ h.oti.length = omega (arith, range.0) in
          let rest : drop n symbol ≡ drop h.oti.length bytes = ap (drop n) symbol_is_rest
          ∙ drop-drop n before bytes ∙ ap (λ i. drop i bytes) ends in
          subst IsZero (sym rest) padding

  by_last : (last : Bool) → is_last h (identifier b e) ≡ last
      → IsZeroFrom (if last then last_len h.oti else len) symbol
  by_last true is =
      let both = both_hold (b + 1 == length (source_counts h)) (e + 1 == count_at h b) is in
      last_zero (eqb-true (b + 1) (length (source_counts h)) both.0)
      (eqb-true (e + 1) (count_at h b) both.1)
  by_last false is = whole

  by_version : (v : Version) → IsZeroFrom (true_len h (identifier b e)) symbol
      → IsZeroFrom (payload_by v len (true_len h (identifier b e))) symbol
  by_version One zero = whole
  by_version Two zero = zero

  -- behind its payload it is zero
  pub padded_symbol : IsZeroFrom (payload_len h (identifier b e)) symbol
  padded_symbol = by_version h.version (by_last (is_last h (identifier b e)) refl)
