-- An object with zeros behind it, up to its last source symbol's end.
use Rattle.std.proofs.Common.{◌≡◌, ℕ, ◌+◌, ◌-◌, ◌*◌, ◌<◌, ◌≤◌, List, [], length, get_or, take, drop}
use Rattle.std.proofs.Common.{replicate, sym, ap, ◌∙◌, subst, arith, length-append}
use Rattle.std.specs.Int.{div_ceil}
use Rattle.std.proofs.lemmas.List.{drop_at, length-replicate}
use Rattle.blocking.proofs.Spread.{ceil_room}
use Rattle.fec_base.specs.Symbol.{symbols_of, zero_symbol}
use Rattle.sparse_rows.specs.Matrix.{Matrix}
use Rattle.sparse_rows.specs.Codeword.{IsEncoded}
use Rattle.packet_file.specs.Header.{HeaderFields, IsHeader, source_counts}
use Rattle.packet_file.specs.Packets.{IsIdOf, IsZeroFrom, payload_len}
use Rattle.packet_file.proofs.Sizes.{fields_have_sizes}
use Rattle.object_file.specs.Codes.{count_at}
use Rattle.object_file.specs.File.{block_start, identifier, padded, source_block}
use Rattle.object_file.specs.Made.{block_source}
use Rattle.object_file.proofs.LastSymbol.{padded_symbol}
use Rattle.object_file.proofs.SourceBlocks.{block_within, symbols_between}

-- bytes with so many more behind them
pub padded_long : (size : ℕ) (bytes : List ℕ) → length bytes ≤ size
    → length (padded size bytes) ≡ size
padded_long size bytes le = length-append bytes (replicate (size - length bytes) 0)
    ∙ omega (arith, length-replicate {A = ℕ} (size - length bytes) 0)

-- and zero behind themselves
pub zero_behind : (n size : ℕ) (bytes : List ℕ) → length bytes ≡ n
    → IsZeroFrom n (padded size bytes)
zero_behind n size bytes long =
    let zeros : List ℕ = replicate (size - length bytes) 0 in
    subst (λ l. l ≡ zero_symbol (length l)) (sym (drop_at bytes zeros n long))
    (ap zero_symbol (sym (length-replicate {A = ℕ} (size - length bytes) 0)))

module _ (h : HeaderFields) (header : IsHeader h) (object : List ℕ)
    (size : h.oti.length ≡ length object) where
  -- the object with all of its source symbols
  abbrev pub whole_object : List ℕ
  whole_object = padded (div_ceil (length object) h.oti.symbol * h.oti.symbol) object

  pub whole_long : length whole_object ≡ div_ceil h.oti.length h.oti.symbol * h.oti.symbol
  whole_long = padded_long (div_ceil (length object) h.oti.symbol * h.oti.symbol) object
      (ceil_room (length object) h.oti.symbol
      (fields_have_sizes h.codec h.oti header.fields).symbol)
      ∙ ap (λ (n : ℕ). div_ceil n h.oti.symbol * h.oti.symbol) (sym size)

  pub whole_padding : IsZeroFrom h.oti.length whole_object
  whole_padding = zero_behind h.oti.length
      (div_ceil (length object) h.oti.symbol * h.oti.symbol) object (sym size)

  module _ (b : ℕ) (inside : b < length (source_counts h)) where
    -- the source symbols of a block, in its bytes and among those of the object
    pub source_between : block_source h whole_object b ≡ source_block h object b
    source_between =
        let ends : block_start h b + count_at h b ≤ div_ceil (length object) h.oti.symbol =
        subst (λ (n : ℕ). block_start h b + count_at h b ≤ div_ceil n h.oti.symbol) size
        (block_within h header b inside) in
        symbols_between h.oti.symbol (div_ceil (length object) h.oti.symbol) (block_start h b)
        (count_at h b) whole_object ends

    -- a symbol of the block's word is zero behind its payload
    pub word_padded : (m : Matrix) → m.k ≡ count_at h b → (word : List (List ℕ))
        → IsEncoded m h.oti.symbol (source_block h object b) word → (e : ℕ) → e < length word
        → IsIdOf h (identifier b e)
        → IsZeroFrom (payload_len h (identifier b e)) (get_or word e [])
    word_padded m k_is word encoded e lt of =
        padded_symbol h header whole_object whole_long whole_padding b inside m k_is word
        (subst (λ s. IsEncoded m h.oti.symbol s word) (sym source_between) encoded) e lt of
