-- The source symbols of a block: where they lie among those of the object.
use Rattle.std.proofs.Common.{◌≡◌, ℕ, ◌+◌, ◌-◌, ◌*◌, ◌<◌, ◌≤◌, List, [], length, take, drop, sum}
use Rattle.std.proofs.Common.{sym, ap, ◌∙◌, arith, add-mul, drop-drop, length-drop, length-take-le}
use Rattle.std.proofs.Common.{mul-le-mul_right, get_or-drop, get_or-take, ext_get_or}
use Rattle.std.specs.Int.{div_ceil}
use Rattle.std.proofs.lemmas.List.Sums.{sum_by_more_le}
use Rattle.blocking.proofs.Spread.{sizes_sum}
use Rattle.fec_base.specs.Symbol.{symbols_of}
use Rattle.sparse_rows.proofs.Symbols.{length_symbols, symbol_is, symbols_of_front}
use Rattle.packet_file.specs.Header.{HeaderFields, IsHeader, source_counts}
use Rattle.packet_file.proofs.Sizes.{HasSizes, fields_have_sizes}
use Rattle.object_file.specs.Codes.{count_at}
use Rattle.object_file.specs.File.{block_start}

module _ (h : HeaderFields) (header : IsHeader h) where
  pub sizes : HasSizes h.codec h.oti
  sizes = fields_have_sizes h.codec h.oti header.fields

  -- the blocks have all source symbols
  pub counts_sum : sum (source_counts h) ≡ div_ceil h.oti.length h.oti.symbol
  counts_sum = sizes_sum h.oti.length h.oti.symbol h.oti.block sizes.symbol sizes.block

  module _ (b : ℕ) (inside : b < length (source_counts h)) where
    -- a block ends within the source symbols
    pub block_within : block_start h b + count_at h b ≤ div_ceil h.oti.length h.oti.symbol
    block_within = omega (arith, sum_by_more_le (λ n. n) (source_counts h) b 0 inside, counts_sum)

    -- and within the bytes of them all
    pub block_room : (bytes : List ℕ) (len start k : ℕ)
        → length bytes ≡ div_ceil h.oti.length h.oti.symbol * h.oti.symbol → len ≡ h.oti.symbol
        → start ≡ block_start h b → k ≡ count_at h b
        → start * len + k * len ≤ length bytes
    block_room bytes len start k long len_is start_is k_is =
        let ends : start + k ≤ div_ceil h.oti.length h.oti.symbol =
        omega (arith, block_within, start_is, k_is) in
        let all : length bytes ≡ div_ceil h.oti.length h.oti.symbol * len = long
        ∙ ap (λ (n : ℕ). div_ceil h.oti.length h.oti.symbol * n) (sym len_is) in
        omega (arith, mul-le-mul_right len ends, add-mul start k len, all)

-- the symbols in a part of the bytes that is as long as they are
pub part_symbols : (len k start : ℕ) (bytes : List ℕ)
    → symbols_of len k (take (start + k * len - start) (drop start bytes)) ≡ symbols_of len k
    (drop start bytes)
part_symbols len k start bytes =
    let size : start + k * len - start ≡ k * len = omega arith in
    ap (λ (n : ℕ). symbols_of len k (take n (drop start bytes))) size
    ∙ symbols_of_front len k (drop start bytes)

-- the symbols from some place on, as some of all
pub symbols_between : (len total start k : ℕ) (bytes : List ℕ) → start + k ≤ total
    → symbols_of len k (drop (start * len) bytes) ≡ take k (drop start (symbols_of len total bytes))
symbols_between len total start k bytes ends =
    ext_get_or [] (symbols_of len k (drop (start * len) bytes))
    (take k (drop start (symbols_of len total bytes)))
    (length_symbols len k (drop (start * len) bytes)
    ∙ sym (length-take-le k (drop start (symbols_of len total bytes))
    (omega (
      arith,
      length-drop start (symbols_of len total bytes),
      length_symbols len total bytes,
      ends,
    ))))
    (λ i lt.
    let inside : i < k = omega (arith, lt, length_symbols len k (drop (start * len) bytes)) in
    let place : start * len + i * len ≡ (start + i) * len = sym (add-mul start i len) in
    symbol_is len k (drop (start * len) bytes) i [] inside
    ∙ ap (take len) (drop-drop (i * len) (start * len) bytes ∙ ap (λ (n : ℕ). drop n bytes) place)
    ∙ sym (get_or-take k (drop start (symbols_of len total bytes)) i [] inside
    ∙ get_or-drop start (symbols_of len total bytes) i []
    ∙ symbol_is len total bytes (start + i) [] (omega (arith, inside, ends))))
