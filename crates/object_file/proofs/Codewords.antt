-- The codewords of the source blocks.
use Rattle.std.proofs.Common.{◌≡◌, ℕ, suc, ◌+◌, ◌-◌, ◌*◌, ◌<◌, List, [], ◌∷◌, length, get_or}
use Rattle.std.proofs.Common.{take, drop, sum_by, Contains, refl, sym, ap, ap₂, ◌∙◌, subst}
use Rattle.std.proofs.Common.{arith}
use Rattle.std.proofs.lemmas.List.Elements.{All-contains, All-get_or, Contains-get_or}
use Rattle.std.proofs.lemmas.List.Sums.{sum-map, sum_by-cons}
use Rattle.sparse_rows.specs.Matrix.{Matrix, IsCode}
use Rattle.fec_base.specs.Symbol.{IsSymbol, symbols_of}
use Rattle.sparse_rows.specs.Codeword.{IsEncoded}
use Rattle.sparse_rows.proofs.Encode.{source_one}
use Rattle.packet_file.specs.Header.{HeaderFields, IsHeader, source_counts, symbol_count}
use Rattle.packet_file.specs.Header.{total_symbols}
use Rattle.packet_file.specs.Packets.{IsIdOf, block_symbols}
use Rattle.object_file.specs.Codes.{count_at}
use Rattle.object_file.specs.File.{block_start, identifier}
use Rattle.object_file.specs.Made.{AreCodewords, ArePackets, IsReadyToWrite, block_source}
use Rattle.object_file.proofs.LastSymbol.{padded_symbol}
use Rattle.object_file.proofs.SourceBlocks.{part_symbols}

-- the word that was encoded from a part of the bytes, by a matrix of the size of a block
module _ (h : HeaderFields) (matrices : List Matrix) (bytes : List ℕ)
    (ready : IsReadyToWrite h matrices bytes) (b : ℕ) (inside : b < length (source_counts h))
    (m : Matrix) (len k start : ℕ) (among : Contains matrices m) (len_is : len ≡ h.oti.symbol)
    (size : k ≡ m.k) (k_is : m.k ≡ count_at h b) (start_is : start ≡ block_start h b)
    (word : List (List ℕ))
    (encoded : IsEncoded m len (symbols_of len m.k (take (start * len + k * len - start * len)
    (drop (start * len) bytes))) word) where
  source_is : symbols_of len m.k (take (start * len + k * len - start * len)
      (drop (start * len) bytes)) ≡ block_source h bytes b
  source_is =
      ap (λ (n : ℕ). symbols_of len m.k (take (start * len + n * len - start * len)
      (drop (start * len) bytes))) size ∙ part_symbols len m.k (start * len) bytes
      ∙ ap (λ (n : ℕ). symbols_of len n (drop (start * len) bytes)) k_is
      ∙ ap (λ (n : ℕ). symbols_of len (count_at h b) (drop (n * len) bytes)) start_is
      ∙ ap (λ (n : ℕ). symbols_of n (count_at h b) (drop (block_start h b * n) bytes)) len_is

  encodes_block : IsEncoded m h.oti.symbol (block_source h bytes b) word
  encodes_block = subst (λ (n : ℕ). IsEncoded m n (block_source h bytes b) word) len_is
      (subst (λ (source : List (List ℕ)). IsEncoded m len source word) source_is encoded)

  -- is the block's codeword
  pub word_is : IsCode m → (words : List (List (List ℕ))) → AreCodewords h matrices bytes words
      → word ≡ get_or words b []
  word_is code words are =
      let within : b < length words = omega (arith, inside, are.counted) in
      source_one m code.shape h.oti.symbol (block_source h bytes b) word (get_or words b [])
      encodes_block (are.each b m within among k_is)

  -- and has as many symbols as the block
  pub word_counted : length word ≡ block_symbols h b
  word_counted = encoded.codeword.count ∙ All-contains (λ (x : Matrix). x.n ≡ symbol_count h x.k)
      matrices m ready.sized among ∙ ap (symbol_count h) k_is

  -- each of which makes a packet of the file
  pub word_packets : IsHeader h → ArePackets h b word
  word_packets header esi lt =
      let symbol : IsSymbol h.oti.symbol (get_or word esi []) =
      All-get_or (IsSymbol h.oti.symbol) word esi [] lt encodes_block.codeword.symbols in
      let of : IsIdOf h (identifier b esi) =
      record { block = inside; symbol = omega (arith, lt, word_counted) } in
      record {
        id = of;
        long = symbol.long;
        padded = padded_symbol h header bytes ready.long ready.padding b inside m k_is word
            encodes_block esi lt of;
      }

-- sums of as many equal terms
pub same_sums : {X Y : Type 0} (f : X → ℕ) (g : Y → ℕ) (a : X) (b : Y) (xs : List X) (ys : List Y)
    → length xs ≡ length ys → ((i : ℕ) → i < length xs → f (get_or xs i a) ≡ g (get_or ys i b))
    → sum_by f xs ≡ sum_by g ys
same_sums f g a b [] [] long same = refl
same_sums f g a b [] (y ∷ ys) long same = absurd (cc)
same_sums f g a b (x ∷ xs) [] long same = absurd (cc)
same_sums f g a b (x ∷ xs) (y ∷ ys) long same =
    sum_by-cons f x xs ∙ ap₂ (λ (m n : ℕ). m + n) (same 0 (omega arith))
    (same_sums f g a b xs ys (omega arith) (λ i lt. same (suc i) (omega arith)))
    ∙ sym (sum_by-cons g y ys)

-- the words have as many symbols as the blocks
pub words_total : (h : HeaderFields) (matrices : List Matrix) (bytes : List ℕ)
    → IsReadyToWrite h matrices bytes → (words : List (List (List ℕ)))
    → AreCodewords h matrices bytes words
    → total_symbols h ≡ sum_by length words
words_total h matrices bytes ready words are = sum-map (symbol_count h) (source_counts h)
    ∙ sym (same_sums length (symbol_count h) [] 0 words (source_counts h) are.counted (λ b lt.
    let has = ready.each b (omega (arith, lt, are.counted)) in
    let m : Matrix = get_or matrices has.0 has.1 in
    let among : Contains matrices m = Contains-get_or matrices has.0 has.1 has.2 in
    let size : m.k ≡ count_at h b = ap (λ (n : Matrix). n.k) has.3 ∙ has.4 in
    (are.each b m lt among size).codeword.count
    ∙ All-contains (λ (x : Matrix). x.n ≡ symbol_count h x.k) matrices m ready.sized among
    ∙ ap (symbol_count h) size))
