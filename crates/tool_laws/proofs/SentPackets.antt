-- The packets of the file of some codewords.
use Rattle.std.proofs.Common.{◌≡◌, ℕ, zero, suc, ◌+◌, ◌<◌, List, [], ◌∷◌, ◌++◌, length, get_or, map}
use Rattle.std.proofs.Common.{sum_by, All, Contains, Option, refl, sym, ap, ap₂, ◌∙◌, subst, arith}
use Rattle.std.proofs.Common.{length-append}
use Rattle.std.specs.List.{flat_map, enumerate_from}
use Rattle.std.proofs.lemmas.Grind.{flat_map-append}
use Rattle.std.proofs.lemmas.List.{length-map}
use Rattle.std.proofs.lemmas.List.FromFn.{length-enumerate_from}
use Rattle.std.proofs.lemmas.List.Sums.{sum-map, sum_by-cons}
use Rattle.std.proofs.lemmas.List.Elements.{All-append, All-cons, All-contains}
use Rattle.std.proofs.lemmas.List.Elements.{Contains-append_left, Contains-append_right}
use Rattle.packet_file.specs.Header.{HeaderFields, IsHeader, source_counts, symbol_count}
use Rattle.packet_file.specs.Header.{total_symbols}
use Rattle.packet_file.specs.Laws.{HeaderIsOne, PacketIsOne}
use Rattle.packet_file.specs.Packets.{IsIdOf, IsPacketOf, Packet, block_symbols, packet_bytes}
use Rattle.packet_file.specs.Packets.{spelled}
use Rattle.packet_file.proofs.OneFile.{packets_one}
use Rattle.object_file.specs.Codes.{count_at}
use Rattle.object_file.specs.File.{AreEncoded, block_packets, identifier, packets}
use Rattle.object_file.proofs.Codewords.{same_sums}
use Rattle.object_file.proofs.PaddedObject.{word_padded}
use Rattle.tool_laws.proofs.MatrixSizes.{matrix_sized}

-- the codeword of block b
abbrev pub word_of : List (List (List ℕ)) → ℕ → List (List ℕ)
word_of words b = get_or words b []

-- a packet of a codeword
abbrev pub packet_at : ℕ → ℕ → List ℕ → Packet
packet_at b esi symbol = (identifier b esi, symbol)

-- the packets of the symbols of a block, which are numbered from some number on
abbrev pub block_list : ℕ → ℕ → List (List ℕ) → List Packet
block_list b first word = map (λ (q : ℕ × List ℕ). packet_at b q.0 q.1) (enumerate_from first word)

-- the packets of blocks, which are numbered from some number on
abbrev pub packet_list : ℕ → List (List (List ℕ)) → List Packet
packet_list first words = flat_map (λ (p : ℕ × List (List ℕ)). block_list p.0 0 p.1)
    (enumerate_from first words)

-- ---- their bytes

block_spelled : (h : HeaderFields) (b first : ℕ) (word : List (List ℕ))
    → spelled h (block_list b first word)
    ≡ flat_map (λ (p : ℕ × List ℕ). packet_bytes h (identifier b p.0, p.1))
    (enumerate_from first word)
block_spelled h b first [] = refl
block_spelled h b first (symbol ∷ word) =
    ap (λ (l : List ℕ). packet_bytes h (identifier b first, symbol) ++ l)
    (block_spelled h b (first + 1) word)

pub list_spelled : (h : HeaderFields) (first : ℕ) (words : List (List (List ℕ)))
    → spelled h (packet_list first words)
    ≡ flat_map (λ (p : ℕ × List (List ℕ)). block_packets h p.0 p.1) (enumerate_from first words)
list_spelled h first [] = refl
list_spelled h first (word ∷ words) =
    flat_map-append (packet_bytes h) (block_list first 0 word) (packet_list (first + 1) words)
    ∙ ap₂ (λ (l k : List ℕ). l ++ k) (block_spelled h first 0 word)
    (list_spelled h (first + 1) words)

-- ---- their number

list_length : (first : ℕ) (words : List (List (List ℕ))) → length (packet_list first words)
    ≡ sum_by length words
list_length first [] = refl
list_length first (word ∷ words) =
    length-append (block_list first 0 word) (packet_list (first + 1) words)
    ∙ ap₂ (λ (a b : ℕ). a + b) (length-map (enumerate_from 0 word)
    (λ (q : ℕ × List ℕ). packet_at first q.0 q.1) ∙ length-enumerate_from 0 word)
    (list_length (first + 1) words)
    ∙ sym (sum_by-cons length word words)

-- ---- what holds of each

module _ (P : Packet → Type 0) where
  block_all : (b first : ℕ) (word : List (List ℕ))
      → ((e : ℕ) → e < length word → P (packet_at b (first + e) (get_or word e [])))
      → All P (block_list b first word)
  block_all b first [] each = λ k d lt. absurd (omega arith)
  block_all b first (symbol ∷ word) each =
      All-cons P (packet_at b first symbol) (block_list b (first + 1) word)
      (let at : first + 0 ≡ first = omega arith in rw at at (each 0 (omega arith)))
      (block_all b (first + 1) word (λ e lt. let at : first + suc e ≡ first + 1 + e = omega arith in
      rw at at (each (suc e) (omega arith))))

  list_all : (first : ℕ) (words : List (List (List ℕ)))
      → ((b e : ℕ) → b < length words → e < length (word_of words b)
      → P (packet_at (first + b) e (get_or (word_of words b) e [])))
      → All P (packet_list first words)
  list_all first [] each = λ k d lt. absurd (omega arith)
  list_all first (word ∷ words) each =
      All-append P (block_list first 0 word) (packet_list (first + 1) words)
      (block_all first 0 word (λ e lt. let at : first + 0 ≡ first = omega arith in let place : 0 + e
      ≡ e = omega arith in rw (place) (rw at at (each 0 e (omega arith) lt))))
      (list_all (first + 1) words (λ b e lt inside. let at : first + suc b ≡ first + 1 + b = omega
      arith in rw at at (each (suc b) e (omega arith) inside)))

-- ---- each of them is there

block_has : (b first : ℕ) (word : List (List ℕ)) (e : ℕ) → e < length word
    → Contains (block_list b first word) (packet_at b (first + e) (get_or word e []))
block_has b first [] e lt = absurd (omega arith)
block_has b first (symbol ∷ word) zero lt = let at : first + 0 ≡ first = omega arith in
    rw at (0, omega arith, refl)
block_has b first (symbol ∷ word) (suc e) lt =
    let at : first + suc e ≡ first + 1 + e = omega arith in
    rw at (Contains-append_right (packet_at b first symbol ∷ []) (block_list b (first + 1) word)
    (packet_at b (first + 1 + e) (get_or word e []))
    (block_has b (first + 1) word e (omega arith)))

list_has : (first : ℕ) (words : List (List (List ℕ))) (b e : ℕ) → b < length words
    → e < length (word_of words b)
    → Contains (packet_list first words) (packet_at (first + b) e (get_or (word_of words b) e []))
list_has first [] b e lt inside = absurd (omega arith)
list_has first (word ∷ words) zero e lt inside =
    let at : first + 0 ≡ first = omega arith in let place : 0 + e ≡ e = omega arith in
    rw at (Contains-append_left (block_list first 0 word) (packet_list (first + 1) words)
    (packet_at first e (get_or word e [])) (rw place at (block_has first 0 word e inside)))
list_has first (word ∷ words) (suc b) e lt inside =
    let at : first + suc b ≡ first + 1 + b = omega arith in
    rw at (Contains-append_right (block_list first 0 word) (packet_list (first + 1) words)
    (packet_at (first + 1 + b) e (get_or (word_of words b) e []))
    (list_has (first + 1) words b e (omega arith) inside))

-- ---- the packets that are sent

-- a packet of the codewords: its symbol is that of its block's codeword at its ESI
pub record IsOfWords (words : List (List (List ℕ))) (p : Packet) : Type 0 where
  pub block : p.0.sbn < length words
  pub symbol : p.0.esi < length (word_of words p.0.sbn)
  pub bytes : p.1 ≡ get_or (word_of words p.0.sbn) p.0.esi []

module _ (header_one : HeaderIsOne) (packet_one : PacketIsOne) (h : HeaderFields) (draws : Option ℕ)
    (object : List ℕ) (words : List (List (List ℕ))) (size : h.oti.length ≡ length object)
    (header : IsHeader h) (encoded : AreEncoded h draws object words) where
  -- the codeword of a block has as many symbols as the header says
  word_long : (b : ℕ) → b < length words → length (word_of words b) ≡ block_symbols h b
  word_long b lt = let block = encoded.each b lt in block.encoded.codeword.count
      ∙ (matrix_sized h draws (count_at h b) block.matrix block.code).1

  of_file : (b e : ℕ) → b < length words → e < length (word_of words b)
      → IsPacketOf h (packet_at b e (get_or (word_of words b) e []))
  of_file b e lt inside =
      let block = encoded.each b lt in
      let of : IsIdOf h (identifier b e) = record {
        block = omega (arith, lt, encoded.counted);
        symbol = omega (arith, inside, word_long b lt);
      } in
      record {
        id = of;
        long = (block.encoded.codeword.symbols e [] inside).long;
        padded = word_padded h header object size b (omega (arith, lt, encoded.counted))
            block.matrix (matrix_sized h draws (count_at h b) block.matrix block.code).0
            (word_of words b) block.encoded e inside of;
      }

  pub list_of_file : All (IsPacketOf h) (packet_list 0 words)
  list_of_file = list_all (IsPacketOf h) 0 words (λ b e lt inside.
      let at : 0 + b ≡ b = omega arith in
      rw at (of_file b e lt inside))

  -- they are those of the codewords
  sent_are : (sent : List Packet) → All (IsPacketOf h) sent → spelled h sent ≡ packets h words
      → sent ≡ packet_list 0 words
  sent_are sent each same = packets_one header_one packet_one h header sent (packet_list 0 words)
      each list_of_file (same ∙ sym (list_spelled h 0 words))

  module _ (sent : List Packet) (each : All (IsPacketOf h) sent)
      (same : spelled h sent ≡ packets h words) where
    pub of_words : (p : Packet) → Contains sent p → IsOfWords words p
    of_words p is = All-contains (IsOfWords words) (packet_list 0 words) p
        (list_all (IsOfWords words) 0 words (λ b e lt inside. let at : 0 + b ≡ b = omega arith in
        rw at (record { block = lt; symbol = inside; bytes = refl })))
        (subst (λ (l : List Packet). Contains l p) (sent_are sent each same) is)

    pub has_each : (b e : ℕ) → b < length words → e < length (word_of words b)
        → Contains sent (packet_at b e (get_or (word_of words b) e []))
    has_each b e lt inside =
        let at : 0 + b ≡ b = omega arith in
        subst (λ (l : List Packet). Contains l (packet_at b e (get_or (word_of words b) e [])))
        (sym (sent_are sent each same)) (rw at at (list_has 0 words b e lt inside))

  -- and as many as all blocks have encoding symbols
  pub list_long : length (packet_list 0 words) ≡ total_symbols h
  list_long = list_length 0 words ∙ same_sums length (symbol_count h) [] 0 words (source_counts h)
      encoded.counted word_long ∙ sym (sum-map (symbol_count h) (source_counts h))
