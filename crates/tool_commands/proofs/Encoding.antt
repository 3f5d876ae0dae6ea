-- Each object that is ready has its words, and they make its packet file.
use Rattle.std.proofs.Common.{◌≡◌, ℕ, zero, suc, ◌*◌, ◌<◌, ◌≤◌, List, [], ◌∷◌, ◌++◌}
use Rattle.std.proofs.Common.{length, get_or, drop, sum_by, All, Contains, Option}
use Rattle.std.proofs.Common.{Some, refl, sym, ap, ◌∙◌, subst, arith, length-drop}
use Rattle.std.specs.Int.{div_ceil}
use Rattle.std.proofs.lemmas.Option.{same_Some}
use Rattle.std.proofs.lemmas.List.Elements.{All-contains, All-drop, Contains-get_or}
use Rattle.sparse_rows.specs.Matrix.{Matrix, HasShape, IsCode}
use Rattle.sparse_rows.specs.Codeword.{IsEncoded}
use Rattle.sparse_rows.proofs.Encode.{extend, source_has}
use Rattle.sparse_rows.proofs.Symbols.{length_symbols, symbols_are}
use Rattle.packet_file.specs.Header.{HeaderFields, IsHeader, header_bytes, source_counts}
use Rattle.packet_file.specs.Packets.{IsZeroFrom}
use Rattle.object_file.specs.BuiltCodes.{AreCodes}
use Rattle.object_file.specs.Codes.{count_at, header_matrix}
use Rattle.object_file.specs.File.{AreEncoded, IsEncodedBlock, block_start, encode_report, packets}
use Rattle.object_file.specs.File.{padded, source_block, IsEncoding}
use Rattle.object_file.specs.Made.{AreCodewords, IsMade, IsReadyToWrite, block_source}
use Rattle.object_file.specs.Options.{header_for}
use Rattle.tool_commands.specs.EncodeRun.{ReadsObject}
use Rattle.object_file.specs.declared.making.Made.{Made}
use Rattle.object_file.specs.declared.options.EncodeOptions.{EncodeOptions}
use Rattle.object_file.proofs.PaddedObject.{source_between, whole_long, whole_padding}
use Rattle.object_file.proofs.SourceBlocks.{block_room}

-- one item in front of others
chosen_first : {X : Type 0} (d : X) (P : ℕ → X → Type 0) (n : ℕ) (x : X) (xs : List X) → P 0 x
    → ((i : ℕ) → i < n → P (suc i) (get_or xs i d)) → (i : ℕ) → i < suc n
    → P i (get_or (x ∷ xs) i d)
chosen_first d P n x xs first rest zero lt = first
chosen_first d P n x xs first rest (suc i) lt = rest i (omega arith)

-- items that are chosen one by one
chosen : {X : Type 0} (d : X) (P : ℕ → X → Type 0) (n : ℕ) → ((i : ℕ) → i < n → (x : X) × P i x)
    → (xs : List X) × (length xs ≡ n) × ((i : ℕ) → i < n → P i (get_or xs i d))
chosen d P zero each = ([], refl, λ i lt. absurd (omega arith))
chosen d P (suc n) each =
    let first = each 0 (omega arith) in
    let rest = chosen d (λ i. P (suc i)) n (λ i lt. each (suc i) (omega arith)) in
    (first.0 ∷ rest.0, ap suc rest.1, chosen_first d P n first.0 rest.0 first.1 rest.2)

module _ (h : HeaderFields) (header : IsHeader h) (draws : Option ℕ) (object : List ℕ)
    (size : h.oti.length ≡ length object) (matrices : List Matrix)
    (codes : AreCodes h draws matrices)
    (bytes : List ℕ) (bytes_are : bytes ≡ padded (div_ceil (length object) h.oti.symbol *
    h.oti.symbol) object) where
  -- the padded object has all source symbols
  pub ready : IsReadyToWrite h matrices bytes
  ready = record {
    long = ap length bytes_are ∙ whole_long h header object size;
    padding = subst (IsZeroFrom h.oti.length) (sym bytes_are) (whole_padding h header object size);
    each = codes.each;
    sized = codes.sized;
  }

  -- a word of block b by each matrix of its size
  abbrev IsWord : ℕ → List (List ℕ) → Type 0
  IsWord b word = ((m : Matrix) → Contains matrices m → m.k ≡ count_at h b
      → IsEncoded m h.oti.symbol (block_source h bytes b) word) × IsEncodedBlock h draws object b
      word

  module _ (small : All (λ byte. byte < 256) bytes) where
    word : (b : ℕ) → b < length (source_counts h) → (w : List (List ℕ)) × IsWord b w
    word b inside = (
      w,
      (
        λ n held same. subst (λ (x : Matrix). IsEncoded x h.oti.symbol source w) (one n held same)
            encoded,
        record {
          matrix = m;
          code = code;
          shape = shape;
          encoded = subst (λ (s : List (List ℕ)). IsEncoded m h.oti.symbol s w) source_is encoded;
        },
      ),
    )
      where
        place : ℕ
        place = (codes.each b inside).0

        m : Matrix
        m = get_or matrices place (codes.each b inside).1

        among : Contains matrices m
        among = Contains-get_or matrices place (codes.each b inside).1 (codes.each b inside).2

        is_size : m.k ≡ count_at h b
        is_size = ap (λ (n : Matrix). n.k) (codes.each b inside).3 ∙ (codes.each b inside).4

        built : (n : Matrix) → Contains matrices n → n.k ≡ count_at h b
            → header_matrix h draws (count_at h b) ≡ Some n
        built n held same = subst (λ (k : ℕ). header_matrix h draws k ≡ Some n) same
            (All-contains (λ (x : Matrix). header_matrix h draws x.k ≡ Some x) matrices n
            codes.built held)

        code : header_matrix h draws (count_at h b) ≡ Some m
        code = built m among is_size

        one : (n : Matrix) → Contains matrices n → n.k ≡ count_at h b → m ≡ n
        one n held same = same_Some m n (sym code ∙ built n held same)

        shape : HasShape m
        shape = (All-contains IsCode matrices m codes.shaped among).shape

        source : List (List ℕ)
        source = block_source h bytes b

        room : count_at h b * h.oti.symbol ≤ length (drop (block_start h b * h.oti.symbol) bytes)
        room = omega (
          arith,
          length-drop (block_start h b * h.oti.symbol) bytes,
          block_room h header b inside bytes h.oti.symbol (block_start h b) (count_at h b)
              ready.long refl refl refl,
        )

        w : List (List ℕ)
        w = extend h.oti.symbol m.rows source

        encoded : IsEncoded m h.oti.symbol source w
        encoded = source_has m shape h.oti.symbol source
            (length_symbols h.oti.symbol (count_at h b) (drop (block_start h b * h.oti.symbol)
            bytes) ∙ sym is_size)
            (symbols_are h.oti.symbol (count_at h b) (drop (block_start h b * h.oti.symbol) bytes)
            room (All-drop (λ byte. byte < 256) (block_start h b * h.oti.symbol) bytes small))

        source_is : source ≡ source_block h object b
        source_is = ap (λ (l : List ℕ). block_source h l b) bytes_are
            ∙ source_between h header object size b inside

    -- the words of all blocks
    pub words : (ws : List (List (List ℕ))) × AreCodewords h matrices bytes ws
        × AreEncoded h draws object ws
    words =
        let all = chosen [] IsWord (length (source_counts h)) word in
        let inside : (b : ℕ) → b < length all.0 → b < length (source_counts h) =
        λ b lt. omega (arith, all.1) in (
          all.0,
          record {
            counted = all.1;
            each = λ b m lt among same. (all.2 b (inside b lt)).0 m among
                same;
          },
          record { counted = all.1; each = λ b lt. (all.2 b (inside b lt)).1 },
        )

module _ (o : EncodeOptions) (left left_now : Option (List ℕ)) (object : List ℕ)
    (reads : ReadsObject o left left_now object) (made : Made)
    (is : IsMade (header_for o (length object)) o.shape.draws object made) where
  abbrev h : HeaderFields
  h = header_for o (length object)

  -- what was made of an object is ready
  pub made_ready : IsReadyToWrite made.header made.codes.items made.object.items
  made_ready = subst (λ (x : HeaderFields). IsReadyToWrite x made.codes.items made.object.items)
      (sym is.header) (ready h reads.header o.shape.draws object refl made.codes.items is.codes
      made.object.items is.padded_is)

  -- and its words make the packet file
  pub made_file : All (λ byte. byte < 256) made.object.items → (ws : List (List (List ℕ)))
      × AreCodewords made.header made.codes.items made.object.items ws
      × IsEncoding (header_for o (length object)) o.shape.draws object (header_bytes made.header
      ++ packets made.header ws) (encode_report (length ws) (sum_by length ws))
  made_file small =
      let all = words h reads.header o.shape.draws object refl made.codes.items is.codes
      made.object.items is.padded_is small in (
        all.0,
        subst (λ (x : HeaderFields). AreCodewords x made.codes.items made.object.items all.0)
            (sym is.header) all.1,
        record {
          header = reads.header;
          words = all.0;
          encoded = all.2;
          file_is = ap (λ (x : HeaderFields). header_bytes x ++ packets x all.0) is.header;
          report_is = refl;
        },
      )
