-- What comes back of an object by packets of its file.
use Rattle.std.proofs.Common.{◌≡◌, ◌↔◌, ◌⊎◌, inl, inr, ℕ, ◌<◌, Bool, true, false, if◌then◌else◌}
use Rattle.std.proofs.Common.{List, [], length, get_or, All, Contains, Option, Some, refl, sym, ap}
use Rattle.std.proofs.Common.{◌∙◌, subst, arith, true≢false}
use Rattle.std.specs.List.{list_any}
use Rattle.std.proofs.lemmas.List.{append_cancel_left, get_or_default}
use Rattle.std.proofs.lemmas.List.Elements.{All-contains}
use Rattle.std.proofs.lemmas.List.Folds.{list_any_at, list_any_none}
use Rattle.std.proofs.lemmas.Option.{same_Some}
use Rattle.fec_base.specs.Symbol.{zero_symbol}
use Rattle.sparse_rows.specs.Laws.{NullWordHoldsSource}
use Rattle.sparse_rows.specs.Matrix.{HasShape, Matrix}
use Rattle.sparse_rows.specs.Codeword.{Arrival, positions}
use Rattle.sparse_rows.specs.Closure.{closure}
use Rattle.sparse_rows.specs.NullWord.{IsNullWord}
use Rattle.sparse_rows.specs.Fitting.{IsFitting, IsUndetermined}
use Rattle.sparse_rows.specs.Determined.{HoldsSource, IsForced}
use Rattle.null_witness.specs.Laws.{ClosureHasSameNullWords, UndeterminedByNullWord}
use Rattle.peeling.specs.Laws.{ClosureHolds}
use Rattle.fec_session.specs.declared.outcome.Outcome.{Outcome}
use Rattle.fec_session.specs.declared.outcome.Outcome.TheVariants as outcome
use Rattle.packet_file.specs.Header.{HeaderFields, IsHeader, header_bytes, source_counts}
use Rattle.packet_file.specs.Laws.{HeaderIsOne, PacketIsOne}
use Rattle.tool_base.specs.declared.status.Status.TheVariants as status
use Rattle.object_file.specs.Codes.{count_at, header_matrix}
use Rattle.tool_commands.specs.Outcomes.{is_contradicted, is_undetermined, outcome_status}
use Rattle.object_file.specs.File.{IsEncodedBlock, packets, source_block}
use Rattle.packet_file.specs.Packets.{Packet, spelled}
use Rattle.fec_session.specs.Determines.{Determines}
use Rattle.object_file.specs.Received.{arrivals_of}
use Rattle.object_file.specs.Told.{HasCodes, IsWhole}
use Rattle.tool_laws.specs.RoundTrip.{AreAmong, AreSent, BlockComesOut, ComeOutBy, EachBlock}
use Rattle.tool_laws.specs.RoundTrip.{GiveBack, IsByPeeling, IsRight, LackNullWords, LacksNullWord}
use Rattle.tool_laws.proofs.DrawLimits.{matrix_one}
use Rattle.tool_laws.proofs.OneOutcome.{not_both}
use Rattle.tool_laws.proofs.SentPackets.{IsOfWords, has_each, of_words, packet_at, word_of}
use Rattle.tool_laws.proofs.SentSymbols.{arrivals_fit, peeled_by, position_came, right_by}
use Rattle.object_file.proofs.SourceBlocks.{sizes}
use Rattle.tool_laws.proofs.WholeObject.{HasBlock, object_whole}

-- ---- one outcome

is_whole : (source : List (List ℕ)) (o : Outcome) → IsRight source o → is_undetermined o ≡ false
    → HasBlock source o
is_whole source outcome.NoCodeword right none = right
is_whole source (outcome.Block block) right none = right
is_whole source (outcome.Undetermined word) right none = absurd (cc)

peeled_whole : (source : List (List ℕ)) (o : Outcome) → IsByPeeling source o → HasBlock source o
peeled_whole source outcome.NoCodeword peeled = peeled
peeled_whole source (outcome.Block block) peeled = peeled.0
peeled_whole source (outcome.Undetermined word) peeled = peeled

not_contradicted : (source : List (List ℕ)) (o : Outcome) → IsRight source o
    → is_contradicted o ≡ false
not_contradicted source outcome.NoCodeword right = absurd right
not_contradicted source (outcome.Block block) right = refl
not_contradicted source (outcome.Undetermined word) right = refl

whole_right : (source : List (List ℕ)) (o : Outcome) → HasBlock source o → IsRight source o
whole_right source outcome.NoCodeword has = has
whole_right source (outcome.Block block) has = has
whole_right source (outcome.Undetermined word) has = tt

not_open : (source : List (List ℕ)) (o : Outcome) → HasBlock source o → is_undetermined o ≡ false
not_open source outcome.NoCodeword has = absurd has
not_open source (outcome.Block block) has = refl
not_open source (outcome.Undetermined word) has = absurd has

-- arrivals that leave a block open determine none
open_one : (m : Matrix) (len : ℕ) (arrivals : List Arrival) (source : List (List ℕ)) (o : Outcome)
    → Determines m len arrivals o → HasBlock source o → IsUndetermined m len arrivals → ⊥
open_one m len arrivals source outcome.NoCodeword is has two = has
open_one m len arrivals source (outcome.Block block) is has two = not_both m len arrivals
    block.source is.0 two
open_one m len arrivals source (outcome.Undetermined word) is has two = has

-- those without a null word leave none open
closed_one : (m : Matrix) (len : ℕ) (arrivals : List Arrival) (source : List (List ℕ)) (o : Outcome)
    → IsRight source o → Determines m len arrivals o → LacksNullWord m (positions arrivals)
    → HasBlock source o
closed_one m len arrivals source outcome.NoCodeword right is lacks = right
closed_one m len arrivals source (outcome.Block block) right is lacks = right
closed_one m len arrivals source (outcome.Undetermined word) right is lacks =
    absurd (lacks word is.1.null)

-- what arrived has no null word where its closure holds the source: a null word of the one is one
-- of the other, and holds a source column
closed_by_source : ClosureHasSameNullWords → NullWordHoldsSource
    → (m : Matrix) (arrivals : List Arrival) → HasShape m → HoldsSource m arrivals
    → LacksNullWord m (positions arrivals)
closed_by_source same source m arrivals shape holds word null =
    let inside : IsNullWord m (closure m (positions arrivals)) word =
    (same m (positions arrivals) word).0 null in
    let (k, column, lt, is, below) = source m (closure m (positions arrivals)) word shape inside in
    true≢false (sym (holds column below) ∙ subst (λ (c : ℕ). closure m (positions arrivals) c
    ≡ false) is (inside.outside k column lt))

-- ---- all outcomes

done_closed : (contradicted undetermined : Bool)
    → (if contradicted then status.NoCodeword else if undetermined then status.Undetermined else
    status.Done) ≡ status.Done → undetermined ≡ false
done_closed true undetermined is = cc
done_closed false true is = cc
done_closed false false is = refl

module _ (h : HeaderFields) (object : List ℕ) (outcomes : List Outcome) where
  -- where each block is right none is contradicted
  none_contradicted : EachBlock IsRight h object outcomes → list_any is_contradicted outcomes
      ≡ false
  none_contradicted right = list_any_none is_contradicted outcomes
      (λ b o lt. not_contradicted (source_block h object b) (get_or outcomes b o) (right b o lt))

  module _ (header : IsHeader h) (long : h.oti.length ≡ length object) (counted : length outcomes
      ≡ length (source_counts h)) where
    -- where each block has its source they give the object
    give_back : EachBlock HasBlock h object outcomes → GiveBack h object outcomes
    give_back has =
        let right : list_any is_contradicted outcomes ≡ false =
        none_contradicted (λ b o lt. whole_right (source_block h object b) (get_or outcomes b o)
        (has b o lt)) in
        let closed : list_any is_undetermined outcomes ≡ false = list_any_none is_undetermined
        outcomes (λ b o lt. not_open (source_block h object b) (get_or outcomes b o)
        (has b o lt)) in
        (rw (right, closed) refl, object_whole h header object long outcomes counted has)

    -- where each block is right and none is open, each has its source
    all_whole : EachBlock IsRight h object outcomes → list_any is_undetermined outcomes ≡ false
        → EachBlock HasBlock h object outcomes
    all_whole right none b o lt = is_whole (source_block h object b) (get_or outcomes b o)
        (right b o lt) (by_case (is_undetermined (get_or outcomes b o)) refl)
      where
        by_case : (t : Bool) → is_undetermined (get_or outcomes b o) ≡ t → t ≡ false
        by_case true is = let some = list_any_at is_undetermined outcomes b o lt is in cc
        by_case false is = refl

    -- the outcomes give the object, or a block is open
    pub come_back : EachBlock IsRight h object outcomes → GiveBack h object outcomes
        ⊎ (outcome_status outcomes ≡ status.Undetermined)
    come_back right = by_case (list_any is_undetermined outcomes) refl
      where
        by_case : (t : Bool) → list_any is_undetermined outcomes ≡ t → GiveBack h object outcomes
            ⊎ (outcome_status outcomes ≡ status.Undetermined)
        by_case true some = inr (rw (none_contradicted right, some) refl)
        by_case false none = inl (give_back (all_whole right none))

    -- where they give it, each block has its source
    closed_all : EachBlock IsRight h object outcomes → GiveBack h object outcomes
        → EachBlock HasBlock h object outcomes
    closed_all right gives = all_whole right (done_closed (list_any is_contradicted outcomes)
        (list_any is_undetermined outcomes) gives.0)

-- ---- by packets that are chosen from those of an object's file

module _ (header_one : HeaderIsOne) (packet_one : PacketIsOne) (h : HeaderFields)
    (draws limit : Option ℕ) (object : List ℕ) (sent came : List Packet)
    (are_sent : AreSent h draws object sent) (chosen : AreAmong came sent) where
  same_bytes : spelled h sent ≡ packets h are_sent.encoding.words
  same_bytes = append_cancel_left (header_bytes h) (spelled h sent)
      (packets h are_sent.encoding.words)
      (sym are_sent.packets_are.bytes_are ∙ are_sent.encoding.file_is)

  each_came : All (IsOfWords are_sent.encoding.words) came
  each_came k d lt = of_words header_one packet_one h draws object are_sent.encoding.words
      are_sent.long are_sent.encoding.header are_sent.encoding.encoded sent
      are_sent.packets_are.each same_bytes (get_or came k d) (chosen k d lt)

  module _ (b : ℕ) (inside : b < length (source_counts h)) where
    among : b < length are_sent.encoding.words
    among = omega (arith, inside, are_sent.encoding.encoded.counted)

    pub block : IsEncodedBlock h draws object b (word_of are_sent.encoding.words b)
    block = are_sent.encoding.encoded.each b among

    fits : (m : Matrix) → m ≡ block.matrix → IsFitting m h.oti.symbol (arrivals_of b came)
        (word_of are_sent.encoding.words b)
    fits m same = rw same (record {
      codeword = block.encoded.codeword;
      fits = arrivals_fit are_sent.encoding.words h.oti.symbol b came each_came;
    })

    -- a block comes out by the matrix that it was encoded by
    by_own : (o : Outcome) → BlockComesOut h limit came b o
        → Determines block.matrix h.oti.symbol (arrivals_of b came) o
    by_own o out = subst (λ (m : Matrix). Determines m h.oti.symbol (arrivals_of b came) o)
        (matrix_one h draws limit (count_at h b) block.matrix out.matrix block.code out.code)
        out.determined

    -- it is right
    pub comes_right : (o : Outcome) → BlockComesOut h limit came b o
        → IsRight (source_block h object b) o
    comes_right o out = right_by block.matrix h.oti.symbol (arrivals_of b came)
        (word_of are_sent.encoding.words b) (source_block h object b) (fits block.matrix refl)
        block.encoded.source_is o (by_own o out)

    -- without a null word it has its source
    comes_whole : (o : Outcome) → BlockComesOut h limit came b o
        → LacksNullWord block.matrix (positions (arrivals_of b came))
        → HasBlock (source_block h object b) o
    comes_whole o out lacks = closed_one block.matrix h.oti.symbol (arrivals_of b came)
        (source_block h object b) o (comes_right o out) (by_own o out) lacks

    -- and where it has its source there is no null word
    comes_open : (o : Outcome) → BlockComesOut h limit came b o → UndeterminedByNullWord
        → HasBlock (source_block h object b) o
        → LacksNullWord block.matrix (positions (arrivals_of b came))
    comes_open o out law has word null =
        let two : IsUndetermined block.matrix h.oti.symbol (arrivals_of b came) =
        (law block.matrix h.oti.symbol (arrivals_of b came) (word_of are_sent.encoding.words b)
        block.shape (sizes h are_sent.encoding.header).symbol (fits block.matrix refl)).1
        (word, null) in
        open_one block.matrix h.oti.symbol (arrivals_of b came) (source_block h object b) o
        (by_own o out) has two

    -- where the closure of what came holds its source, it has it by peeling
    pub comes_peeled : ClosureHasSameNullWords → NullWordHoldsSource → (o : Outcome)
        → BlockComesOut h limit came b o → HoldsSource block.matrix (arrivals_of b came)
        → IsByPeeling (source_block h object b) o
    comes_peeled same source o out holds =
        let lacks = closed_by_source same source block.matrix (arrivals_of b came) block.shape
        holds in
        peeled_by block.matrix h.oti.symbol (arrivals_of b came) (word_of are_sent.encoding.words b)
        (source_block h object b) (fits block.matrix refl) block.encoded.source_is holds lacks o
        (by_own o out)

    -- bytes that what came leaves alone to a position are those of a packet of the file
    pub forced_sent : (m : Matrix) (e : ℕ) (bytes : List ℕ) → header_matrix h limit (count_at h b)
        ≡ Some m → e < m.n → IsForced m h.oti.symbol (arrivals_of b came) e bytes
        → Contains sent (packet_at b e bytes)
    forced_sent m e bytes code below forced =
        let word : List (List ℕ) = word_of are_sent.encoding.words b in
        let same : m ≡ block.matrix = matrix_one h draws limit (count_at h b) block.matrix m
        block.code code in
        let short : e < length word = omega (
          arith,
          below,
          ap (λ (n : Matrix). n.n) same,
          block.encoded.codeword.count,
        ) in
        let is : get_or word e [] ≡ bytes = get_or_default word e [] (zero_symbol h.oti.symbol)
        short ∙ forced.codeword word (fits m same) in
        subst (λ (l : List ℕ). Contains sent (packet_at b e l)) is
        (has_each header_one packet_one h draws object are_sent.encoding.words
        are_sent.long are_sent.encoding.header are_sent.encoding.encoded sent
        are_sent.packets_are.each same_bytes b e among short)

    -- where each packet of the file came, each of its positions did
    module _ (all : AreAmong sent came) where
      position_all : (e : ℕ) → e < block.matrix.n → positions (arrivals_of b came) e ≡ true
      position_all e below =
          let symbol : List ℕ = get_or (word_of are_sent.encoding.words b) e [] in
          position_came b e symbol came (All-contains (Contains came) sent (packet_at b e symbol)
          all
          (has_each header_one packet_one h draws object are_sent.encoding.words
          are_sent.long are_sent.encoding.header are_sent.encoding.encoded sent
          are_sent.packets_are.each same_bytes b e among
          (omega (arith, below, block.encoded.codeword.count))))

      source_all : ClosureHolds → HoldsSource block.matrix (arrivals_of b came)
      source_all law e below = law block.matrix (positions (arrivals_of b came)) e
          (position_all e (omega (arith, below, block.shape.count)))

  module _ (outcomes : List Outcome) (out : ComeOutBy h limit came outcomes) where
    within : (b : ℕ) → b < length outcomes → b < length (source_counts h)
    within b lt = omega (arith, lt, out.counted)

    -- each block is right
    pub each_right : EachBlock IsRight h object outcomes
    each_right b o lt = comes_right b (within b lt) (get_or outcomes b o) (out.each b o lt)

    -- the outcomes give the object exactly where there are no null words
    pub decided_by_null_words : UndeterminedByNullWord → GiveBack h object outcomes
        ↔ LackNullWords h draws came
    decided_by_null_words law = (
      (λ gives b m inside code.
          let lt : b < length outcomes = omega (arith, inside, out.counted) in
          let same : m ≡ (block b inside).matrix = same_Some m (block b inside).matrix (sym code
          ∙ (block b inside).code) in
          let has = closed_all h object outcomes are_sent.encoding.header are_sent.long out.counted
          each_right gives b outcome.NoCodeword lt in
          subst (λ (n : Matrix). LacksNullWord n (positions (arrivals_of b came))) (sym same)
          (comes_open b inside (get_or outcomes b outcome.NoCodeword)
          (out.each b outcome.NoCodeword lt) law has)),
      λ lacks. give_back h object outcomes are_sent.encoding.header are_sent.long out.counted
          (λ b o lt. comes_whole b (within b lt) (get_or outcomes b o) (out.each b o lt)
          (lacks b (block b (within b lt)).matrix (within b lt) (block b (within b lt)).code)),
    )

    -- where each block is peeled they give the object
    pub peeled_give_back : EachBlock IsByPeeling h object outcomes → GiveBack h object outcomes
    peeled_give_back peeled = give_back h object outcomes are_sent.encoding.header are_sent.long
        out.counted (λ b o lt. peeled_whole (source_block h object b) (get_or outcomes b o)
        (peeled b o lt))

    -- by all packets each block has its source by peeling
    pub all_peeled : ClosureHolds → ClosureHasSameNullWords → NullWordHoldsSource
        → AreAmong sent came → EachBlock IsByPeeling h object outcomes
    all_peeled law same source all b o lt = comes_peeled b (within b lt) same source
        (get_or outcomes b o) (out.each b o lt) (source_all b (within b lt) all law)

    -- and so it has where the closure of what came holds its source
    pub whole_peeled : ClosureHasSameNullWords → NullWordHoldsSource → (code : ℕ → Matrix)
        → HasCodes h limit code → IsWhole h code came → EachBlock IsByPeeling h object outcomes
    whole_peeled same source code codes whole b o lt =
        let own = block b (within b lt) in
        let is : code b ≡ own.matrix = matrix_one h draws limit (count_at h b) own.matrix (code b)
        own.code (codes b (within b lt)) in
        comes_peeled b (within b lt) same source (get_or outcomes b o) (out.each b o lt)
        (subst (λ (m : Matrix). HoldsSource m (arrivals_of b came)) is (whole b (within b lt)))
