-- The decoders of a file's blocks, as packets come.
use Rattle.std.proofs.Common.{◌≡◌, ◌≢◌, ℕ, zero, suc, ◌<◌, ◌==◌, Bool, true, false, List, [], ◌∷◌}
use Rattle.std.proofs.Common.{◌++◌, length, get_or, slice_index_or, All, Option, Some, refl, sym}
use Rattle.std.proofs.Common.{ap, ◌∙◌, subst, arith, eqb-true, eq-eqb, true≢false, get_or-set_same}
use Rattle.std.proofs.Common.{get_or-set_other, length-set}
use Rattle.sparse_rows.specs.Matrix.{Matrix}
use Rattle.sparse_rows.specs.Codeword.{positions}
use Rattle.sparse_rows.specs.Closure.{closure}
use Rattle.peeling.specs.Decoder.{Decoder}
use Rattle.peeling.specs.Lookups.{HasAllSource}
use Rattle.peeling.specs.Stands.{Receives, StandsFor}
use Rattle.fec_session.specs.Session.{AreNew}
use Rattle.packet_file.specs.Header.{HeaderFields, source_counts}
use Rattle.object_file.specs.BuiltCodes.{AreBlockCodes}
use Rattle.object_file.specs.Received.{arrivals_of}
use Rattle.packet_file.specs.Packets.{Packet}
use Rattle.object_file.specs.Receiving.{AreCores, StandForAll, TakesPacket, matrix_at}
use Rattle.object_file.specs.Told.{HasCodes, IsWhole}
use Rattle.object_file.proofs.Arrivals.{stand_after}

-- a decoder, where one has to be named
abbrev pub blank : Decoder
blank = record {
  matrix = record { k = 0; n = 0; rows = [] };
  len = 0;
  arrived = [];
  known = [];
  symbols = [];
  clashed = true;
  fresh = [];
}

-- the matrix of block b is that of its decoder
pub code_of_is : (decoders : List Decoder) (b : ℕ) (d : Decoder) → b < length decoders
    → (slice_index_or decoders b d).matrix ≡ matrix_at decoders b
code_of_is [] b d lt = absurd (omega (arith, lt))
code_of_is (x ∷ decoders) zero d lt = refl
code_of_is (x ∷ decoders) (suc b) d lt = code_of_is decoders b d (omega arith)

-- new decoders are those of the blocks
module _ (h : HeaderFields) (draws : Option ℕ) (matrices : List Matrix) (decoders : List Decoder)
    (codes : AreBlockCodes h draws matrices) (new : AreNew matrices h.oti.symbol decoders) where
  code_at : (b : ℕ) (m : Matrix) (d : Decoder) → b < length matrices
      → slice_index_or matrices b m ≡ matrix_at decoders b
  code_at b m d lt = sym (new.empty b m d lt).matrix
      ∙ code_of_is decoders b d (omega (arith, lt, new.counted))

  pub new_codes : HasCodes h draws (matrix_at decoders)
  new_codes b lt =
      let within : b < length matrices = omega (arith, lt, codes.counted) in
      codes.built b blank.matrix within ∙ ap Some (code_at b blank.matrix blank within)

  pub new_cores : AreCores h (matrix_at decoders) [] decoders
  new_cores = record {
    counted = new.counted ∙ codes.counted;
    matrix = λ b d lt. code_of_is decoders b d lt;
    sources = λ b lt.
        let within : b < length matrices = omega (arith, lt, new.counted) in
        ap (λ (m : Matrix). m.k) (sym (code_at b blank.matrix blank within))
        ∙ codes.sources b blank.matrix within;
    symbols = λ b lt.
        let within : b < length matrices = omega (arith, lt, new.counted) in
        ap (λ (m : Matrix). m.n) (sym (code_at b blank.matrix blank within))
        ∙ codes.symbols b blank.matrix within;
    len = λ b d lt. (new.empty b d.matrix d (omega (arith, lt, new.counted))).len;
    stand = λ b d lt. new.stand b d (omega (arith, lt, new.counted));
  }

-- one packet more
module _ (left left_now : Option (List ℕ)) (h : HeaderFields) (code : ℕ
    → Matrix) (packets : List Packet) (decoders now : List Decoder) (p : Packet)
    (cores : AreCores h code packets decoders) (takes : TakesPacket left left_now h decoders now p)
  where
    abbrev sbn : ℕ
    sbn = p.0.sbn

    abbrev new : Decoder
    new = takes.received.now

    pub inside : sbn < length decoders
    inside = omega (arith, takes.of_file.id.block, cores.counted)

    old_receives : Receives (slice_index_or decoders sbn new) new p.0.esi p.1
    old_receives = takes.received.received new

    -- its decoder is there
    pub new_is : (d : Decoder) → slice_index_or now sbn d ≡ new
    new_is d = ap (λ (l : List Decoder). slice_index_or l sbn d) takes.received.set
        ∙ get_or-set_same decoders sbn new d inside

    pub new_matrix : new.matrix ≡ code sbn
    new_matrix = old_receives.code ∙ cores.matrix sbn new inside

    pub new_len : new.len ≡ h.oti.symbol
    new_len = old_receives.len ∙ cores.len sbn new inside

    pub old_stands : StandsFor (slice_index_or decoders sbn new) (arrivals_of sbn packets)
    old_stands = cores.stand sbn new inside

    -- what holds of the decoder and of the others holds of all
    each_of : (P : ℕ → Decoder → Type 0) → P sbn new → ((b : ℕ) (d : Decoder) → b < length decoders
        → P b (slice_index_or decoders b d)) → (b : ℕ) (d : Decoder) → b < length now
        → P b (slice_index_or now b d)
    each_of P own others b d lt = by_case (sbn == b) refl where
      by_case : (t : Bool) → sbn == b ≡ t → P b (slice_index_or now b d)
      by_case true is =
          let same : sbn ≡ b = eqb-true sbn b is in
          subst (λ (i : ℕ). P i (slice_index_or now i d)) same (subst (P sbn) (sym (new_is d)) own)
      by_case false is =
          let apart : b ≢ sbn = λ same. true≢false (sym (eq-eqb sbn b (sym same)) ∙ is) in
          let here : slice_index_or now b d ≡ slice_index_or decoders b d =
          ap (λ (l : List Decoder). slice_index_or l b d) takes.received.set
          ∙ get_or-set_other decoders sbn b new d apart in
          subst (P b) (sym here) (others b d
          (omega (arith, lt, ap length takes.received.set, length-set decoders sbn new)))

    pub cores_more : AreCores h code (packets ++ p ∷ []) now
    cores_more = record {
      counted = ap length takes.received.set ∙ length-set decoders sbn new ∙ cores.counted;
      matrix = each_of (λ b d. d.matrix ≡ code b) new_matrix cores.matrix;
      sources = λ b lt. cores.sources b
          (omega (arith, lt, ap length takes.received.set, length-set decoders sbn new));
      symbols = λ b lt. cores.symbols b
          (omega (arith, lt, ap length takes.received.set, length-set decoders sbn new));
      len = each_of (λ b d. d.len ≡ h.oti.symbol) new_len cores.len;
      stand = subst (StandForAll (packets ++ p ∷ [])) (sym takes.received.set)
          (stand_after packets decoders p new new inside old_receives cores.stand);
    }

-- decoders know all source exactly where the closures hold it
module _ (h : HeaderFields) (code : ℕ → Matrix) (packets : List Packet) (decoders : List Decoder)
    (cores : AreCores h code packets decoders) where
  pub all_are_whole : All HasAllSource decoders → IsWhole h code packets
  all_are_whole all b lt position below =
      let within : b < length decoders = omega (arith, lt, cores.counted) in
      let d : Decoder = get_or decoders b blank in
      let matrix : d.matrix ≡ code b = cores.matrix b blank within in
      let known = all b blank within position (subst (λ (m : Matrix). position < m.k) (sym matrix)
      below) in
      subst (λ (m : Matrix). closure m (positions (arrivals_of b packets)) position ≡ true) matrix
      (sym ((cores.stand b blank within).known position) ∙ known)

  pub whole_have_all : IsWhole h code packets → All HasAllSource decoders
  whole_have_all whole b d within position below =
      let lt : b < length (source_counts h) = omega (arith, within, cores.counted) in
      let matrix : (get_or decoders b d).matrix ≡ code b = cores.matrix b d within in
      let holds = whole b lt position (subst (λ (m : Matrix). position < m.k) matrix below) in
      (cores.stand b d within).known position
      ∙ subst (λ (m : Matrix). closure m (positions (arrivals_of b packets)) position ≡ true)
      (sym matrix) holds
