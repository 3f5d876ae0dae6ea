-- Neither the order of packets nor repeats matter to how the blocks come out.
use Rattle.std.proofs.Common.{◌≡◌, ◌↔◌, ℕ, zero, suc, ◌<◌, ◌==◌, Bool, true, false, List, [], ◌∷◌}
use Rattle.std.proofs.Common.{get_or, All, Contains, Option, refl, sym, ap, ◌∙◌, subst, arith}
use Rattle.std.proofs.Common.{eq-eqb, eqb-true, ext_get_or}
use mathlib.Core.Path.{fun_ext}
use Rattle.std.proofs.lemmas.List.Elements.{All-contains, All-cons, All-head, All-nil, All-tail}
use Rattle.std.proofs.lemmas.List.Elements.{Contains-append_right}
use Rattle.sparse_rows.specs.Matrix.{Matrix}
use Rattle.sparse_rows.specs.Codeword.{Arrival, positions, symbol_at}
use Rattle.sparse_rows.specs.Closure.{Set, closure}
use Rattle.sparse_rows.specs.NullWord.{IsFirstNullWord}
use Rattle.sparse_rows.specs.Fitting.{IsFitting}
use Rattle.sparse_rows.proofs.Sets.{any_at, any_from, same_test}
use Rattle.fec_session.specs.declared.outcome.Outcome.{Outcome}
use Rattle.fec_session.specs.declared.outcome.Outcome.TheVariants as outcome
use Rattle.packet_file.specs.Header.{HeaderFields}
use Rattle.packet_file.specs.Packets.{Packet}
use Rattle.object_file.specs.Codes.{count_at}
use Rattle.fec_session.specs.Determines.{Determines}
use Rattle.object_file.specs.Received.{arrivals_of}
use Rattle.tool_laws.specs.RoundTrip.{AreAmong, ComeOutBy, BlockComesOut}
use Rattle.tool_laws.proofs.DrawLimits.{matrix_one}
use Rattle.tool_laws.proofs.OneOutcome.{outcome_one}

-- ---- arrivals as a set

module _ (m : Matrix) (len : ℕ) (arrivals others : List Arrival)
    (there : All (Contains others) arrivals) (back : All (Contains arrivals) others) where
  -- what fits the one fits the other
  fits_too : (word : List (List ℕ)) → IsFitting m len arrivals word → IsFitting m len others word
  fits_too word is = record {
    codeword = is.codeword;
    fits = λ k d lt. All-contains (λ (a : Arrival). symbol_at len word a.0 ≡ a.1) arrivals
        (get_or others k d) is.fits (back k d lt);
  }

-- a position of the one is a position of the other
position_too : (arrivals others : List Arrival) → All (Contains others) arrivals → (e : ℕ)
    → positions arrivals e ≡ true → positions others e ≡ true
position_too arrivals others among e here =
    let (i, lt, is) = any_at (λ (a : Arrival). a.0 == e) (0, []) arrivals here in
    let (k, inside, same) = among i (0, []) lt in
    any_from (λ (a : Arrival). a.0 == e) (get_or arrivals i (0, [])) others k inside
    (ap (λ (a : Arrival). a.0 == e) same ∙ is)

module _ (m : Matrix) (len : ℕ) (arrivals others : List Arrival)
    (there : All (Contains others) arrivals) (back : All (Contains arrivals) others) where
  same_positions : positions arrivals ≡ positions others
  same_positions = fun_ext (λ e. same_test (positions arrivals e) (positions others e)
      (position_too arrivals others there e) (position_too others arrivals back e))

  -- both determine the same
  determines_too : (o : Outcome) → Determines m len arrivals o → Determines m len others o
  determines_too outcome.NoCodeword none = λ word fits. none word
      (fits_too m len others arrivals back there word fits)
  determines_too (outcome.Block block) (is, peeled) = (
    record {
      word = is.word;
      fits = fits_too m len arrivals others there back is.word is.fits;
      only = λ other fits. is.only other (fits_too m len others arrivals back there other fits);
    },
    subst (λ (s : Set). (block.by_peeling ≡ true) ↔ ((position : ℕ) → position < m.k
        → closure m s position ≡ true)) same_positions peeled,
  )
  determines_too (outcome.Undetermined word) (two, first) = (
    record {
      word = two.word;
      other = two.other;
      word_fits = fits_too m len arrivals others there back two.word two.word_fits;
      other_fits = fits_too m len arrivals others there back two.other two.other_fits;
      differ = two.differ;
    },
    subst (λ (s : Set). IsFirstNullWord m s word) same_positions first,
  )

-- ---- packets as a set

abbrev arrival : Packet → Arrival
arrival p = (p.0.esi, p.1)

-- a packet of the block is among its arrivals
arrives : (b : ℕ) (p : Packet) (packets : List Packet) → p.0.sbn ≡ b → Contains packets p
    → Contains (arrivals_of b packets) (arrival p)
arrives b p [] at (k, lt, same) = absurd (omega arith)
arrives b p (q ∷ packets) at (zero, lt, same) =
    let here : (q.0.sbn == b) ≡ true = eq-eqb q.0.sbn b (ap (λ (x : Packet). x.0.sbn) same ∙ at) in
    rw here (0, omega arith, ap arrival same)
arrives b p (q ∷ packets) at (suc k, lt, same) = by_case (q.0.sbn == b) refl
    (arrives b p packets at (k, omega arith, same))
  where
    by_case : (t : Bool) → (q.0.sbn == b) ≡ t → Contains (arrivals_of b packets) (arrival p)
        → Contains (arrivals_of b (q ∷ packets)) (arrival p)
    by_case true is rest = rw is (Contains-append_right (arrival q ∷ []) (arrivals_of b packets)
        (arrival p) rest)
    by_case false is rest = rw is rest

arrivals_among : (b : ℕ) (packets others : List Packet) → AreAmong packets others
    → All (Contains (arrivals_of b others)) (arrivals_of b packets)
arrivals_among b [] others among = All-nil (Contains (arrivals_of b others))
arrivals_among b (p ∷ packets) others among = by_case (p.0.sbn == b) refl
    (arrivals_among b packets others (All-tail (Contains others) p packets among))
  where
    by_case : (t : Bool) → (p.0.sbn == b) ≡ t
        → All (Contains (arrivals_of b others)) (arrivals_of b packets)
        → All (Contains (arrivals_of b others)) (arrivals_of b (p ∷ packets))
    by_case true is rest = rw is (All-cons (Contains (arrivals_of b others)) (arrival p)
        (arrivals_of b packets) (arrives b p others (eqb-true p.0.sbn b is)
        (All-head (Contains others) p packets among)) rest)
    by_case false is rest = rw is rest

-- the same packets, whatever their order, let the blocks come out in one way
pub outcomes_by_set : (h : HeaderFields) (draws limit : Option ℕ) (packets others : List Packet)
    (outcomes second : List Outcome)
    → AreAmong packets others → AreAmong others packets → ComeOutBy h draws packets outcomes
    → ComeOutBy h limit others second → outcomes ≡ second
outcomes_by_set h draws limit packets others outcomes second there back out out_too =
    ext_get_or outcome.NoCodeword outcomes second (out.counted ∙ sym out_too.counted) (λ b lt.
    let mine : BlockComesOut h draws packets b (get_or outcomes b outcome.NoCodeword) =
    out.each b outcome.NoCodeword lt in
    let its : BlockComesOut h limit others b (get_or second b outcome.NoCodeword) =
    out_too.each b outcome.NoCodeword (omega (arith, lt, out.counted, out_too.counted)) in
    let same : its.matrix ≡ mine.matrix = matrix_one h draws limit (count_at h b) mine.matrix
    its.matrix mine.code its.code in
    let own : Determines mine.matrix h.oti.symbol (arrivals_of b packets)
    (get_or second b outcome.NoCodeword) =
    determines_too mine.matrix h.oti.symbol (arrivals_of b others) (arrivals_of b packets)
    (arrivals_among b others packets back) (arrivals_among b packets others there)
    (get_or second b outcome.NoCodeword)
    (subst (λ (n : Matrix). Determines n h.oti.symbol (arrivals_of b others)
    (get_or second b outcome.NoCodeword)) same its.determined) in
    outcome_one mine.matrix h.oti.symbol (arrivals_of b packets)
    (get_or outcomes b outcome.NoCodeword) (get_or second b outcome.NoCodeword) mine.determined
    own)
