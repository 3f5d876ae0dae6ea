-- What packets of the file of some codewords determine.
use Rattle.std.proofs.Common.{◌≡◌, ℕ, zero, suc, ◌<◌, ◌==◌, Bool, true, false, List, [], ◌∷◌}
use Rattle.std.proofs.Common.{length, take, All, Contains, refl, sym, ap, ◌∙◌, arith, eq-eqb}
use Rattle.std.proofs.Common.{eqb-true}
use Rattle.std.proofs.lemmas.List.{get_or_default}
use Rattle.std.proofs.lemmas.List.Elements.{All-head, All-nil, All-cons, All-tail}
use Rattle.fec_base.specs.Symbol.{zero_symbol}
use Rattle.sparse_rows.specs.Matrix.{Matrix}
use Rattle.sparse_rows.specs.Codeword.{Arrival, Fits, positions, symbol_at}
use Rattle.sparse_rows.specs.Fitting.{IsFitting}
use Rattle.sparse_rows.specs.Determined.{HoldsSource}
use Rattle.sparse_rows.specs.NullWord.{IsNullWord}
use Rattle.sparse_rows.proofs.Sets.{or_first, or_second}
use Rattle.fec_session.specs.declared.outcome.Outcome.{Outcome}
use Rattle.fec_session.specs.declared.outcome.Outcome.TheVariants as outcome
use Rattle.packet_file.specs.Packets.{Packet}
use Rattle.fec_session.specs.Determines.{Determines}
use Rattle.object_file.specs.Received.{arrivals_of}
use Rattle.tool_laws.specs.RoundTrip.{IsByPeeling, IsRight}
use Rattle.tool_laws.proofs.SentPackets.{IsOfWords, packet_at, word_of}

-- ---- what arrives for a block

abbrev arrival : Packet → Arrival
arrival p = (p.0.esi, p.1)

-- has the symbols of its codeword
pub arrivals_fit : (words : List (List (List ℕ))) (len b : ℕ) (came : List Packet)
    → All (IsOfWords words) came → Fits (arrivals_of b came) (symbol_at len (word_of words b))
arrivals_fit words len b [] each = All-nil (λ (a : Arrival). symbol_at len (word_of words b) a.0
    ≡ a.1)
arrivals_fit words len b (p ∷ came) each = by_case (p.0.sbn == b) refl
    (arrivals_fit words len b came (All-tail (IsOfWords words) p came each))
  where
    own : IsOfWords words p
    own = All-head (IsOfWords words) p came each

    here : p.0.sbn ≡ b → symbol_at len (word_of words b) p.0.esi ≡ p.1
    here at =
        let within : p.0.esi < length (word_of words b) = rw at at own.symbol in
        get_or_default (word_of words b) p.0.esi (zero_symbol len) [] within
        ∙ sym (rw at at own.bytes)

    by_case : (t : Bool) → (p.0.sbn == b) ≡ t
        → Fits (arrivals_of b came) (symbol_at len (word_of words b))
        → Fits (arrivals_of b (p ∷ came)) (symbol_at len (word_of words b))
    by_case true at rest = rw at (All-cons (λ (a : Arrival). symbol_at len (word_of words b) a.0
        ≡ a.1) (arrival p) (arrivals_of b came) (here (eqb-true p.0.sbn b at)) rest)
    by_case false at rest = rw at rest

-- a packet that came has its position among those of its block
pub position_came : (b e : ℕ) (symbol : List ℕ) (came : List Packet)
    → Contains came (packet_at b e symbol) → positions (arrivals_of b came) e ≡ true
position_came b e symbol [] is = absurd (omega (arith, is.1))
position_came b e symbol (p ∷ came) (zero, lt, same) =
    let at : (p.0.sbn == b) ≡ true = eq-eqb p.0.sbn b (ap (λ (q : Packet). q.0.sbn) same) in
    rw at (or_first (p.0.esi == e) _ (eq-eqb p.0.esi e (ap (λ (q : Packet). q.0.esi) same)))
position_came b e symbol (p ∷ came) (suc k, lt, same) = by_case (p.0.sbn == b) refl
    (position_came b e symbol came (k, omega arith, same))
  where
    by_case : (t : Bool) → (p.0.sbn == b) ≡ t → positions (arrivals_of b came) e ≡ true
        → positions (arrivals_of b (p ∷ came)) e ≡ true
    by_case true at rest = rw at (or_second (p.0.esi == e) _ rest)
    by_case false at rest = rw at rest

-- ---- what arrivals determine that some codeword fits

module _ (m : Matrix) (len : ℕ) (arrivals : List Arrival) (word source : List (List ℕ))
    (fits : IsFitting m len arrivals word) (source_is : take m.k word ≡ source) where
  -- no other source
  pub right_by : (o : Outcome) → Determines m len arrivals o → IsRight source o
  right_by outcome.NoCodeword none = none word fits
  right_by (outcome.Block block) is = sym (is.0.only word fits) ∙ source_is
  right_by (outcome.Undetermined other) is = tt

  -- where the closure has the source, that source by peeling
  pub peeled_by : HoldsSource m arrivals
      → ((word : List ℕ) → ¬ IsNullWord m (positions arrivals) word) → (o : Outcome)
      → Determines m len arrivals o → IsByPeeling source o
  peeled_by holds lacks outcome.NoCodeword none = none word fits
  peeled_by holds lacks (outcome.Block block) is =
      (sym (is.0.only word fits) ∙ source_is, is.1.1 holds)
  peeled_by holds lacks (outcome.Undetermined other) is = lacks other is.1.null
