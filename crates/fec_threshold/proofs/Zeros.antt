-- Zero symbols at some positions determine a block exactly where the positions have no null word.
use Rattle.std.proofs.Common.{◌≡◌, ℕ, ◌+◌, ◌<◌, ◌≤◌, ◌++◌, ⊎_elim, ◌||◌, ◌==◌, List, [], ◌∷◌}
use Rattle.std.proofs.Common.{length}
use Rattle.std.proofs.Common.{get_or, take, replicate, refl, sym, ap, ◌∙◌, subst}
use Rattle.std.proofs.Common.{bit_xor, le_refl}
use Rattle.std.proofs.lemmas.List.{take_more, get_or-map, get_or-replicate, get_or_past, length-map}
use Rattle.std.proofs.lemmas.List.{length-replicate, map-append, take_all}
use Rattle.std.proofs.lemmas.List.Elements.{All-from_get_or, All-replicate}
use Rattle.std.proofs.lemmas.Bool.{cases_lt}
use Rattle.fec_base.specs.Symbol.{IsSymbol, zero_symbol}
use Rattle.fec_base.proofs.SymbolBytes.{byte, byte_zero, length_zero}
use Rattle.sparse_rows.specs.Matrix.{Matrix, HasShape, is_in}
use Rattle.sparse_rows.specs.Codeword.{Arrival, SumsToZero, positions, symbol_at}
use Rattle.sparse_rows.specs.NullWord.{IsNullWord}
use Rattle.sparse_rows.specs.Fitting.{IsFitting}
use Rattle.sparse_rows.specs.Determined.{IsSource}
use Rattle.sparse_rows.proofs.Algebra.{total_same, total_zero}
use Rattle.sparse_rows.proofs.Planes.{byte_laws, zero_from_planes, zero_is_symbol}
use Rattle.null_witness.proofs.Determined.{two_of_null}
use Rattle.null_witness.proofs.Subsets.{null_subset}
use Rattle.peeling.specs.Decoder.{Decoder}
use Rattle.fec_threshold.specs.LeastPrefix.{HasNullWord}
use Rattle.fec_threshold.specs.ZeroArrivals.{zero_arrivals}

pub zeros_more : (ps : List ℕ) (i : ℕ) → i < length ps
    → zero_arrivals (take (i + 1) ps) ≡ zero_arrivals (take i ps) ++ (get_or ps i 0, zero_symbol 1)
    ∷ []
zeros_more ps i lt = ap zero_arrivals (take_more ps i 0 lt)
    ∙ map-append (λ c. (c, zero_symbol 1)) (take i ps) (get_or ps i 0 ∷ [])

pub zeros_whole : (ps : List ℕ) (i : ℕ) → length ps ≤ i
    → zero_arrivals (take i ps) ≡ zero_arrivals ps
zeros_whole ps i le = ap zero_arrivals (take_all i ps le)

-- the positions that arrive are those
pub zeros_at : (ps : List ℕ) (c : ℕ) → positions (zero_arrivals ps) c ≡ is_in ps c
zeros_at [] c = refl
zeros_at (p ∷ ps) c = ap (λ b. (p == c) || b) (zeros_at ps c)

zero_word : ℕ → List (List ℕ)
zero_word n = replicate n (zero_symbol 1)

zero_word_at : (n c : ℕ) → symbol_at 1 (zero_word n) c ≡ zero_symbol 1
unfolding zero_word
zero_word_at n c = ⊎_elim (λ lt. get_or-replicate n c (zero_symbol 1) (zero_symbol 1) lt)
    (λ le. get_or_past (replicate n (zero_symbol 1)) c (zero_symbol 1) (rw length-replicate le))
    (cases_lt c n)

-- the codeword of zeros fits
zero_fits : (m : Matrix) (ps : List ℕ) → IsFitting m 1 (zero_arrivals ps) (zero_word m.n)
unfolding zero_word
zero_fits m ps = record {
  codeword = record {
    count = length-replicate m.n (zero_symbol 1);
    symbols = All-replicate (IsSymbol 1) m.n (zero_symbol 1) (zero_is_symbol 1);
    rows = All-from_get_or (SumsToZero 1 (symbol_at 1 (zero_word m.n))) m.rows []
        (λ i lt. zero_from_planes 1 (symbol_at 1 (zero_word m.n))
        (λ c. ap length (zero_word_at m.n c) ∙ length_zero 1) (get_or m.rows i [])
        (λ t. total_same 0 bit_xor byte_laws (λ c. byte t (symbol_at 1 (zero_word m.n) c))
        (λ c. 0) (get_or m.rows i []) (λ k d lt2. ap (byte t) (zero_word_at m.n _)
        ∙ byte_zero 1 t) ∙ total_zero 0 bit_xor byte_laws (get_or m.rows i [])));
  };
  fits = All-from_get_or (λ (a : Arrival). symbol_at 1 (zero_word m.n) a.0 ≡ a.1) (zero_arrivals ps)
      (0, zero_symbol 1) (λ i lt.
      zero_word_at m.n _
      ∙ sym (ap (λ (a : Arrival). a.1)
      (get_or-map (λ c. (c, zero_symbol 1)) ps i 0 (0, zero_symbol 1) (rw length-map at lt))));
}

-- ---- what a decoder of the code tells of them

module _ (d : Decoder) (m : Matrix) (same : d.matrix ≡ m) (len : d.len ≡ 1) (ps : List ℕ) where
  -- what holds of the decoder's code and symbols, written of the code
  at_code : (P : Matrix → ℕ → Type 0) → P d.matrix d.len → P m 1
  at_code P h = subst (λ (l : ℕ). P m l) len (subst (λ (x : Matrix). P x d.len) same h)

  -- where the source is determined there is no null word
  pub source_none : HasShape d.matrix → (source : List (List ℕ))
      → IsSource d.matrix d.len (zero_arrivals ps) source → ¬ HasNullWord m (is_in ps)
  source_none shape source told some =
      let h : IsSource m 1 (zero_arrivals ps) source =
      at_code (λ (x : Matrix) (l : ℕ). IsSource x l (zero_arrivals ps) source) told in
      let two = two_of_null m (subst HasShape same shape) 1 (zero_arrivals ps) (zero_word m.n)
      (zero_fits m ps) some.0
      (null_subset m (positions (zero_arrivals ps)) (is_in ps) some.0
      (λ c e. sym (zeros_at ps c) ∙ e) some.1) (le_refl 1) in
      two.differ (h.only two.word two.word_fits ∙ sym (h.only two.other two.other_fits))

  -- a null word of what arrived is one of the positions
  pub null_is : (word : List ℕ) → IsNullWord d.matrix (positions (zero_arrivals ps)) word
      → HasNullWord m (is_in ps)
  null_is word null = (
    word,
    null_subset m (is_in ps) (positions (zero_arrivals ps)) word
        (λ c e. zeros_at ps c ∙ e)
        (subst (λ (x : Matrix). IsNullWord x (positions (zero_arrivals ps)) word) same null),
  )

  -- something fits
  pub fits_some : ((word : List (List ℕ)) → ¬ IsFitting d.matrix d.len (zero_arrivals ps) word) → ⊥
  fits_some none = at_code (λ (x : Matrix) (l : ℕ). (word : List (List ℕ))
      → ¬ IsFitting x l (zero_arrivals ps) word) none (zero_word m.n) (zero_fits m ps)
