-- What the arrivals decide.
use mathlib.Core.Path.{fun_ext}
use Rattle.std.proofs.Common.{◌≡◌, ℕ, ⊎_elim, ◌==◌, List, [], get_or, Contains, sym, ap, ap₂, ◌∙◌}
use Rattle.std.proofs.Common.{subst}
use Rattle.std.proofs.lemmas.List.Elements.{All-from_get_or, Contains-get_or}
use Rattle.sparse_rows.specs.Matrix.{Matrix}
use Rattle.sparse_rows.specs.Codeword.{Arrival, Fits, IsCodeword, positions, symbol_at}
use Rattle.sparse_rows.specs.Closure.{flagged, HasSameMembers, IsWithin, closure}
use Rattle.sparse_rows.proofs.Planes.{symbol_at_is}
use Rattle.peeling.specs.Agree.{Agree}
use Rattle.peeling.specs.Decoder.{Decoder, kept}
use Rattle.sparse_rows.specs.Determined.{IsConsistent}
use Rattle.peeling.specs.Stands.{StandsFor}
use Rattle.peeling.specs.Laws.{HasSameArrivals}
use Rattle.sparse_rows.proofs.Sets.{any_at, any_from, same_test, true_or_false}
use Rattle.peeling.proofs.Arrivals.{consistent_agree}

pub kept_consistent : (d : Decoder) (arrivals : List Arrival) (x : ℕ → List ℕ)
    → StandsFor d arrivals → IsConsistent d.matrix d.len arrivals x
    → Agree (flagged d.known) (kept d) x
kept_consistent d arrivals x st h c e = ⊎_elim (λ f. absurd (st.contradicts f x h))
    (λ f. consistent_agree d.matrix d.len arrivals (kept d) x (st.agrees f) h c (sym (st.known c)
    ∙ e)) (true_or_false d.clashed)

-- a codeword that fits is consistent
pub codeword_consistent : (m : Matrix) (len : ℕ) (arrivals : List Arrival) (word : List (List ℕ))
    → IsCodeword m len word → Fits arrivals (symbol_at len word)
    → IsConsistent m len arrivals (symbol_at len word)
codeword_consistent m len arrivals word codeword fits =
    record {
      symbols = symbol_at_is len word codeword.symbols;
      fits = fits;
      rows = λ k d lt within. codeword.rows k d lt;
    }

pub kept_of_codeword : (d : Decoder) (arrivals : List Arrival) (word : List (List ℕ))
    → StandsFor d arrivals → IsCodeword d.matrix d.len word → Fits arrivals (symbol_at d.len word)
    → Agree (flagged d.known) (kept d) (symbol_at d.len word)
kept_of_codeword d arrivals word st codeword fits = kept_consistent d arrivals
    (symbol_at d.len word) st (codeword_consistent d.matrix d.len arrivals word codeword fits)

-- ---- the same arrivals

positions_within : (arrivals others : List Arrival) → ((a : Arrival) → Contains arrivals a
    → Contains others a) → IsWithin (positions arrivals) (positions others)
positions_within arrivals others h c e =
    let r = any_at (λ (a : Arrival). a.0 == c) (0, []) arrivals e in
    let there : Contains others (get_or arrivals r.0 (0, [])) =
    h _ (Contains-get_or arrivals r.0 (0, []) r.1) in
    any_from (λ (a : Arrival). a.0 == c) _ others there.0 there.1
    (ap (λ (a : Arrival). a.0 == c) there.2 ∙ r.2)

same_positions : (arrivals others : List Arrival) → HasSameArrivals arrivals others
    → positions others ≡ positions arrivals
same_positions arrivals others h =
    fun_ext (λ c. same_test _ _ (positions_within others arrivals (λ a. (h a).1) c)
    (positions_within arrivals others (λ a. (h a).0) c))

fits_same : (arrivals others : List Arrival) (x : ℕ → List ℕ) → HasSameArrivals arrivals others
    → Fits arrivals x → Fits others x
fits_same arrivals others x h fits = All-from_get_or (λ (a : Arrival). x a.0 ≡ a.1) others (0, [])
    (λ i lt.
    let there : Contains arrivals (get_or others i (0, [])) =
    (h _).1 (Contains-get_or others i (0, []) lt) in
    subst (λ (a : Arrival). x a.0 ≡ a.1) there.2 (fits there.0 _ there.1))

pub same_known : (d other : Decoder) (arrivals others : List Arrival) → StandsFor d arrivals
    → StandsFor other others → HasSameArrivals arrivals others
    → other.matrix ≡ d.matrix → HasSameMembers (flagged other.known) (flagged d.known)
same_known d other arrivals others st stands same matrix c = stands.known c
    ∙ ap₂ (λ m s. closure m s c) matrix (same_positions arrivals others same) ∙ sym (st.known c)

pub same_symbols : (d other : Decoder) (arrivals others : List Arrival) (word : List (List ℕ))
    → StandsFor d arrivals → StandsFor other others → HasSameArrivals arrivals others
    → other.matrix ≡ d.matrix → other.len ≡ d.len → IsCodeword d.matrix d.len word
    → Fits arrivals (symbol_at d.len word) → Agree (flagged d.known) (kept d) (kept other)
same_symbols d other arrivals others word st stands same matrix len codeword fits c e =
    kept_of_codeword d arrivals word st codeword fits c e
    ∙ sym (kept_consistent other others (symbol_at d.len word) stands
    (rw (matrix, len) (codeword_consistent d.matrix d.len others word codeword
    (fits_same arrivals others (symbol_at d.len word) same fits))) c
    (same_known d other arrivals others st stands same matrix c ∙ e))
