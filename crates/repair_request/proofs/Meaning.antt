-- Positions that settle a block, and what their symbols determine.
use Rattle.std.proofs.Common.{⊎_elim, ◌≡◌, ◌↔◌, ℕ, ◌≤◌, true, not, ◌==◌, ◌||◌, ◌++◌, List}
use Rattle.std.proofs.Common.{[], ◌∷◌, take, refl, sym, ap, ◌∙◌, subst}
use Rattle.std.proofs.Common.{true≢false}
use Rattle.std.proofs.lemmas.Bool.{false_from_ne_true}
use Rattle.std.proofs.lemmas.List.{ext_get_or, get_or-map, length-map}
use Rattle.std.proofs.lemmas.List.Elements.{All-append, All-from_get_or}
use Rattle.std.proofs.lemmas.List.Folds.{list_any-append}
use Rattle.fec_base.specs.Symbol.{zero_symbol}
use Rattle.sparse_rows.specs.Matrix.{Matrix, HasShape, is_in}
use Rattle.sparse_rows.specs.Codeword.{Arrival, Fits, positions, symbol_at}
use Rattle.sparse_rows.specs.Closure.{Set, closure, members}
use Rattle.sparse_rows.specs.NullWord.{IsNullWord}
use Rattle.sparse_rows.specs.Fitting.{IsFitting}
use Rattle.sparse_rows.specs.Determined.{IsSource}
use Rattle.sparse_rows.proofs.Null.{in_at, members_in, null_outside, null_source}
use Rattle.sparse_rows.proofs.Sets.{or_first, or_second, rounds_hold, true_or_false}
use Rattle.null_witness.specs.Laws.{ClosureHasSameNullWords, UndeterminedByNullWord}
use Rattle.null_witness.proofs.Subsets.{null_subset}
use Rattle.partial_block.specs.Laws.{DeterminedByNullWords}
use Rattle.partial_block.specs.Through.{IsDetermined}
use Rattle.repair_request.specs.Settling.{IsInnovative, Settles, answers, together}
use Rattle.repair_request.proofs.Late.{innovative_or_not}
use Rattle.repair_request.proofs.Further.{null_together, together_lacks, together_null}

-- ---- the arrivals with the answers to a request

answers_at : (len : ℕ) (word : List (List ℕ)) (request : List ℕ) (c : ℕ)
    → positions (answers len word request) c ≡ is_in request c
answers_at len word [] c = refl
answers_at len word (e ∷ request) c = ap (λ b. (e == c) || b) (answers_at len word request c)

positions_are : (len : ℕ) (arrivals : List Arrival) (word : List (List ℕ)) (request : List ℕ)
    (c : ℕ) → positions (arrivals ++ answers len word request) c
    ≡ together (positions arrivals) request c
positions_are len arrivals word request c =
    list_any-append (λ (a : Arrival). a.0 == c) arrivals (answers len word request)
    ∙ ap (λ b. positions arrivals c || b) (answers_at len word request c)

answers_fit : (len : ℕ) (word : List (List ℕ)) (request : List ℕ)
    → Fits (answers len word request) (symbol_at len word)
answers_fit len word request = All-from_get_or (λ (a : Arrival). symbol_at len word a.0 ≡ a.1)
    (answers len word request) (0, symbol_at len word 0)
    (λ i lt. let is = get_or-map (λ c. (c, symbol_at len word c)) request i 0
    (0, symbol_at len word 0) (rw length-map at lt) in
    ap (λ (a : Arrival). symbol_at len word a.0) is ∙ sym (ap (λ (a : Arrival). a.1) is))

module _ (m : Matrix) (len : ℕ) (arrivals : List Arrival) (word : List (List ℕ))
    (request : List ℕ) (shape : HasShape m) (some : 1 ≤ len)
    (fitting : IsFitting m len arrivals word) where
  all : List Arrival
  all = arrivals ++ answers len word request

  still_fits : IsFitting m len all word
  unfolding all
  still_fits = record {
    codeword = fitting.codeword;
    fits = All-append (λ (a : Arrival). symbol_at len word a.0 ≡ a.1) arrivals
        (answers len word request) fitting.fits (answers_fit len word request);
  }

  -- a null word of one of the sets is one of the other
  to_all : (null : List ℕ) → IsNullWord m (together (positions arrivals) request) null
      → IsNullWord m (positions all) null
  unfolding all
  to_all null is = null_subset m (positions all) (together (positions arrivals) request) null
      (λ c e. sym (positions_are len arrivals word request c) ∙ e) is

  from_all : (null : List ℕ) → IsNullWord m (positions all) null
      → IsNullWord m (together (positions arrivals) request) null
  unfolding all
  from_all null is = null_subset m (together (positions arrivals) request) (positions all) null
      (λ c e. positions_are len arrivals word request c ∙ e) is

  module _ (undetermined : UndeterminedByNullWord) (determined : DeterminedByNullWords) where
    -- where they settle the block, the codeword alone fits
    pub only_one : Settles m (positions arrivals) request → (other : List (List ℕ))
        → IsFitting m len (arrivals ++ answers len word request) other → other ≡ word
    unfolding all
    only_one settles other fits = ext_get_or (zero_symbol len) other word
        (fits.codeword.count ∙ sym fitting.codeword.count) (λ c lt.
        (determined m len all word c shape some still_fits).1
        (λ null is. absurd (settles null (from_all null is))) other word fits still_fits)

    -- a null word that is left gives codewords of two sources
    pub settled : (source : List (List ℕ)) → ((other : List (List ℕ))
        → IsFitting m len (arrivals ++ answers len word request) other → take m.k other ≡ source)
        → Settles m (positions arrivals) request
    unfolding all
    settled source only null is =
        let two = (undetermined m len all word shape some still_fits).1 (null, to_all null is) in
        two.differ (only two.word two.word_fits ∙ sym (only two.other two.other_fits))

    pub gives_source : Settles m (positions arrivals) request
        → IsSource m len (arrivals ++ answers len word request) (take m.k word)
    unfolding all
    gives_source settles = record {
      word = word;
      fits = still_fits;
      only = λ other fits. ap (take m.k) (only_one settles other fits);
    }

-- ---- one position

pub innovative_open : (m : Matrix) (len : ℕ) (arrivals : List Arrival) (fitting : List (List ℕ))
    (e : ℕ) → HasShape m → 1 ≤ len → IsFitting m len arrivals fitting → DeterminedByNullWords
    → IsInnovative m (positions arrivals) e ↔ (¬ IsDetermined m len arrivals e)
innovative_open m len arrivals fitting e shape some fits determined = (
  λ holds told. true≢false (sym holds.2
      ∙ (determined m len arrivals fitting e shape some fits).0 told holds.0 holds.1),
  λ open_there. ⊎_elim (λ holds. holds)
      (λ none. absurd (open_there ((determined m len arrivals fitting e shape some fits).1
      (λ word null. false_from_ne_true _ (λ at. none (word, null, at))))))
      (innovative_or_not m (positions arrivals) e),
)

-- ---- the source positions that are missing

pub missing_source : (m : Matrix) (s : Set) → HasShape m
    → Settles m s (members m.k (λ c. not (s c)))
missing_source m s shape word null =
    let missing = members m.k (λ c. not (s c)) in
    let r = null_source m shape (together s missing) word null in
    let inside : is_in word r.1 ≡ true = subst (λ c. is_in word c ≡ true) r.3
    (in_at word r.0 r.1 r.2) in
    let has : together s missing r.1 ≡ true = ⊎_elim (λ e. or_first (s r.1) _ e)
    (λ e. or_second (s r.1) _ (members_in m.k (λ c. not (s c)) r.1 r.4 (ap not e)))
    (true_or_false (s r.1)) in
    true≢false (sym inside ∙ null_outside m (together s missing) word null r.1 has)

-- ---- peeling

pub after_peeling : (m : Matrix) (s : Set) (request : List ℕ) → Settles m s request
    → Settles m (closure m s) request
after_peeling m s request settles word null = settles word
    (null_together m s request word
    (null_subset m s (closure m s) word (rounds_hold m m.n s)
    (together_null m (closure m s) request word null))
    (together_lacks m (closure m s) request word null))

pub before_peeling : (m : Matrix) (s : Set) (request : List ℕ) → ClosureHasSameNullWords
    → Settles m (closure m s) request → Settles m s request
before_peeling m s request same settles word null = settles word
    (null_together m (closure m s) request word
    ((same m s word).0 (together_null m s request word null))
    (together_lacks m s request word null))
