-- What null words show of a position.
use Rattle.std.proofs.Common.{◌≡◌, ℕ, ◌<◌, ◌≤◌, ⊎_elim, true, false, List, sym, ◌∙◌, true≢false}
use Rattle.std.proofs.lemmas.Bool.{cases_lt, false_from_ne_true}
use Rattle.std.proofs.lemmas.List.{get_or_past}
use Rattle.fec_base.specs.Symbol.{zero_symbol}
use Rattle.sparse_rows.specs.Matrix.{Matrix, HasShape, is_in}
use Rattle.sparse_rows.specs.Codeword.{Arrival, positions, symbol_at}
use Rattle.sparse_rows.specs.Closure.{Set}
use Rattle.sparse_rows.specs.NullWord.{IsNullWord}
use Rattle.sparse_rows.specs.Fitting.{IsFitting}
use Rattle.sparse_rows.proofs.Planes.{symbol_at_is}
use Rattle.null_witness.proofs.Bits.{differ_symbol}
use Rattle.null_witness.proofs.Determined.{null_of_differ, second, second_fits, second_flips}
use Rattle.null_witness.proofs.NullWords.{null_decided, null_linear}
use Rattle.null_witness.proofs.ReducedWords.{first_of, some_reduced, sum_either}
use Rattle.partial_block.specs.Through.{IsThrough, IsDetermined}

-- a null word that holds a position gives one through it
pub through_of : (m : Matrix) (s : Set) (e : ℕ) (word : List ℕ) → IsNullWord m s word
    → is_in word e ≡ true → (through : List ℕ) × IsThrough m s e through
through_of m s e word null holds =
    let r = some_reduced (IsNullWord m s) (null_linear m s) (null_decided m s) (λ w. is_in w e)
    (λ a b w ha hb sum. sum_either a b w sum e) word null holds in
    first_of (IsNullWord m s) (null_linear m s) (null_decided m s) (λ w. is_in w e) r.0 r.1 r.2

module _ (m : Matrix) (shape : HasShape m) (len : ℕ) (arrivals : List Arrival)
    (fitting : List (List ℕ)) (fits : IsFitting m len arrivals fitting) (e : ℕ) where
  -- no null word holds a position that is determined
  pub determined_none : 1 ≤ len → IsDetermined m len arrivals e → (word : List ℕ)
      → IsNullWord m (positions arrivals) word → is_in word e ≡ false
  determined_none some same word null = false_from_ne_true _ (λ holds.
      second_flips m shape len arrivals fitting fits word null some e holds
      (same fitting (second m shape len arrivals fitting fits word null) fits
      (second_fits m shape len arrivals fitting fits word null)))

  -- and a position that none holds is determined
  pub none_determined : ((word : List ℕ) → IsNullWord m (positions arrivals) word
      → is_in word e ≡ false) → IsDetermined m len arrivals e
  none_determined none word other hw ho = ⊎_elim inside past (cases_lt e m.n)
    where
      inside : e < m.n → symbol_at len word e ≡ symbol_at len other e
      inside lt = ⊎_elim
          (λ r. let null = null_of_differ m shape len arrivals word other hw ho e lt r.0 r.2 in
          absurd (true≢false (sym null.2 ∙ none null.0 null.1)))
          (λ z. z)
          (differ_symbol len _ _ (symbol_at_is len word hw.codeword.symbols e)
          (symbol_at_is len other ho.codeword.symbols e))

      past : m.n ≤ e → symbol_at len word e ≡ symbol_at len other e
      past le = get_or_past word e (zero_symbol len) (rw hw.codeword.count le)
          ∙ sym (get_or_past other e (zero_symbol len) (rw ho.codeword.count le))
