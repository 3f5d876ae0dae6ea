-- What a search by halving says of a rising list.
use Rattle.std.proofs.Common.{⊎_elim, ◌==◌, ◌≡◌, ℕ, zero, suc, ◌<◌, ◌≤◌, List, length, get_or}
use Rattle.std.proofs.Common.{Result, Ok, Err, sym, arith, le_refl, eqb-true, subst}
use native.Mathlib.Numerals.{add-one}
use Rattle.std.specs.Result.{is_ok}
use Rattle.std.specs.List.Sorted.{IsSearchInRange, IsBinarySearchResult, IsNonDecreasingBy}
use Rattle.std.specs.List.Sorted.{IsStrictlyIncreasing}
use Rattle.std.specs.Ordering.{nat_cmp, ordering_index}
use Rattle.std.proofs.lemmas.Bool.{cases_lt, false_from_ne_true}
use Rattle.std.proofs.lemmas.Bool.Decides.{nat_tests}
use Rattle.std.proofs.lemmas.Cmp.{ranked}
use Rattle.std.proofs.lemmas.List.Sorted.{IsNonDecreasingBy-from_default}
use Rattle.sparse_rows.specs.Matrix.{is_in}
use Rattle.sparse_rows.proofs.Sets.{any_at}
use Rattle.sparse_rows.proofs.Null.{in_at}
use Rattle.sparse_rows.proofs.Shape.{last_or_before}

module _ (word : List ℕ) (rising : IsStrictlyIncreasing word) (column : ℕ) where
  -- each column is at most those behind it
  rises : (i j : ℕ) → i ≤ j → j < length word → get_or word i 0 ≤ get_or word j 0
  rises i zero le lt = let z : i ≡ 0 = omega arith in rw z (le_refl _)
  rises i (suc j) le lt = ⊎_elim (λ e. rw e (le_refl _))
      (λ (before : i < suc j). let step : get_or word j 0 < get_or word (suc j) 0 = subst
      (λ n. get_or word j 0 < get_or word n 0) (add-one j) (rising j (omega arith)) in
      let ih : get_or word i 0 ≤ get_or word j 0 = rises i j (omega arith) (omega arith) in
      omega (arith, step, ih))
      (last_or_before i (suc j) (omega arith))

  comparisons_rise : IsNonDecreasingBy (λ c. ordering_index (nat_cmp c column)) word
  comparisons_rise = IsNonDecreasingBy-from_default (λ c. ordering_index (nat_cmp c column)) word 0
      (λ i j le lt.
      let up = rises i j le lt in grind (arith, nat_tests))

  -- a search finds the column exactly where the list has it
  pub searched : (r : Result ℕ ℕ) → IsSearchInRange r (length word)
      → IsBinarySearchResult (λ c. nat_cmp c column) word r → is_ok r ≡ is_in word column
  searched (Ok at) in_range equal = let e : get_or word at 0 ≡ column =
      ranked _ column _ (sym (equal 0)) in sym (rw (sym e) (in_at word at 0 in_range))
  searched (Err at) in_range parted = sym (false_from_ne_true (is_in word column) (λ e.
      let r = any_at (λ c. c == column) 0 word e in
      let same : get_or word r.0 0 ≡ column = eqb-true _ _ r.2 in
      ⊎_elim
      (λ (lt : r.0 < at). let less : get_or word r.0 0 < column = ranked _ column _
      (sym ((parted comparisons_rise).0 r.0 0 (omega arith) lt)) in omega arith)
      (λ (le : at ≤ r.0). let greater : column < get_or word r.0 0 = ranked _ column _
      (sym ((parted comparisons_rise).1 r.0 0 le r.1)) in omega arith)
      (cases_lt r.0 at)))
