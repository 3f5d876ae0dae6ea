-- Columns at places, and the unknown columns.
use Rattle.std.proofs.Common.{◌≡◌, ℕ, ◌+◌, ◌<◌, ◌≤◌, ⊎_elim, All, List, length, map, not}
use Rattle.std.proofs.Common.{slice_index, sym, ap, arith}
use Rattle.std.proofs.Math.Nat.{eq-or-lt_of_le, le_of_eq}
use Rattle.std.proofs.lemmas.Bool.{cases_lt}
use Rattle.std.specs.List.{range_with_len}
use Rattle.std.specs.List.Sorted.{IsStrictlyIncreasing}
use Rattle.std.proofs.lemmas.List.{get_or-map, length-map}
use Rattle.std.proofs.lemmas.List.FromFn.{length-range_with_len}
use Rattle.std.proofs.lemmas.List.Kept.{AllPairs-from_increasing}
use Rattle.std.proofs.lemmas.List.Sums.{count_by-le-length, length-filter}
use Rattle.sparse_rows.specs.Closure.{flagged}
use Rattle.sparse_rows.proofs.Null.{members_rise}
use Rattle.peeling.specs.Decoder.{Decoder}
use Rattle.fec_session.specs.Residue.{unknown_columns}

-- rising columns at rising places rise
pub columns_rise : (columns places : List ℕ) → IsStrictlyIncreasing columns
    → IsStrictlyIncreasing places → All (λ place. place < length columns) places
    → IsStrictlyIncreasing (map (slice_index columns) places)
columns_rise columns places rising order inside k lt =
    let lt2 : k + 1 < length places = rw length-map at lt in
    rw (
      get_or-map (slice_index columns) places k 0 0 (omega arith),
      get_or-map (slice_index columns) places (k + 1) 0 0 lt2,
    )
    (AllPairs-from_increasing columns rising (slice_index places k) (slice_index places (k + 1)) 0
    (order k lt2) (inside (k + 1) 0 lt2))

-- there are at most n unknown columns
pub unknown_few : (d : Decoder) → length (unknown_columns d) ≤ d.matrix.n
unknown_few d =
    let unknown = λ (c : ℕ). not (flagged d.known c) in
    let columns : List ℕ = range_with_len 0 d.matrix.n in
    omega (
      arith,
      length-filter unknown columns,
      count_by-le-length unknown columns,
      length-range_with_len 0 d.matrix.n,
    )

-- the unknown columns rise
pub unknown_rise : (d : Decoder) → IsStrictlyIncreasing (unknown_columns d)
unknown_rise d = members_rise d.matrix.n (λ c. not (flagged d.known c))

-- a column of a rising list stands at one place alone
pub one_place : (columns : List ℕ) (i j : ℕ) → IsStrictlyIncreasing columns → i < length columns
    → j < length columns → slice_index columns i ≡ slice_index columns j → i ≡ j
one_place columns i j rising lt lt2 same = ⊎_elim
    (λ (less : i < j). let step = AllPairs-from_increasing columns rising i j 0 less lt2 in
    absurd (omega arith))
    (λ (le : j ≤ i). ⊎_elim (λ (e : j ≡ i). sym e)
    (λ (less : j < i). let step = AllPairs-from_increasing columns rising j i 0 less lt in
    absurd (omega arith))
    (eq-or-lt_of_le le))
    (cases_lt i j)

-- each column of a rising list is at most those behind it
pub columns_ordered : (columns : List ℕ) → IsStrictlyIncreasing columns → (i j : ℕ) → i ≤ j
    → j < length columns → slice_index columns i ≤ slice_index columns j
columns_ordered columns rising i j le lt = ⊎_elim
    (λ (e : i ≡ j). le_of_eq (ap (slice_index columns) e))
    (λ (less : i < j). let step = AllPairs-from_increasing columns rising i j 0 less lt in
    omega arith)
    (eq-or-lt_of_le le)
