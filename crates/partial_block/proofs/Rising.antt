-- Rising lists of columns.
use Rattle.std.proofs.Common.{◌≡◌, ℕ, ◌+◌, ◌<◌, ◌≤◌, ⊎_elim, All, List, length, map}
use Rattle.std.proofs.Common.{slice_index, ap, arith}
use Rattle.std.proofs.Math.Nat.{eq-or-lt_of_le, le_of_eq}
use Rattle.std.specs.List.Sorted.{IsStrictlyIncreasing}
use Rattle.std.proofs.lemmas.List.{get_or-map, length-map}
use Rattle.std.proofs.lemmas.List.Kept.{AllPairs-from_increasing}

-- rising columns at rising places rise
pub columns_rise : (columns places : List ℕ) → IsStrictlyIncreasing columns
    → IsStrictlyIncreasing places → All (λ place. place < length columns) places
    → IsStrictlyIncreasing (map (slice_index columns) places)
columns_rise columns places rising order inside k lt =
    let lt2 : k + 1 < length places = rw length-map at lt in
    rw (
      get_or-map (slice_index columns) places k 0 0 (omega arith),
      get_or-map
          (slice_index columns) places (k + 1) 0 0 lt2,
    )
    (AllPairs-from_increasing columns rising (slice_index places k) (slice_index places (k + 1)) 0
    (order k lt2) (inside (k + 1) 0 lt2))

-- each column of a rising list is at most those behind it
pub columns_ordered : (columns : List ℕ) → IsStrictlyIncreasing columns → (i j : ℕ) → i ≤ j
    → j < length columns → slice_index columns i ≤ slice_index columns j
columns_ordered columns rising i j le lt = ⊎_elim
    (λ (e : i ≡ j). le_of_eq (ap (slice_index columns) e))
    (λ (less : i < j). let step = AllPairs-from_increasing columns rising i j 0 less lt in
    omega arith)
    (eq-or-lt_of_le le)
