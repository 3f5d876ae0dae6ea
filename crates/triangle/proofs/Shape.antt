-- A code whose row gains a column below its own.
use Rattle.std.proofs.Common.{◌≡◌, ℕ, zero, suc, ◌+◌, ◌-◌, ◌<◌, ◌≤◌, ⊎_elim, Bool, true, ◌==◌}
use Rattle.std.proofs.Common.{false, nat_lt, List, [], ◌∷◌, filter, length, Any, Contains, refl}
use Rattle.std.proofs.Common.{sym, arith, length-set, eq-eqb}
use Rattle.std.proofs.lemmas.Bool.{cases_order, lt-ltb, eqb-true}
use Rattle.std.proofs.lemmas.List.{get_or-set_same, get_or-set_other}
use Rattle.std.proofs.lemmas.List.Elements.{All-weaker, Contains-append_left, Contains-append_right}
use Rattle.sparse_rows.specs.Matrix.{Matrix, IsRow, IsCode, row_of, with_column, with_entry}
use Rattle.sparse_rows.specs.Building.{IsRising}
use Rattle.sparse_rows.proofs.Rising.{with_column_rises}

-- what passes a test is kept
filter_keeps : (p : ℕ → Bool) (x : ℕ) → p x ≡ true → (xs : List ℕ) → Contains xs x
    → Contains (filter p xs) x
filter_keeps p x passes [] (k, lt, e) = absurd (omega arith)
filter_keeps p x passes (y ∷ xs) (zero, lt, e) = let kept : p y ≡ true = rw e passes in
    rw kept (0, omega arith, e)
filter_keeps p x passes (y ∷ xs) (suc k, lt, e) =
    by_case (p y) refl (filter_keeps p x passes xs (k, omega arith, e))
  where
    by_case : (b : Bool) → p y ≡ b → Contains (filter p xs) x → Contains (filter p (y ∷ xs)) x
    by_case true kept rest = rw kept (Contains-append_right (y ∷ []) (filter p xs) x rest)
    by_case false dropped rest = rw dropped rest

-- a row keeps its columns
row_keeps : (c x : ℕ) (row : List ℕ) → Contains row x → Contains (with_column c row) x
row_keeps c x row held = ⊎_elim
    (λ (e : x ≡ c). Contains-append_right low (c ∷ high) x (0, omega arith, sym e))
    (λ order. ⊎_elim
    (λ (lt : x < c). Contains-append_left low (c ∷ high) x
    (filter_keeps (λ y. nat_lt y c) x (lt-ltb x c lt) row held))
    (λ (gt : c < x). Contains-append_right low (c ∷ high) x (Contains-append_right (c ∷ []) high x
    (filter_keeps (λ y. nat_lt c y) x (lt-ltb c x gt) row held)))
    order)
    (cases_order x c)
  where
    low : List ℕ
    low = filter (λ y. nat_lt y c) row

    high : List ℕ
    high = filter (λ y. nat_lt c y) row

-- a column that is not above the last one leaves the row a row of the code
row_with : (k last c : ℕ) (row : List ℕ) → c ≤ last → IsRow k last row
    → IsRow k last (with_column c row)
row_with k last c row le is = record {
  rising = rises.rising;
  holds = row_keeps c last row is.holds;
  within = All-weaker (λ x. x < last + 1) (λ x. x ≤ last) (λ x lt. omega arith) (with_column c row)
      rises.below;
  source = source is.source;
}
  where
    rises : IsRising (last + 1) (with_column c row)
    rises = with_column_rises (last + 1) c row (omega arith)
        (record {
          rising = is.rising;
          below = All-weaker (λ x. x ≤ last) (λ x. x < last + 1)
              (λ x le'. omega arith) row is.within;
        })

    source : Any (λ x. x < k) row → Any (λ x. x < k) (with_column c row)
    source (i, x, lt, e, below) = let kept : Contains (with_column c row) x =
        row_keeps c x row (i, lt, e) in (kept.0, x, kept.1, kept.2, below)

-- row r of a code gains a column below its own
pub code_with : (m : Matrix) (r c : ℕ) → IsCode m → r < m.n - m.k → c ≤ m.k + r
    → IsCode (with_entry m r c)
code_with m r c code inside le = record {
  some = code.some;
  most = code.most;
  shape = record {
    count = rw length-set code.shape.count;
    row = λ i lt. by_case i (let within : i < length m.rows = omega
        (arith, length-set {A = List ℕ} m.rows r (with_column c (row_of m r))) in within) (i == r)
        refl;
  };
}
  where
    here : r < length m.rows
    here = omega (arith, code.shape.count)

    by_case : (i : ℕ) → i < length m.rows → (b : Bool) → (i == r) ≡ b
        → IsRow m.k (m.k + i) (row_of (with_entry m r c) i)
    by_case i within true e = let same : i ≡ r = eqb-true i r e in
        rw (same, get_or-set_same m.rows r (with_column c (row_of m r)) [] here)
        (row_with m.k (m.k + r) c (row_of m r) le (code.shape.row r here))
    by_case i within false e =
        rw (get_or-set_other m.rows r i (with_column c (row_of m r)) []
        (λ same. absurd (cc (e, eq-eqb i r same)))) (code.shape.row i within)
