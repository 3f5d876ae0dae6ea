-- The null sets of the system of columns are the closed row sets.
use Rattle.std.proofs.Common.{◌≡◌, ◌≢◌, ℕ, ◌+◌, ◌<◌, ◌≤◌, ⊎_elim, true, false, List, [], length}
use Rattle.std.proofs.Common.{get_or, All, count_by, ◌%◌, sym, ap, ◌∙◌, subst, arith, true≢false}
use Rattle.std.proofs.Common.{bit_xor, le_refl, refl, take, ◌++◌, ◌∷◌}
use Rattle.std.proofs.Math.Bool.{xor as bool_xor}
use Rattle.std.proofs.lemmas.Bool.{false_from_ne_true, cases_lt}
use Rattle.std.proofs.lemmas.List.{get_or_default, get_or-set_other, get_or-set_same, length-map}
use Rattle.std.proofs.lemmas.List.{get_or-take, length-take-le, set-set}
use Rattle.std.proofs.lemmas.List.Kept.{AllPairs-from_increasing}
use Rattle.std.specs.List.Sorted.{IsStrictlyIncreasing}
use Rattle.std.proofs.lemmas.List.Elements.{All-from_get_or}
use Rattle.fec_base.specs.Symbol.{xor_sum, zero_symbol}
use Rattle.fec_base.proofs.SymbolBytes.{byte, byte_zero, length_zero}
use Rattle.sparse_rows.specs.Matrix.{Matrix, has_entry, is_in}
use Rattle.sparse_rows.specs.Closure.{Set}
use Rattle.sparse_rows.specs.Columns.{column_of}
use Rattle.sparse_rows.specs.Totals.{total}
use Rattle.sparse_rows.proofs.Algebra.{total_same, total_zero}
use Rattle.sparse_rows.proofs.Parity.{even_from, even_to}
use Rattle.sparse_rows.proofs.Planes.{byte_laws, zero_from_planes, zero_is_symbol}
use Rattle.sparse_rows.proofs.Null.{members_below, members_rise}
use Rattle.sparse_rows.proofs.Sets.{true_or_false}
use Rattle.null_witness.specs.ReducedWords.{IsReducedWord}
use Rattle.gauss.specs.Equations.{Equation, IsSolution, System, matrix_of}
use Rattle.gauss.specs.Filling.{equation_at, no_equation, with_equation, with_unknown}
use Rattle.gauss.specs.Reduction.{IsNullSet, IsReducedForm, ReducedForm}
use Rattle.gauss.proofs.Unique.{row_at}
use Rattle.clash_proof.specs.RowSets.{IsClosed}
use Rattle.clash_proof.specs.Transposed.{AreReducedWords, IsColumnEquation, IsTransposed, with_rows}
use Rattle.clash_proof.proofs.Closed.{odd_column}

-- families with the same words have the same reduced ones
reduced_same : (a b : List ℕ → Type 0) → ((w : List ℕ) → a w → b w)
    → ((w : List ℕ) → b w → a w) → (w : List ℕ) → IsReducedWord a w → IsReducedWord b w
reduced_same a b to from w red = record {
  one = to w red.one;
  only = λ p late e. red.only p (late.0, from late.0 late.1, late.2) e;
}

module _ (m : Matrix) (s : Set) (system : System)
    (t : IsTransposed m s m.n (length system.equations) system) where
  unknowns_at : (j : ℕ) → j < length system.equations
      → get_or (matrix_of system).rows j [] ≡ (equation_at system j).unknowns
  unknowns_at j lt = row_at system j lt ∙ ap (λ (e : Equation). e.unknowns)
      (get_or_default system.equations j (no_equation 0) (no_equation system.len) lt)

  null_closed : (w : List ℕ) → IsNullSet system w → IsClosed m s w
  null_closed w null = record {
    rising = null.rising;
    below = below;
    nonempty = null.nonempty;
    closed = λ c lt odd. ⊎_elim (λ f. f) (λ f. absurd (true≢false (sym odd
        ∙ odd_column m w null.rising below c ∙ even c (t.each c lt f)))) (true_or_false (s c));
  }
    where
      below : All (λ r. r < length m.rows) w
      below = subst (λ n. All (λ r. r < n) w) t.unknowns null.below

      even : (c : ℕ) → (j : ℕ) × (j < length system.equations)
          × ((equation_at system j).unknowns ≡ column_of m c)
          → total false bool_xor (is_in w) (column_of m c) ≡ false
      even c (j, lt, e) = ap (total false bool_xor (is_in w)) (sym (unknowns_at j lt ∙ e))
          ∙ even_to (is_in w) (get_or (matrix_of system).rows j [])
          (null.even j [] (rw length-map lt))

  closed_null : (w : List ℕ) → IsClosed m s w → IsNullSet system w
  closed_null w h = record {
    rising = h.rising;
    below = subst (λ n. All (λ r. r < n) w) (sym t.unknowns) h.below;
    nonempty = h.nonempty;
    outside = λ i d lt. refl;
    even = All-from_get_or (λ row. count_by (is_in w) row % 2 ≡ 0) (matrix_of system).rows []
        (λ j lt. even_from (is_in w) (get_or (matrix_of system).rows j [])
        (even j (rw length-map at lt)));
  }
    where
      even : (j : ℕ) → j < length system.equations
          → total false bool_xor (is_in w) (get_or (matrix_of system).rows j []) ≡ false
      even j lt = let e = t.put j lt in
          ap (total false bool_xor (is_in w)) (unknowns_at j lt ∙ e.rows)
          ∙ sym (odd_column m w h.rising h.below e.column)
          ∙ false_from_ne_true _ (λ odd. true≢false
          (sym (h.closed e.column e.inside odd) ∙ e.missing))

  pub closed_sets_are : (r : ReducedForm) → IsReducedForm system r
      → AreReducedWords (IsClosed m s) r.sets
  closed_sets_are r form = record {
    reduced = λ i d lt. reduced_same (IsNullSet system) (IsClosed m s) null_closed closed_null _
        (form.reduced i d lt);
    every = λ w red. form.every w
        (reduced_same (IsClosed m s) (IsNullSet system) closed_null null_closed w red);
    rising = form.rising;
  }

  -- zeros solve it
  pub zeros_solve : IsSolution system (λ c. zero_symbol system.len)
  zeros_solve = record {
    symbols = λ c. zero_is_symbol system.len;
    sums = All-from_get_or (λ (e : Equation).
        xor_sum system.len (λ c. zero_symbol system.len) e.unknowns ≡ e.sum) system.equations
        (no_equation system.len)
        (λ j lt. zero_sum (equation_at system j).unknowns ∙ sym (t.put j lt).zero);
  }
    where
      zero_sum : (cs : List ℕ)
          → xor_sum system.len (λ c. zero_symbol system.len) cs ≡ zero_symbol system.len
      zero_sum cs = zero_from_planes system.len (λ c. zero_symbol system.len)
          (λ c. length_zero system.len) cs
          (λ j. total_same 0 bit_xor byte_laws (λ c. byte j (zero_symbol system.len)) (λ c. 0) cs
          (λ k d lt. byte_zero system.len j) ∙ total_zero 0 bit_xor byte_laws cs)

-- ---- filling it in

-- an equation that was put
put_is : (s : System) (r : ℕ) (e : Equation) → r < length s.equations
    → equation_at (with_equation s r e) r ≡ e
put_is s r e lt = get_or-set_same s.equations r e (no_equation s.len) lt

module _ (s now : System) (r : ℕ) (rows : List ℕ) (lt : r < length s.equations)
    (is : now ≡ with_equation s r (with_rows rows (equation_at s r))) where
  -- the rows that were put
  pub rows_put : (equation_at now r).unknowns ≡ rows
  rows_put = ap (λ (t : System). (equation_at t r).unknowns) is
      ∙ ap (λ (e : Equation). e.unknowns) (put_is s r (with_rows rows (equation_at s r)) lt)

  -- one row more
  pub row_put : (new : System) (row : ℕ)
      → new ≡ with_equation now r (with_unknown row (equation_at now r))
      → new ≡ with_equation s r (with_rows (rows ++ row ∷ []) (equation_at s r))
  row_put new row new_is = new_is
      ∙ ap (λ (t : System). with_equation t r (with_unknown row (equation_at t r))) is
      ∙ ap (λ (es : List Equation). record {
        unknowns = s.unknowns;
        len = s.len;
        equations = es;
      }) (set-set s.equations r (with_rows rows (equation_at s r)) _)
      ∙ ap (λ (e : Equation). with_equation s r (with_unknown row e))
      (put_is s r (with_rows rows (equation_at s r)) lt)

-- the rows of a column rise, and are rows
pub column_rises : (m : Matrix) (c : ℕ) → IsStrictlyIncreasing (column_of m c)
column_rises m c = members_rise (length m.rows) (λ r. has_entry m r c)

pub column_below : (m : Matrix) (c : ℕ) → All (λ r. r < length m.rows) (column_of m c)
column_below m c = members_below (length m.rows) (λ r. has_entry m r c)

-- an item of a rising list is above those before it
pub above_before : (xs : List ℕ) → IsStrictlyIncreasing xs → (i : ℕ) → i < length xs
    → All (λ x. x < get_or xs i 0) (take i xs)
above_before xs rising i lt = All-from_get_or (λ x. x < get_or xs i 0) (take i xs) 0
    (λ j below. let low : j < i =
    omega (arith, below, length-take-le i xs (lt_le i (length xs) lt)) in
    let e : get_or (take i xs) j 0 ≡ get_or xs j 0 = get_or-take i xs j 0 low in
    let less = AllPairs-from_increasing xs rising j i 0 low lt in omega (arith, e, less))
  where
    lt_le : (a b : ℕ) → a < b → a ≤ b
    lt_le a b h = omega (arith, h)

module _ (m : Matrix) (s : Set) (c r : ℕ) (system : System) (t : IsTransposed m s c r system)
  where
    later : (e : Equation) → IsColumnEquation m s c system.len e
        → IsColumnEquation m s (c + 1) system.len e
    later e h = record {
      column = h.column;
      inside = omega (arith, h.inside);
      missing = h.missing;
      rows = h.rows;
      zero = h.zero;
    }

    -- a column that arrived
    pub skipped : s c ≡ true → IsTransposed m s (c + 1) r system
    skipped came = record {
      unknowns = t.unknowns;
      each = λ column lt missing. t.each column (⊎_elim (λ lt2. lt2)
          (λ le. let z : column ≡ c = omega (arith, le, lt) in
          absurd (true≢false (sym (ap s z ∙ came) ∙ missing))) (cases_lt column c)) missing;
      put = λ j lt. later (equation_at system j) (t.put j lt);
      rest = t.rest;
    }

    -- one that did not
    pub added : s c ≡ false → r < length system.equations → (system2 : System)
        → system2 ≡ with_equation system r (with_rows (column_of m c) (equation_at system r))
        → IsTransposed m s (c + 1) (r + 1) system2
    added missing lt system2 is = subst (IsTransposed m s (c + 1) (r + 1)) (sym is) (record {
      unknowns = t.unknowns;
      each = λ column below none. ⊎_elim
          (λ lt2. let w = t.each column lt2 none in (
            w.0,
            omega (arith, w.1),
            ap (λ (e : Equation). e.unknowns) (other w.0 (λ z. omega (arith, w.1, z))) ∙ w.2,
          ))
          (λ le. let z : column ≡ c = omega (arith, le, below) in
          (r, omega arith, ap (λ (e : Equation). e.unknowns) here ∙ sym (ap (column_of m) z)))
          (cases_lt column c);
      put = λ j below. ⊎_elim
          (λ lt2. subst (IsColumnEquation m s (c + 1) system.len)
          (sym (other j (λ z. omega (arith, lt2, z)))) (later (equation_at system j) (t.put j lt2)))
          (λ le. let z : j ≡ r = omega (arith, le, below) in
          subst (IsColumnEquation m s (c + 1) system.len) (sym (ap (equation_at system3) z ∙ here))
          (record {
            column = c;
            inside = omega arith;
            missing = missing;
            rows = refl;
            zero = ap (λ (e : Equation). e.sum) (t.rest r (le_refl r));
          }))
          (cases_lt j r);
      rest = λ j le. other j (λ z. omega (arith, le, z)) ∙ t.rest j (omega (arith, le));
    })
      where
        put_now : Equation
        put_now = with_rows (column_of m c) (equation_at system r)

        system3 : System
        system3 = with_equation system r put_now

        here : equation_at system3 r ≡ put_now
        here = get_or-set_same system.equations r put_now (no_equation system.len) lt

        other : (j : ℕ) → j ≢ r → equation_at system3 j ≡ equation_at system j
        other j ne = get_or-set_other system.equations r j put_now (no_equation system.len) ne
