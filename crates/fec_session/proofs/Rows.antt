-- The sum of a row is that of its columns before the repair symbol.
use Rattle.std.proofs.Common.{Fits, w8, rules, ◌≡◌, ℕ, zero, suc, ◌+◌, ◌-◌, ◌<◌, ◌≤◌, List, [], ◌∷◌}
use Rattle.std.proofs.Common.{◌++◌, length, get_or, take, fold, All, refl, sym, ap, ap₂, ◌∙◌, subst}
use Rattle.std.proofs.Common.{length-take-le, ⊎_elim, inl, inr, ◌⊎◌, arith, add-one}
use Rattle.std.proofs.lemmas.Bool.{cases_lt}
use Rattle.std.proofs.Math.Seq.{take-suc, take-length}
use Rattle.std.proofs.lemmas.List.{get_or-take}
use Rattle.std.proofs.lemmas.List.Sums.{fold_more}
use Rattle.std.proofs.lemmas.List.Elements.{All-from_get_or}
use Rattle.fec_base.specs.Symbol.{IsSymbol, xor, zero_symbol, xor_sum}
use Rattle.sparse_rows.specs.Matrix.{Matrix, IsRow, IsCode, row_of}
use Rattle.sparse_rows.specs.Codeword.{symbol_at, IsAssignment}
use Rattle.sparse_rows.proofs.Planes.{symbol_at_is, length_sum}
use Rattle.sparse_rows.proofs.Symbols.{xor_sum_push, symbol_xor_zero}

-- a default doesn't matter where an item is
any_default : {X : Type 0} (xs : List X) (i : ℕ) (d e : X) → i < length xs
    → get_or xs i d ≡ get_or xs i e
any_default [] i d e lt = absurd (omega arith)
any_default (x ∷ xs) zero d e lt = refl
any_default (x ∷ xs) (suc i) d e lt = any_default xs i d e (omega arith)

module _ (k last : ℕ) (row : List ℕ) (is : IsRow k last row) where
  -- a row holds a column
  pub row_some : 0 < length row
  row_some = let h : is.holds.0 < length row = is.holds.1 in omega arith

  -- a column before the last is below the row's own
  pub row_before : (i : ℕ) → i < length row - 1 → get_or row i 0 < last
  row_before i lt =
      let next : get_or row i 0 < get_or row (i + 1) 0 = is.rising i (omega arith) in
      let most : get_or row (i + 1) 0 ≤ last = is.within (i + 1) 0 (omega arith) in omega arith

  row_end : get_or row (length row - 1) 0 ≡ last
  row_end =
      let j : ℕ = is.holds.0 in
      let inside : j < length row = is.holds.1 in
      let found : get_or row j 0 ≡ last = at_zero row j last inside is.holds.2 in
      ⊎_elim (λ (e : j ≡ length row - 1). ap (λ (i : ℕ). get_or row i 0) (sym e) ∙ found)
      (λ (lt : j < length row - 1). let low : get_or row j 0 < last = row_before j lt in
      absurd (omega (arith, found)))
      (last_place j (length row) inside)
    where
      at_zero : (xs : List ℕ) (i d : ℕ) → i < length xs → get_or xs i d ≡ d → get_or xs i 0 ≡ d
      at_zero [] i d lt e = absurd (omega arith)
      at_zero (x ∷ xs) zero d lt e = e
      at_zero (x ∷ xs) (suc i) d lt e = at_zero xs i d (omega arith) e

      last_place : (i n : ℕ) → i < n → (i ≡ n - 1) ⊎ (i < n - 1)
      last_place i n lt = by_cases (cases_lt i (n - 1))
        where
          by_cases : (i < n - 1) ⊎ (n - 1 ≤ i) → (i ≡ n - 1) ⊎ (i < n - 1)
          by_cases (inl l) = inr l
          by_cases (inr l) = inl (omega arith)

  -- a row is the columns before its own, and its own
  pub row_parts : row ≡ take (length row - 1) row ++ last ∷ []
  row_parts =
      let whole : length row ≡ suc (length row - 1) = omega (arith, row_some) in
      sym (take-length row) ∙ ap (λ (n : ℕ). take n row) whole ∙ take-suc row (length row - 1) 0
      (omega (arith, row_some)) ∙ ap (λ (c : ℕ). take (length row - 1) row ++ c ∷ []) row_end

-- one column more of a row
pub sum_more : (len : ℕ) (x : ℕ → List ℕ) → IsAssignment len x → (row : List ℕ) (i : ℕ)
    → i < length row → xor_sum len x (take (i + 1) row) ≡ xor (xor_sum len x (take i row))
    (x (get_or row i 0))
sum_more len x is row i lt = ap (λ (n : ℕ). xor_sum len x (take n row)) (add-one i)
    ∙ ap (xor_sum len x) (take-suc row i 0 lt) ∙ xor_sum_push len x (λ c. (is c).long) (take i row)
    (get_or row i 0)

-- the repair symbol itself is zero while the others are added up
pub sum_whole : (len k count : ℕ) (x : ℕ → List ℕ) (row : List ℕ) → IsAssignment len x
    → IsRow k count row → x count ≡ zero_symbol len → xor_sum len x (take (length row - 1) row)
    ≡ xor_sum len x row
sum_whole len k count x row is shape none =
    sym (ap (xor_sum len x) (row_parts k count row shape) ∙ xor_sum_push len x (λ c. (is c).long)
    (take (length row - 1) row) count
    ∙ ap (xor (xor_sum len x (take (length row - 1) row))) none
    ∙ symbol_xor_zero (xor_sum len x (take (length row - 1) row)) len
    (length_sum len x (λ c. (is c).long) (take (length row - 1) row)))

-- what a code says of its row r
pub code_row : (m : Matrix) → IsCode m → (r : ℕ) → r < m.n - m.k → IsRow m.k (m.k + r) (row_of m r)
code_row m code r lt = code.shape.row r (omega (arith, code.shape.count))

-- row r is added up in its own symbol, which is zero at first, from the symbols before it
module _ (m : Matrix) (code : IsCode m) (r : ℕ) (more : r < m.n - m.k) (len : ℕ)
    (start : List (List ℕ)) (count : length start ≡ m.n) (each : All (IsSymbol len) start) where
  abbrev own : ℕ
  own = m.k + r

  abbrev row : List ℕ
  row = row_of m r

  abbrev x : ℕ → List ℕ
  x = symbol_at len start

  inside : own < length start
  inside = omega (arith, code.shape.count)

  x_is : IsAssignment len x
  x_is = symbol_at_is len start each

  -- the columns before the row's own, added one after another
  added : get_or start own [] ≡ zero_symbol len → (i : ℕ) → i ≤ length row - 1
      → fold (λ s c. xor s (get_or start c [])) (get_or start own []) (take i row) ≡ xor_sum len x
      (take i row)
  added none zero le = none
  added none (suc i) le =
      let c : ℕ = get_or row i 0 in
      let next : suc i ≡ i + 1 = omega arith in
      let before : c < own = row_before m.k own row (code_row m code r more) i (omega arith) in
      ap (λ (n : ℕ). fold (λ s c. xor s (get_or start c [])) (get_or start own []) (take n row))
      next ∙ fold_more (λ s c. xor s (get_or start c [])) (get_or start own []) row i 0
      (omega arith)
      ∙ ap₂ xor (added none i (omega arith)) (any_default start c [] (zero_symbol len)
      (omega (arith, inside)))
      ∙ sym (sum_more len x x_is row i (omega arith))
      ∙ sym (ap (λ (n : ℕ). xor_sum len x (take n row)) next)

  -- all of them make the row's sum
  pub added_all : get_or start own [] ≡ zero_symbol len → (columns : List ℕ)
      → columns ≡ take (length row - 1) row
      → fold (λ s c. xor s (get_or start c [])) (get_or start own []) columns ≡ xor_sum len x row
  added_all none columns is =
      ap (fold (λ s c. xor s (get_or start c [])) (get_or start own [])) is
      ∙ added none (length row - 1) (omega arith)
      ∙ sum_whole len m.k own x row x_is (code_row m code r more)
      (any_default start own (zero_symbol len) [] inside ∙ none)

-- the columns before the row's own are below it
pub row_below : (m : Matrix) → IsCode m → (r : ℕ) → r < m.n - m.k → (columns : List ℕ)
    → columns ≡ take (length (row_of m r) - 1) (row_of m r) → All (λ c. c < m.k + r) columns
row_below m code r more columns is = subst (All (λ c. c < m.k + r)) (sym is) (λ i d lt.
    let row : List ℕ = row_of m r in
    let before : i < length row - 1 =
    omega (arith, length-take-le (length row - 1) row (omega arith)) in
    let low : get_or row i 0 < m.k + r = row_before m.k (m.k + r) row (code_row m code r more) i
    before in
    let is_row : get_or (take (length row - 1) row) i d ≡ get_or row i 0 =
    get_or-take (length row - 1) row i d before ∙ any_default row i d 0 (omega arith) in
    omega (arith, is_row, low))

-- bytes are below 256
pub bytes_small : (bytes : List ℕ) → ((i : ℕ) → Fits w8 (get_or bytes i 0))
    → All (λ b. b < 256) bytes
bytes_small bytes fits = All-from_get_or (λ b. b < 256) bytes 0
    (λ i lt. let h : Fits w8 (get_or bytes i 0) = fits i in search (rules, h))
