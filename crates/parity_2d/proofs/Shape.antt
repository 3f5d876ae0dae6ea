-- The shape of the finished matrix.
use Rattle.std.proofs.Common.{◌≡◌, ℕ, ◌+◌, ◌-◌, ◌*◌, ◌/◌, ◌%◌, ◌<◌, ◌≤◌, ◌==◌, min, ⊎_elim}
use Rattle.std.proofs.Common.{List, [], ◌∷◌, ◌++◌, map, length, get_or, All, sym, ap, ◌∙◌, subst}
use Rattle.std.proofs.Common.{arith, length-append, filter, replicate, refl}
use Rattle.std.specs.Int.{div_ceil}
use Rattle.std.specs.List.{range_with_len}
use Rattle.std.proofs.Math.Nat.{mul-div_cancel, mod-eq_of_lt}
use Rattle.std.proofs.lemmas.Bool.{cases_lt}
use Rattle.std.proofs.lemmas.List.{get_or_append_left, get_or-append_right, get_or-replicate}
use Rattle.std.proofs.lemmas.List.{length-replicate}
use Rattle.std.proofs.lemmas.List.Elements.{All-append, All-map, All-replicate}
use Rattle.std.proofs.lemmas.List.FromFn.{length-map-range_with_len, get_or-map-range_with_len}
use Rattle.sparse_rows.specs.Matrix.{Matrix, IsRow, HasShape}
use Rattle.parity_2d.specs.Grid.{grid_row, grid_column}
use Rattle.blocking.specs.Blocks.{size_2d}
use Rattle.parity_2d.specs.Filling.{grid_sources, matrix_of, source_rows, with_parities}
use Rattle.parity_2d.proofs.Classes.{class_below, range_below}
use Rattle.parity_2d.proofs.Rows.{row_is}
use Rattle.parity_2d.proofs.Places.{row_begins}

-- two lists one after the other, each made from a function of the place
abbrev pub joined : (ℕ → List ℕ) → (ℕ → List ℕ) → ℕ → ℕ → List (List ℕ)
joined f g a b = map f (range_with_len 0 a) ++ map g (range_with_len 0 b)

pub length_joined : (f g : ℕ → List ℕ) (a b : ℕ) → length (joined f g a b) ≡ a + b
length_joined f g a b = omega (
  arith,
  length-append (map f (range_with_len 0 a)) (map g (range_with_len 0 b)),
  length-map-range_with_len f 0 a,
  length-map-range_with_len g 0 b,
)

pub joined_left : (f g : ℕ → List ℕ) (a b i : ℕ) → i < a → get_or (joined f g a b) i [] ≡ f i
joined_left f g a b i lt =
    get_or_append_left (map f (range_with_len 0 a)) (map g (range_with_len 0 b)) [] i
    (omega (arith, length-map-range_with_len f 0 a))
    ∙ get_or-map-range_with_len f 0 a i i [] lt (omega arith)

pub joined_right : (f g : ℕ → List ℕ) (a b i : ℕ) → a ≤ i → i < a + b
    → get_or (joined f g a b) i [] ≡ g (i - a)
joined_right f g a b i le lt =
    get_or-append_right (map f (range_with_len 0 a)) (map g (range_with_len 0 b)) a i []
    (length-map-range_with_len f 0 a) le
    ∙ get_or-map-range_with_len g 0 b (i - a) (i - a) [] (omega arith) (omega arith)

-- the one class of all symbols has them all
all_alike : (symbols : List ℕ) → filter (λ (x : ℕ). 0 == 0) symbols ≡ symbols
all_alike [] = refl
all_alike (x ∷ symbols) = ap (λ xs. x ∷ xs) (all_alike symbols)

module _ (k w : ℕ) where
  -- how many rows the grid has, and how many columns hold a symbol
  abbrev a : ℕ
  a = div_ceil k w

  abbrev b : ℕ
  b = min w k

  -- the rows of the grid and its columns are as many as their parities
  pub length_grid : length (grid_sources k w) ≡ div_ceil k w + min w k
  length_grid = length_joined (grid_row k w) (grid_column k w) a b

  -- and they have source symbols alone
  grid_alone : All (All (λ c. c < k)) (grid_sources k w)
  grid_alone = All-append (All (λ c. c < k)) (map (grid_row k w) (range_with_len 0 a))
      (map (grid_column k w) (range_with_len 0 b))
      (All-map (All (λ c. c < k)) (grid_row k w) (range_with_len 0 a)
      (λ i d lt. class_below (λ x. x / w) k _))
      (All-map (All (λ c. c < k)) (grid_column k w) (range_with_len 0 b)
      (λ i d lt. class_below (λ x. x % w) k _))

module _ (k w corners : ℕ) where
  -- all source symbols
  abbrev all : List ℕ
  all = range_with_len 0 k

  -- there are as many rows as parities
  pub length_source_rows : length (source_rows k w corners) ≡ div_ceil k w + min w k + corners
  length_source_rows = omega (
    arith,
    length-append (grid_sources k w) (replicate corners all),
    length_grid k w,
    length-replicate corners all,
  )

  -- and they have source symbols alone
  pub sources_alone : All (All (λ c. c < k)) (source_rows k w corners)
  sources_alone = All-append (All (λ c. c < k)) (grid_sources k w) (replicate corners all)
      (grid_alone k w) (All-replicate (All (λ c. c < k)) corners all (range_below k))

  -- what a builder without columns becomes by the source symbols and then the parities
  pub made : {n : ℕ} {rows : List (List ℕ)} {begun filled whole : Matrix}
      → begun ≡ record { k = k; n = n; rows = rows } → n ≡ size_2d k w + corners
      → filled ≡ record begun { rows = source_rows k w corners } → whole ≡ with_parities filled
      → whole ≡ matrix_of k w corners
  made begins sized sources parities = parities ∙ ap with_parities (sources
      ∙ ap (λ (m : Matrix). record m { rows = source_rows k w corners }) begins
      ∙ ap (λ (n : ℕ). record { k = k; n = n; rows = source_rows k w corners }) sized)

  -- row i with its parity
  abbrev own : ℕ → List ℕ
  own i = get_or (source_rows k w corners) i [] ++ (k + i) ∷ []

  -- row i of the matrix ends with column k + i, and has a source symbol
  pub matrix_has_shape : 1 ≤ k → 1 ≤ w → HasShape (matrix_of k w corners)
  matrix_has_shape some wide = record {
    count = omega (arith, long, length_source_rows);
    row = λ i lt. let inside : i < a k w + b k w + corners =
        omega (arith, lt, long, length_source_rows) in
        subst (IsRow k (k + i)) (sym (get_or-map-range_with_len own 0
        (length (source_rows k w corners)) i i [] (rw length_source_rows inside) (omega arith)))
        (⊎_elim (λ (l : i < a k w + b k w). in_grid i l)
        (λ (le : a k w + b k w ≤ i). in_corner i le inside) (cases_lt i (a k w + b k w)));
  }
    where
      long : length (map own (range_with_len 0 (length (source_rows k w corners))))
          ≡ length (source_rows k w corners)
      long = length-map-range_with_len own 0 (length (source_rows k w corners))

      with_row : (i : ℕ) (xs : List ℕ) → get_or (source_rows k w corners) i [] ≡ xs
          → IsRow k (k + i) (xs ++ (k + i) ∷ []) → IsRow k (k + i) (own i)
      with_row i xs same = subst (λ ys. IsRow k (k + i) (ys ++ (k + i) ∷ [])) (sym same)

      front : (i : ℕ) → i < a k w + b k w
          → get_or (source_rows k w corners) i [] ≡ get_or (grid_sources k w) i []
      front i lt = get_or_append_left (grid_sources k w) (replicate corners all) [] i
          (rw (length_grid k w) lt)

      in_row : (i : ℕ) → i < a k w + b k w → i < a k w → IsRow k (k + i) (own i)
      in_row i inside lt = with_row i (grid_row k w i)
          (front i inside ∙ joined_left (grid_row k w) (grid_column k w) (a k w) (b k w) i lt)
          (row_is (λ x. x / w) k i (i * w) (k + i) (row_begins k w i wide lt)
          (mul-div_cancel i wide) (omega arith))

      in_column : (i : ℕ) → i < a k w + b k w → a k w ≤ i → IsRow k (k + i) (own i)
      in_column i inside le =
          let j : ℕ = i - a k w in
          let first : j < k = omega arith in
          let narrow : j < w = omega arith in
          with_row i (grid_column k w j) (front i inside
          ∙ joined_right (grid_row k w) (grid_column k w) (a k w) (b k w) i le inside)
          (row_is (λ x. x % w) k j j (k + i) first (mod-eq_of_lt narrow) (omega arith))

      in_grid : (i : ℕ) → i < a k w + b k w → IsRow k (k + i) (own i)
      in_grid i inside = ⊎_elim (λ (l : i < a k w). in_row i inside l)
          (λ (le : a k w ≤ i). in_column i inside le) (cases_lt i (a k w))

      in_corner : (i : ℕ) → a k w + b k w ≤ i → i < a k w + b k w + corners
          → IsRow k (k + i) (own i)
      in_corner i le lt = with_row i all
          (get_or-append_right (grid_sources k w) (replicate corners all) (a k w + b k w) i []
          (length_grid k w) le
          ∙ get_or-replicate corners (i - (a k w + b k w)) all [] (omega arith))
          (subst (λ xs. IsRow k (k + i) (xs ++ (k + i) ∷ [])) (all_alike all)
          (row_is (λ x. 0) k 0 0 (k + i) some refl (omega arith)))
