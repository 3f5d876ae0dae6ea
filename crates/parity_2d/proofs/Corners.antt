-- The matrix without a corner is the grid's, and the one with a corner has its row behind.
use Rattle.std.proofs.Common.{◌≡◌, ℕ, ◌+◌, ◌-◌, ◌<◌, ◌≤◌, min, ⊎_elim, List, [], ◌∷◌, ◌++◌, map}
use Rattle.std.proofs.Common.{get_or, sym, ap, ap₂, ◌∙◌, arith, append-nil}
use Rattle.std.specs.Int.{div_ceil}
use Rattle.std.specs.List.{range_with_len}
use Rattle.std.proofs.lemmas.Bool.{cases_lt}
use Rattle.std.proofs.lemmas.List.{get_or_append_left, get_or_at}
use Rattle.std.proofs.lemmas.List.FromFn.{length-map-range_with_len, get_or-map-range_with_len}
use Rattle.std.proofs.lemmas.List.FromFn.{fill_by_all, map-range_with_len_more}
use Rattle.blocking.specs.Blocks.{size_2d}
use Rattle.parity_2d.specs.Grid.{grid_row, grid_column, grid_matrix}
use Rattle.parity_2d.specs.Corner.{corner_matrix}
use Rattle.parity_2d.specs.Filling.{grid_sources, matrix_of, source_rows, with_parities}
use Rattle.parity_2d.proofs.Shape.{joined, length_joined, joined_left, joined_right, length_grid}
use Rattle.parity_2d.proofs.Shape.{length_source_rows}

module _ (k w : ℕ) where
  -- how many rows the grid has, and how many columns hold a symbol
  abbrev a : ℕ
  a = div_ceil k w

  abbrev b : ℕ
  b = min w k

  -- a row of the grid with its parity, and a column with its own
  abbrev row : ℕ → List ℕ
  row i = grid_row k w i ++ (k + i) ∷ []

  abbrev column : ℕ → List ℕ
  column j = grid_column k w j ++ (k + a + j) ∷ []

  -- row r with its parity
  abbrev own : List (List ℕ) → ℕ → List ℕ
  own rows r = get_or rows r [] ++ (k + r) ∷ []

  -- the grid's rows and columns with their parities are the rows of its matrix
  with_own : map (own (grid_sources k w)) (range_with_len 0 (a + b)) ≡ (grid_matrix k w).rows
  with_own = sym (fill_by_all (own (grid_sources k w)) (joined row column a b) (a + b) []
      (length_joined row column a b) (λ r lt. ⊎_elim (λ (l : r < a). left r l)
      (λ (le : a ≤ r). right r le lt) (cases_lt r a)))
    where
      left : (r : ℕ) → r < a → get_or (joined row column a b) r [] ≡ own (grid_sources k w) r
      left r lt = joined_left row column a b r lt ∙ ap (λ xs. xs ++ (k + r) ∷ [])
          (sym (joined_left (grid_row k w) (grid_column k w) a b r lt))

      right : (r : ℕ) → a ≤ r → r < a + b
          → get_or (joined row column a b) r [] ≡ own (grid_sources k w) r
      right r le lt =
          let place : k + a + (r - a) ≡ k + r = omega arith in
          joined_right row column a b r le lt ∙ ap (λ c. grid_column k w (r - a) ++ c ∷ []) place
          ∙ ap (λ xs. xs ++ (k + r) ∷ [])
          (sym (joined_right (grid_row k w) (grid_column k w) a b r le lt))

  -- the matrix without a corner
  pub without_corner : matrix_of k w 0 ≡ grid_matrix k w
  without_corner = let none : size_2d k w + 0 ≡ size_2d k w = omega arith in
      ap₂ (λ (n : ℕ) (rows : List (List ℕ)). with_parities record { k = k; n = n; rows = rows })
      none (append-nil (grid_sources k w))
      ∙ ap (λ (count : ℕ). record {
        k = k;
        n = size_2d k w;
        rows = map (own (grid_sources k w)) (range_with_len 0 count);
      }) (length_grid k w)
      ∙ ap (λ (rows : List (List ℕ)). record { k = k; n = size_2d k w; rows = rows }) with_own

  -- and the one with a corner
  pub with_corner : matrix_of k w 1 ≡ corner_matrix k w
  with_corner = ap (λ (rows : List (List ℕ)). record
      { k = k; n = size_2d k w + 1; rows = rows })
      (ap (λ count. map (own cornered) (range_with_len 0 count)) (length_source_rows k w 1)
      ∙ map-range_with_len_more (own cornered) 0 (a + b) (a + b) (omega arith)
      ∙ ap₂ (λ (rows : List (List ℕ)) (last : List ℕ). rows ++ last ∷ []) before last)
    where
      -- the rows before the parities, the last of them all source symbols
      cornered : List (List ℕ)
      cornered = source_rows k w 1

      all : List ℕ
      all = range_with_len 0 k

      before : map (own cornered) (range_with_len 0 (a + b)) ≡ (grid_matrix k w).rows
      before = fill_by_all (own (grid_sources k w)) (map (own cornered) (range_with_len 0 (a + b)))
          (a + b) [] (length-map-range_with_len (own cornered) 0 (a + b))
          (λ i lt. get_or-map-range_with_len (own cornered) 0 (a + b) i i [] lt (omega arith)
          ∙ ap (λ xs. xs ++ (k + i) ∷ []) (get_or_append_left (grid_sources k w) (all ∷ []) [] i
          (rw (length_grid k w) lt)))
          ∙ with_own

      last : own cornered (a + b) ≡ all ++ size_2d k w ∷ []
      last =
          let place : k + (a + b) ≡ size_2d k w = omega arith in
          ap₂ (λ (xs : List ℕ) (c : ℕ). xs ++ c ∷ [])
          (get_or_at (grid_sources k w) all [] [] (a + b) (length_grid k w)) place
