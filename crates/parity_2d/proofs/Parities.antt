-- Parities that come one by one, each behind its row.
use Rattle.std.proofs.Common.{◌≡◌, ℕ, ◌+◌, ◌<◌, List, [], ◌∷◌, ◌++◌, map, length, get_or, set, drop}
use Rattle.std.proofs.Common.{All, sym, ap, ◌∙◌, arith, append_assoc}
use Rattle.std.specs.List.{range_with_len}
use Rattle.std.proofs.lemmas.List.{get_or_at, set_at, drop_more}
use Rattle.std.proofs.lemmas.List.Elements.{All-weaker}
use Rattle.std.proofs.lemmas.List.FromFn.{length-map-range_with_len, map-range_with_len_more}
use Rattle.sparse_rows.specs.Matrix.{Matrix, row_of, with_column, with_entry}
use Rattle.parity_2d.proofs.Classes.{with_last_column}

-- row r with its parity
abbrev pub with_parity : Matrix → ℕ → List ℕ
with_parity m r = row_of m r ++ (m.k + r) ∷ []

-- the rows of the matrix, the first r with their parities
abbrev pub parities_below : Matrix → ℕ → List (List ℕ)
parities_below m r = map (with_parity m) (range_with_len 0 r) ++ drop r m.rows

-- the parity of row r more
pub parities_more : (m : Matrix) (r : ℕ) → All (All (λ c. c < m.k)) m.rows → r < length m.rows
    → with_entry (record m { rows = parities_below m r }) r (m.k + r)
    ≡ record m { rows = parities_below m (r + 1) }
parities_more m r sources lt = ap (λ (rows : List (List ℕ)). record m { rows = rows })
    (ap (λ rows. set rows r (with_column c (get_or rows r []))) split_is
    ∙ ap (λ row. set split r (with_column c row)) (get_or_at done (row_of m r) rest [] r long)
    ∙ ap (set split r) (with_last_column c (row_of m r) below) ∙ set_at done (row_of m r) rest
    (with_parity m r) r long ∙ more)
  where
    c : ℕ
    c = m.k + r

    done : List (List ℕ)
    done = map (with_parity m) (range_with_len 0 r)

    rest : List (List ℕ)
    rest = drop (r + 1) m.rows

    split : List (List ℕ)
    split = done ++ row_of m r ∷ rest

    long : length done ≡ r
    long = length-map-range_with_len (with_parity m) 0 r

    below : All (λ x. x < c) (row_of m r)
    below = All-weaker (λ x. x < m.k) (λ x. x < c) (λ x h. omega arith) (row_of m r)
        (sources r [] lt)

    split_is : parities_below m r ≡ split
    split_is = ap (λ rows. done ++ rows) (drop_more m.rows r [] lt)

    more : done ++ with_parity m r ∷ rest ≡ parities_below m (r + 1)
    more = sym (append_assoc done (with_parity m r ∷ []) rest)
        ∙ ap (λ rows. rows ++ rest) (sym (map-range_with_len_more (with_parity m) 0 r r
        (omega arith)))
