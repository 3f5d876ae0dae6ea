-- The equations of the open rows, gathered row by row.
use Rattle.std.proofs.Common.{◌≡◌, ℕ, suc, ◌+◌, ◌-◌, ◌<◌, Bool, true, false, cond, List, [], ◌∷◌}
use Rattle.std.proofs.Common.{◌++◌, length, take, drop, map, filter, replicate, count_by, sym, ap}
use Rattle.std.proofs.Common.{ap₂, ◌∙◌, arith, append-nil, append_assoc, length-append}
use Rattle.std.proofs.Math.Seq.{get_or-append_seam, set-append_seam}
use Rattle.std.proofs.lemmas.List.{map-append, length-map}
use Rattle.std.proofs.lemmas.List.Elements.{filter_more}
use Rattle.std.proofs.lemmas.List.Sums.{length-filter, sum_by-drop_more}
use Rattle.sparse_rows.specs.Matrix.{Matrix, row_of}
use Rattle.peeling.specs.Decoder.{Decoder, IsDecoder}
use Rattle.gauss.specs.Equations.{Equation, System}
use Rattle.gauss.specs.Filling.{equation_at, no_equation, with_equation, with_sum}
use Rattle.fec_session.specs.Residue.{equation_of, is_open, unknown_columns}
use Rattle.fec_session.specs.Residual.{with_unknowns}
use Rattle.fec_session.proofs.Assembled.{put_twice, put_is}

-- equations between the unknown columns of a decoder
abbrev pub system_of : Decoder → List Equation → System
system_of d equations = record {
  unknowns = length (unknown_columns d);
  len = d.len;
  equations = equations;
}

-- the equations of the open rows before the i-th, and empty ones for the others
abbrev pub so_far : Decoder → ℕ → System
so_far d i = system_of d (map (equation_of d) (filter (is_open d) (take i d.matrix.rows))
    ++ replicate (count_by (is_open d) (drop i d.matrix.rows)) (no_equation d.len))

-- the number of rows, as n and k are read
pub rows_count : (d : Decoder) → IsDecoder d → (m m2 : Matrix) → m ≡ d.matrix → m2 ≡ d.matrix
    → (n k : ℕ) → n ≡ m.n → k ≡ m2.k → n - k ≡ length d.matrix.rows
rows_count d decoder m m2 e e2 n k n_is k_is =
    omega (
      arith,
      n_is ∙ ap (λ (a : Matrix). a.n) e,
      k_is ∙ ap (λ (a : Matrix). a.k) e2,
      decoder.code.shape.count,
    )

module _ (d : Decoder) (i : ℕ) (inside : i < length d.matrix.rows) where
  abbrev row : List ℕ
  row = row_of d.matrix i

  abbrev before : List Equation
  before = map (equation_of d) (filter (is_open d) (take i d.matrix.rows))

  abbrev behind : ℕ
  behind = count_by (is_open d) (drop (i + 1) d.matrix.rows)

  abbrev others : ℕ → List Equation
  others n = replicate n (no_equation d.len)

  -- one row more
  gathered : (b : Bool) → is_open d row ≡ b
      → map (equation_of d) (filter (is_open d) (take (i + 1) d.matrix.rows)) ≡ before
      ++ map (equation_of d) (cond b (row ∷ []) [])
  gathered b e = ap (map (equation_of d)) (filter_more (is_open d) d.matrix.rows i [] inside
      ∙ ap (λ a. filter (is_open d) (take i d.matrix.rows) ++ cond a (row ∷ []) []) e)
      ∙ map-append (equation_of d) (filter (is_open d) (take i d.matrix.rows))
      (cond b (row ∷ []) [])

  -- how many open rows are left
  left : (b : Bool) → is_open d row ≡ b → count_by (is_open d) (drop i d.matrix.rows) ≡ cond b 1 0 +
      behind
  left b e = sum_by-drop_more (λ r. cond (is_open d r) 1 0) d.matrix.rows i [] inside
      ∙ ap (λ a. cond a 1 0 + behind) e

  -- a row that isn't open changes nothing
  pub closed_row : is_open d (row_of d.matrix i) ≡ false → so_far d i ≡ so_far d (i + 1)
  closed_row closed = ap₂ (λ es n. system_of d (es ++ others n))
      (sym (gathered false closed ∙ append-nil before)) (omega (arith, left false closed))

  module _ (yes : is_open d (row_of d.matrix i) ≡ true) (r : ℕ)
      (place : r ≡ count_by (is_open d) (take i d.matrix.rows)) where
    -- the equations before an open row, its own place, and those behind
    parts : so_far d i ≡ system_of d (before ++ no_equation d.len ∷ others behind)
    parts = ap (λ n. system_of d (before ++ others n)) (left true yes
        ∙ (let e : 1 + behind ≡ suc behind = omega arith in e))

    -- its place is behind those before
    place_is : r ≡ length before
    place_is = place ∙ sym (length-map (filter (is_open d) (take i d.matrix.rows)) (equation_of d)
        ∙ length-filter (is_open d) (take i d.matrix.rows))

    -- there is room for its equation
    pub place_inside : r < length (so_far d i).equations
    place_inside = omega (
      arith,
      place_is,
      ap (λ s. length s.equations) parts,
      length-append before (no_equation d.len ∷ others behind),
    )

    -- there is no equation in its place yet
    pub place_empty : equation_at (so_far d i) r ≡ no_equation d.len
    place_empty = ap₂ (λ (s : System) (at : ℕ). equation_at s at) parts place_is
        ∙ get_or-append_seam before (no_equation d.len) (others behind) (no_equation d.len)

    -- an open row's equation comes next
    pub open_row : with_equation (so_far d i) r (equation_of d (row_of d.matrix i))
        ≡ so_far d (i + 1)
    open_row = ap₂ (λ (s : System) (at : ℕ). with_equation s at (equation_of d row)) parts place_is
        ∙ ap (system_of d) (set-append_seam before (no_equation d.len) (others behind)
        (equation_of d row) ∙ sym (append_assoc before (equation_of d row ∷ [])
        (others behind)))
        ∙ ap (λ es. system_of d (es ++ others behind)) (sym (gathered true yes))

    -- its unknowns and its sum are put one after the other
    pub put_row : (now with_row new : System) (sum : List ℕ) → now ≡ so_far d i
        → with_row ≡ with_equation now r (with_unknowns (equation_of d (row_of d.matrix i)).unknowns
        (equation_at now r))
        → sum ≡ (equation_of d (row_of d.matrix i)).sum
        → new ≡ with_equation with_row r (with_sum sum (equation_at with_row r))
        → new ≡ so_far d (i + 1)
    put_row now with_row new sum now_is row_is sum_is new_is =
        let us : List ℕ = (equation_of d row).unknowns in
        let e : Equation = with_unknowns us (equation_at now r) in
        let lt : r < length now.equations = rw now_is place_inside in
        new_is ∙ ap₂ (λ (s : System) (bytes : List ℕ). with_equation s r
        (with_sum bytes (equation_at s r))) row_is sum_is
        ∙ put_twice now r e (with_sum (equation_of d row).sum (equation_at (with_equation now r e)
        r))
        ∙ ap (λ (f : Equation). with_equation now r (with_sum (equation_of d row).sum f))
        (put_is now r e lt)
        ∙ ap (λ (s : System). with_equation s r (equation_of d row)) now_is ∙ open_row
