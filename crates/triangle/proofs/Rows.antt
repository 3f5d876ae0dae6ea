-- Rows that gain their chains, one after the other, and the code that they make.
use Rattle.std.proofs.Common.{◌≡◌, ℕ, ◌+◌, ◌-◌, ◌≤◌, Option, Some, None, refl, ap, ap₂, ◌∙◌}
use Rattle.std.specs.Option.{option_map}
use Rattle.park_miller.specs.LimitedDraws.{LimitedDraws}
use Rattle.sparse_rows.specs.Matrix.{Matrix, IsCode}
use Rattle.staircase.specs.LeftSide.{DrawnMatrix, in_order, left_side, drawn_matrix}
use Rattle.staircase.specs.Staircase.{CountedMatrix, with_stairs}
use Rattle.staircase.proofs.InOrder.{in_order-more}
use Rattle.triangle.specs.Triangle.{chain, triangle_matrix}

-- so many rows have their chains
pub record AreChained (start : DrawnMatrix) (rows : ℕ) (m : Matrix) (g : LimitedDraws) : Type 0
  where
    pub chained : in_order rows chain start ≡ Some (drawn_matrix m g)
    pub source : m.k ≡ start.matrix.k
    pub encoding : m.n ≡ start.matrix.n
    pub code : IsCode m
    pub within : g.used ≤ g.limit

-- one row more
pub AreChained-more : (start : DrawnMatrix) (r : ℕ) (m : Matrix) (g : LimitedDraws)
    → AreChained start r m g → (m' : Matrix) (g' : LimitedDraws)
    → chain r (drawn_matrix m g) ≡ Some (drawn_matrix m' g') → m'.k ≡ m.k → m'.n ≡ m.n → IsCode m'
    → g'.used ≤ g'.limit → AreChained start (r + 1) m' g'
AreChained-more start r m g so_far m' g' chained source encoding code within = record {
  chained = in_order-more chain start r (drawn_matrix m g) _ so_far.chained chained;
  source = source ∙ so_far.source;
  encoding = encoding ∙ so_far.encoding;
  code = code;
  within = within;
}

-- the code from its left side, which a generator gives that has made no draw
module _ (k n n1 seed limit : ℕ) (g : LimitedDraws) (state : g.state ≡ seed) (used : g.used ≡ 0)
    (most : g.limit ≡ limit) where
  start_is : g ≡ record { state = seed; used = 0; limit = limit }
  start_is = ap (λ (s : ℕ). record g { state = s }) state
      ∙ ap₂ (λ (u l : ℕ). record { state = seed; used = u; limit = l }) used most

  pub left_over : left_side k n n1 g ≡ None → triangle_matrix k n n1 seed limit ≡ None
  unfolding triangle_matrix
  left_over over = rw (← start_is, over) refl

  module _ (m : Matrix) (g' : LimitedDraws) (left : left_side k n n1 g ≡ Some (drawn_matrix m g'))
      (rows : Matrix) (stairs : rows ≡ with_stairs m) where
    counted : Option DrawnMatrix → Option CountedMatrix
    counted = option_map (λ (d : DrawnMatrix). record { matrix = d.matrix; draws = d.draws.used })

    pub chains_over : in_order (n - k) chain (drawn_matrix rows g') ≡ None
        → triangle_matrix k n n1 seed limit ≡ None
    unfolding triangle_matrix
    chains_over over = rw (← start_is, left, ← stairs, over) refl

    pub triangle_is : (m' : Matrix) (g'' : LimitedDraws)
        → in_order (n - k) chain (drawn_matrix rows g') ≡ Some (drawn_matrix m' g'')
        → triangle_matrix k n n1 seed limit ≡ Some (record { matrix = m'; draws = g''.used })
    unfolding triangle_matrix
    triangle_is m' g'' chained = rw (← start_is, left, ← stairs, chained) refl
