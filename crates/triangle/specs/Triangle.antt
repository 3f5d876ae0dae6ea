-- The triangle: the staircase, and in each row a chain of further repair symbols.
use Rattle.std.specs.Prelude.{ℕ, ◌+◌, ◌-◌, nat_le, if◌then◌else◌, Option, Some, None, fold, find}
use Rattle.std.specs.List.{range_with_len}
use Rattle.std.specs.Option.{option_map, option_and_then}
use Rattle.std.proofs.Common.{zero, suc}
use Rattle.park_miller.specs.Generator.{after, drawn}
use Rattle.sparse_rows.specs.Matrix.{Matrix, with_entry}
use Rattle.staircase.specs.Pick.{after_draws}
use Rattle.staircase.specs.LeftSide.{DrawnMatrix, drawn_matrix, in_order, left_side}
use Rattle.staircase.specs.Staircase.{CountedMatrix, with_stairs}

-- the l-th number of a chain: it begins at `start`, and each further one is drawn below the one
-- before
abbrev pub link : ℕ → ℕ → ℕ → ℕ
link start state zero = start
link start state (suc l) = drawn (link start state l) (after (suc l) state)

-- how many links a chain has: it goes on as long as the number that it has reached is above the
-- count of its links
abbrev pub link_count : ℕ → ℕ → Option ℕ
link_count start state = find (λ l. nat_le (link start state l) l) (range_with_len 0 (start + 1))

-- the matrix whose row i has the first links of a chain too, link j as repair symbol j
abbrev pub with_links : ℕ → ℕ → ℕ → ℕ → Matrix → Matrix
with_links i start state count m = fold
    (λ gained l. with_entry gained i (m.k + link start state l)) m (range_with_len 1 count)

-- row i gains its chain, which begins at the repair symbol of the row before; none where that takes
-- more draws than there may be
unfoldable pub chain : ℕ → DrawnMatrix → Option DrawnMatrix
chain i d = option_and_then (λ count.
    if nat_le (d.draws.used + count) d.draws.limit
    then Some (drawn_matrix (with_links i (i - 1) d.draws.state count d.matrix)
    (after_draws count d.draws))
    else None)
    (link_count (i - 1) d.draws.state)

-- a left side with the staircase behind it
abbrev pub with_drawn_stairs : DrawnMatrix → DrawnMatrix
with_drawn_stairs left = drawn_matrix (with_stairs left.matrix) left.draws

-- the matrix of the triangle code that a seed gives: the staircase, and then each row gains its
-- chain, the generator running on from the left side; none where that takes more draws than the
-- limit
unfoldable pub triangle_matrix : ℕ → ℕ → ℕ → ℕ → ℕ → Option CountedMatrix
triangle_matrix k n n1 seed limit =
    option_map (λ d. record { matrix = d.matrix; draws = d.draws.used })
    (option_and_then (in_order (n - k) chain)
    (option_map with_drawn_stairs
    (left_side k n n1 (record { state = seed; used = 0; limit = limit }))))
