-- The grid's rows and columns.
use Rattle.std.proofs.Common.{ℕ, ◌+◌, ◌*◌, ◌/◌, ◌%◌, ◌<◌, ◌≤◌, min, arith}
use Rattle.std.specs.Int.{div_ceil}
use Rattle.std.proofs.Math.Nat.{div-lt_iff_lt-mul, mul-le-mul_right}
use Rattle.std.proofs.lemmas.Grind.{div_ceil_times}

-- each source symbol lies in one of the grid's rows
pub row_inside : (k w c : ℕ) → 1 ≤ w → c < k → c / w < div_ceil k w
row_inside k w c wide lt = let bound = div_ceil_times k w wide in
    (div-lt_iff_lt-mul {k = w} {x = c} {y = div_ceil k w} wide).1 (omega arith)

-- and in one of its columns
pub column_inside : (k w c : ℕ) → 1 ≤ w → c < k → c % w < min w k
column_inside k w c wide lt = omega arith

-- each of the grid's rows begins with a source symbol
pub row_begins : (k w i : ℕ) → 1 ≤ w → i < div_ceil k w → i * w < k
row_begins k w i wide lt =
    let bound = div_ceil_times k w wide in
    let below : (i + 1) * w ≤ div_ceil k w * w = mul-le-mul_right w (omega arith) in
    omega arith
