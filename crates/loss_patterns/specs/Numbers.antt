-- Numbers as the command line writes them.
use Rattle.std.specs.Prelude.{ℕ, Bool, not, ◌==◌, ◌&&◌, ◌||◌, List, Option, Some, None, length}
use Rattle.std.specs.Prelude.{nat_le, if◌then◌else◌}
use Rattle.std.specs.List.{list_all, slice_index}
use Rattle.std.specs.Char.{is_ascii_digit}
use Rattle.std.specs.Str.Parse.{digits_value}

-- one decimal digit or more, without a sign, and without a leading zero but in `0` itself (48)
abbrev pub is_numeral : List ℕ → Bool
is_numeral text = not (length text == 0)
    && ((not (slice_index text 0 == 48) || length text == 1) && list_all is_ascii_digit text)

-- the number that the text writes, where it is one from low to high
abbrev pub number_in : ℕ → ℕ → List ℕ → Option ℕ
number_in low high text =
    let n = digits_value 10 text in
    if is_numeral text && (nat_le low n && nat_le n high) then Some n else None
