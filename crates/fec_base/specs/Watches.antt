-- What watches stand for.
use Rattle.std.specs.Prelude.{◌+◌, ◌-◌, ◌^◌, ◌%◌, ◌==◌, ℕ, min, cond, List, [], ◌++◌, codes}
use Rattle.std.specs.Fmt.{decimal}
use Rattle.fec_base.specs.Told.{Telling}

-- a watch that keeps what it is told: that, how many symbols and bytes more it has room for, and
-- its faults
pub record ListView : Type 0 where
  pub told : List Telling
  pub free_places : ℕ
  pub free_bytes : ℕ
  pub faults : ℕ

-- a writer, how many symbols were counted, and how often it has failed
pub record Progress (T : Type 0) : Type 0 where
  pub inner : T
  pub count : ℕ
  pub faults : ℕ

-- a count of symbols once one more was rebuilt; at its last value it stands still
abbrev pub counted_up : ℕ → ℕ
counted_up count = min (count + 1) (2 ^ 64 - 1)

-- the line of a count
abbrev pub progress_line : ℕ → List ℕ
progress_line count = codes "rebuilt " ++ decimal count ++ codes "\n"

-- what is written when the count has come so far: a line at each 1,000th symbol
abbrev pub progress_text : ℕ → List ℕ
progress_text count = cond (count % 1000 == 0) (progress_line count) []
