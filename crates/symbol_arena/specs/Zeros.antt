-- Inside: bytes of which the first were written, and the rest are zero.
use Rattle.std.specs.Prelude.{◌≡◌, ◌-◌, ◌++◌, ℕ, Bool, true, false, List, [], length, replicate}

-- the written bytes, with zeros behind them up to the size
abbrev pub with_zeros : ℕ → List ℕ → List ℕ
with_zeros size written = written ++ replicate (size - length written) 0

-- all bytes were written, or none
abbrev pub IsWritten : ℕ → Bool → List ℕ → Type 0
IsWritten size true written = length written ≡ size
IsWritten size false written = written ≡ []
