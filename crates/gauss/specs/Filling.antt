-- A system as it is filled in, equation by equation.
use Rattle.std.specs.Prelude.{ℕ, List, [], ◌∷◌, ◌++◌, slice_index_or, slice_set}
use Rattle.fec_base.specs.Symbol.{zero_symbol}
use Rattle.gauss.specs.Equations.{Equation, System}

-- the equation of no unknowns whose sum is zero
abbrev pub no_equation : ℕ → Equation
no_equation len = record { unknowns = []; sum = zero_symbol len }

-- equation r of the system
abbrev pub equation_at : System → ℕ → Equation
equation_at s r = slice_index_or s.equations r (no_equation s.len)

-- the equation with one more unknown at its end
abbrev pub with_unknown : ℕ → Equation → Equation
with_unknown c e = record { unknowns = e.unknowns ++ c ∷ []; sum = e.sum }

-- the equation with another sum
abbrev pub with_sum : List ℕ → Equation → Equation
with_sum bytes e = record { unknowns = e.unknowns; sum = bytes }

-- the system with another equation in place of equation r
abbrev pub with_equation : System → ℕ → Equation → System
with_equation s r e =
    record { unknowns = s.unknowns; len = s.len; equations = slice_set s.equations r e }
