-- Inside: a system whose rows are in echelon form.
use Rattle.std.specs.Prelude.{◌≡◌, ◌≤◌, ◌*◌, ℕ, List, All, length}
use Rattle.sparse_rows.specs.Closure.{Set}
use Rattle.fec_base.specs.Symbol.{IsSymbol}
use Rattle.gauss.specs.Equations.{System}
use Rattle.gauss.specs.Packed.{IsPacked, bits_of, packed_system, width_of}
use Rattle.gauss.specs.Elimination.{IsStageIn, pivot_row}
use Rattle.gauss.specs.declared.echelon.Echelon.{Echelon}

-- the system of some first words, whose rows are in echelon form as these words, with these pivots
pub record IsEliminated (s : System) (len : ℕ) (words pivots leads : List ℕ)
    (sums : List (List ℕ)) : Type 0 where
  pub first : List ℕ
  pub before : IsPacked (length pivots) len (length leads) first sums
  pub after : IsPacked (length pivots) len (length leads) words sums
  pub system : packed_system (length pivots) len (length leads) first sums ≡ s
  pub stage : IsStageIn (length pivots) (length leads) (length pivots)
      (bits_of (width_of (length pivots)) first) (bits_of (width_of (length pivots)) words) pivots
      leads

-- how many unknowns the rows have
abbrev pub unknowns_in : Echelon → ℕ
unknowns_in form = length form.pivots.now

-- the bits of a row
abbrev pub bits_in : Echelon → ℕ → Set
bits_in form = bits_of form.width form.words.now

-- the pivot row of an unknown: past the rows where it is free
abbrev pub pivots_in : Echelon → ℕ → ℕ
pivots_in form = pivot_row form.rows form.pivots.now

-- rows within the limits: a run of words for each, with a bit for each unknown
pub record IsEchelon (form : Echelon) : Type 0 where
  pub few : unknowns_in form ≤ 65536
  pub wide : unknowns_in form ≤ form.width * 64
  pub few_rows : form.rows ≤ 65536
  pub words : length form.words.now ≡ form.rows * form.width

-- a symbol of `len` bytes for each row
pub record AreSums (rows len : ℕ) (sums : List (List ℕ)) : Type 0 where
  pub count : length sums ≡ rows
  pub symbols : All (IsSymbol len) sums
