-- What a system of equations leaves open, by its reduced null sets.
use Rattle.std.specs.Prelude.{◌≡◌, ◌<◌, ◌≤◌, ℕ, Bool, true, false, List, [], length, map, All}
use Rattle.std.specs.Prelude.{Contains, slice_index_or}
use Rattle.std.specs.List.{list_any}
use Rattle.std.specs.List.Sorted.{IsStrictlyIncreasing}
use Rattle.sparse_rows.specs.Codeword.{symbol_at}
use Rattle.sparse_rows.specs.Matrix.{is_in}
use Rattle.sparse_rows.specs.NullWord.{IsNullWord, last_of}
use Rattle.null_witness.specs.ReducedWords.{IsReducedWord}
use Rattle.gauss.specs.Equations.{System, IsSystem, IsSolution, matrix_of}

-- a set of unknowns, rising, that isn't empty, and of which each equation has an even number
abbrev pub IsNullSet : System → List ℕ → Type 0
IsNullSet s = IsNullWord (matrix_of s) (λ unknown. false)

-- null sets, and a symbol for each unknown
pub record ReducedForm : Type 0 where
  pub sets : List (List ℕ)
  pub symbols : List (List ℕ)

-- null set i
abbrev pub set_at : ReducedForm → ℕ → List ℕ
set_at r i = slice_index_or r.sets i []

-- whether some of the null sets holds the unknown
abbrev pub is_open : ReducedForm → ℕ → Bool
is_open r unknown = list_any (λ set. is_in set unknown) r.sets

-- null set i holds the unknown, and none before it does
pub record IsFirstWith (r : ReducedForm) (unknown i : ℕ) : Type 0 where
  pub inside : i < length r.sets
  pub holds : is_in (set_at r i) unknown ≡ true
  pub others : (j : ℕ) → j < i → is_in (set_at r j) unknown ≡ false

-- these are the reduced null sets of the system, all of them, in the order of their last unknowns,
-- and the symbols solve it
pub record IsReducedForm (s : System) (r : ReducedForm) : Type 0 where
  pub system : IsSystem s
  pub some : 1 ≤ s.len
  pub count : length r.symbols ≡ s.unknowns
  pub solves : IsSolution s (symbol_at s.len r.symbols)
  pub reduced : All (IsReducedWord (IsNullSet s)) r.sets
  pub every : (set : List ℕ) → IsReducedWord (IsNullSet s) set → Contains r.sets set
  pub rising : IsStrictlyIncreasing (map last_of r.sets)
