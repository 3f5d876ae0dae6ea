-- What the reduced form of a system shows.
use Rattle.std.specs.Prelude.{◌≡◌, ◌≢◌, ◌<◌, ◌↔◌, ℕ, true, false, List}
use Rattle.sparse_rows.specs.Codeword.{symbol_at}
use Rattle.sparse_rows.specs.Matrix.{is_in}
use Rattle.null_witness.specs.ReducedWords.{IsFirstReducedWord}
use Rattle.gauss.specs.Equations.{System, IsSolution}
use Rattle.gauss.specs.Reduction.{IsNullSet, ReducedForm, set_at, is_open, IsFirstWith}
use Rattle.gauss.specs.Reduction.{IsReducedForm}

-- some null set holds an unknown exactly where one of the reduced ones does
abbrev pub OpenByReducedSets : Type 0
OpenByReducedSets = (s : System) (r : ReducedForm) (unknown : ℕ) → IsReducedForm s r
    → (is_open r unknown ≡ true)
    ↔ ((set : List ℕ) × IsNullSet s set × (is_in set unknown ≡ true))

-- the first of them that holds an unknown is the one whose last unknown is least
abbrev pub FirstIsLeast : Type 0
FirstIsLeast = (s : System) (r : ReducedForm) (unknown i : ℕ) → IsReducedForm s r
    → IsFirstWith r unknown i
    → IsFirstReducedWord (IsNullSet s) (λ set. is_in set unknown ≡ true) (set_at r i)

-- at an unknown that none of them holds each solution has the symbol of the form
abbrev pub ClosedIsFixed : Type 0
ClosedIsFixed = (s : System) (r : ReducedForm) (x : ℕ → List ℕ) (unknown : ℕ) → IsReducedForm s r
    → IsSolution s x → unknown < s.unknowns → is_open r unknown ≡ false
    → x unknown ≡ symbol_at s.len r.symbols unknown

-- and at one that some of them holds two solutions differ
abbrev pub OpenHasTwo : Type 0
OpenHasTwo = (s : System) (r : ReducedForm) (unknown : ℕ) → IsReducedForm s r
    → is_open r unknown ≡ true
    → (x : ℕ → List ℕ) × (y : ℕ → List ℕ) × IsSolution s x × IsSolution s y
    × (x unknown ≢ y unknown)
