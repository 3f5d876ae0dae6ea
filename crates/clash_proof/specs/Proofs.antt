-- Proofs that no codeword fits what arrived.
use Rattle.std.specs.Prelude.{◌≡◌, ℕ, List, Option, Some, None, MatchOption}
use Rattle.sparse_rows.specs.Matrix.{Matrix}
use Rattle.sparse_rows.specs.Codeword.{symbol_at}
use Rattle.sparse_rows.specs.Closure.{flagged}
use Rattle.null_witness.specs.ReducedWords.{IsFirstReducedWord}
use Rattle.clash_proof.specs.Entries.{Entry, HasFitting}
use Rattle.clash_proof.specs.Evidence.{Kept, StandsFor}
use Rattle.clash_proof.specs.RowSets.{IsClosed, Contradicts}
use Rattle.clash_proof.specs.declared.proof.ClashProof.{ClashProof}
use Rattle.clash_proof.specs.declared.proof.ClashProof.TheVariants as proof

-- the rows are a closed row set of what arrived
abbrev pub IsClosedBy : Matrix → Kept → List ℕ → Type 0
IsClosedBy m ev = IsClosed m (flagged ev.arrived)

-- they contradict what arrived
abbrev pub ContradictedBy : Matrix → Kept → List ℕ → Type 0
ContradictedBy m ev = Contradicts m ev.len (symbol_at ev.len ev.symbols)

-- it names the conflict; or there is none, and its rows are closed and contradict what arrived
abbrev pub IsProof : Matrix → Kept → ClashProof → Type 0
IsProof m ev (proof.Repeat first second) = ev.conflict ≡ Some (first, second)
IsProof m ev (proof.Rows rows) =
    (ev.conflict ≡ None) × IsClosedBy m ev rows × ContradictedBy m ev rows

-- it names the conflict; or there is none, and its rows are, of the reduced sets of late rows that
-- contradict what arrived, the one whose late row is least
abbrev pub IsFirstProof : Matrix → Kept → ClashProof → Type 0
IsFirstProof m ev (proof.Repeat first second) = ev.conflict ≡ Some (first, second)
IsFirstProof m ev (proof.Rows rows) =
    (ev.conflict ≡ None) × IsFirstReducedWord (IsClosedBy m ev) (ContradictedBy m ev) rows

-- whatever entries the evidence stands for: none where some codeword fits them, and else the first
-- proof that none does
abbrev pub Finds : Matrix → Kept → Option ClashProof → Type 0
Finds m ev found = (entries : List Entry) → StandsFor ev entries
    → MatchOption found (HasFitting m ev.len entries)
    (λ p. (¬ HasFitting m ev.len entries) × IsFirstProof m ev p)
