-- Where null words of what arrived end: at the columns of the free unknowns of the residue.
use Rattle.std.proofs.Common.{◌≡◌, ◌↔◌, ℕ, true, not, List, subst, slice_index}
use Rattle.std.specs.List.Sorted.{IsStrictlyIncreasing}
use Rattle.sparse_rows.specs.Matrix.{is_in}
use Rattle.sparse_rows.specs.Closure.{flagged}
use Rattle.sparse_rows.specs.Codeword.{Arrival, positions}
use Rattle.sparse_rows.specs.NullWord.{IsNullWord}
use Rattle.sparse_rows.proofs.Null.{members_rise}
use Rattle.null_witness.specs.ReducedWords.{AreLate, IsLate}
use Rattle.peeling.specs.Decoder.{Decoder}
use Rattle.gauss.specs.Freedom.{AreFree}
use Rattle.fec_session.specs.Residue.{columns_at, place, residue, unknown_columns}
use Rattle.fec_session.specs.NullPairing.{HasPlaces, IsNullPairing}
use Rattle.fec_session.proofs.Verdicts.{in_map, map_in}
use Rattle.partial_block.proofs.Rising.{columns_rise}

-- these columns rise
pub columns_rising : (d : Decoder) (free : List ℕ) → AreFree (residue d) free
    → IsStrictlyIncreasing (columns_at d free)
columns_rising d free is = columns_rise (unknown_columns d) free
    (members_rise d.matrix.n (λ c. not (flagged d.known c))) is.late.rising is.below

module _ (d : Decoder) (places : HasPlaces d) (arrivals : List Arrival)
    (pairs : IsNullPairing d arrivals) (free : List ℕ) (is : AreFree (residue d) free) where
  abbrev IsWord : List ℕ → Type 0
  IsWord = IsNullWord d.matrix (positions arrivals)

  abbrev column : ℕ → ℕ
  column i = slice_index (unknown_columns d) i

  each : (c : ℕ) → (is_in (columns_at d free) c ≡ true) ↔ IsLate IsWord c
  each c = (
    λ e. let r = in_map column free c e in
        subst (IsLate IsWord) r.2 ((pairs.late_set r.0).0 ((is.late.each r.0).0 r.1)).1,
    λ late. let ends = (pairs.late_word c).0 late in
        subst (λ (b : ℕ). is_in (columns_at d free) b ≡ true) (places.same_column c ends.0)
        (map_in column free (place d c) ((is.late.each (place d c)).1 ends.1)),
  )

  -- and they are the late positions
  pub late_columns : AreLate IsWord (columns_at d free)
  late_columns = record { rising = columns_rising d free is; each = each }
