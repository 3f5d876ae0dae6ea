-- Inside: null sets as bits, for each unknown a run of bytes.
use Rattle.std.specs.Prelude.{◌≡◌, ◌≤◌, ◌<◌, ◌+◌, ◌*◌, ◌/◌, ◌%◌, ◌==◌, ℕ, false, not, List, length}
use Rattle.std.specs.Prelude.{map, slice_index_or}
use Rattle.std.specs.Int.{bit_at}
use Rattle.std.specs.List.{range_with_len}
use Rattle.std.proofs.Common.{ltb}
use Rattle.std.proofs.Math.Bool.{xor as bool_xor}
use Rattle.sparse_rows.specs.Closure.{Set, members}
use Rattle.gauss.specs.Packed.{byte_in}
use Rattle.gauss.specs.Elimination.{behind, product, pivot_row}
use Rattle.gauss.specs.Reduction.{ReducedForm}

-- how many bytes hold a bit for each of so many null sets
abbrev pub stride_of : ℕ → ℕ
stride_of sets = (sets + 7) / 8

-- the unknowns of null set i: those whose bit i is one
abbrev pub set_of : ℕ → List ℕ → ℕ → Set
set_of stride masks i c = bit_at (byte_in stride masks (i / 8) c) (i % 8) == 1

-- the null sets that the bits of the unknowns are, and their symbols
abbrev pub form_of : List (List ℕ) → ℕ → List ℕ → ReducedForm
form_of symbols sets masks = record {
  sets = map (λ i. members (length symbols) (set_of (stride_of sets) masks i))
      (range_with_len 0 sets);
  symbols = symbols;
}

-- at most one null set an unknown, and for each unknown a bit of each
pub record AreMasks (unknowns sets : ℕ) (masks : List ℕ) : Type 0 where
  pub few : unknowns ≤ 65536
  pub most : sets ≤ unknowns
  pub long : length masks ≡ unknowns * stride_of sets

-- the unknowns without a pivot row, rising
abbrev pub free_unknowns : ℕ → List ℕ → List ℕ
free_unknowns rows pivots = members (length pivots) (λ p. not (ltb (pivot_row rows pivots p) rows))

-- bit i of an unknown says whether null set i holds it: the set holds free unknown i, no other free
-- one, and each unknown with a pivot row that has an odd number of the set's unknowns behind it
pub record AreNullMasks (bits : ℕ → Set) (rows : ℕ) (pivots : List ℕ) (sets : ℕ) (bytes : List ℕ) :
    Type 0 where
  pub count : sets ≡ length (free_unknowns rows pivots)
  pub masks : AreMasks (length pivots) sets bytes
  pub back : (i p : ℕ) → i < sets → p < length pivots → set_of (stride_of sets) bytes i p
      ≡ bool_xor (p == slice_index_or (free_unknowns rows pivots) i 0)
      (product false bool_xor (length pivots) (behind bits (pivot_row rows pivots) p)
      (set_of (stride_of sets) bytes i))
