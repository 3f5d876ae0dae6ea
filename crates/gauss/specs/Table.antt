-- Inside: rows as they will be once a table is added to them.
use Rattle.std.specs.Prelude.{◌≡◌, ◌≤◌, ◌*◌, ◌%◌, ◌==◌, ℕ, List, cond, length}
use Rattle.std.specs.Int.{bit_at}
use Rattle.std.proofs.Common.{ltb}
use Rattle.std.proofs.Math.Bool.{xor as bool_xor}
use Rattle.sparse_rows.specs.Closure.{Set}
use Rattle.gauss.specs.Packed.{bits_of, byte_of, width_of}
use Rattle.gauss.specs.Elimination.{lead_of}
use Rattle.gauss.specs.declared.table.Group.{Group}

-- the bits of row j, with those of the table's row of its byte
abbrev pub with_table_row : ℕ → ℕ → List ℕ → List ℕ → ℕ → Set
with_table_row width group words table j c =
    bool_xor (bits_of width words j c) (bits_of width table (byte_of width words j group) c)

-- the bits of row j, with those of the table's row of its byte if it leads no unknown
abbrev pub virtual : ℕ → ℕ → ℕ → List ℕ → List ℕ → List ℕ → ℕ → Set
virtual u width group words table leads j c =
    cond (ltb (lead_of u leads j) u) (bits_of width words j c)
    (with_table_row width group words table j c)

-- the bits of row j, with those of the row of its byte in the group's table
abbrev pub with_row_in : Group → List ℕ → List ℕ → ℕ → Set
with_row_in group = with_table_row group.width group.number

-- the bits of row j, with those of the row of its byte in the group's table if it leads no unknown
abbrev pub virtual_in : Group → List ℕ → List ℕ → List ℕ → ℕ → Set
virtual_in group = virtual group.unknowns group.width group.number

-- the table's row of byte b, with row t added where a row with that byte will have the unknown
abbrev pub updated : ℕ → List ℕ → List ℕ → ℕ → ℕ → ℕ → Set
updated width words table t unknown b c =
    cond (bool_xor (bit_at b (unknown % 8) == 1) (bits_of width table b unknown))
    (bool_xor (bits_of width table b c) (bits_of width words t c)) (bits_of width table b c)

-- a group of the unknowns of some rows, with a run of words for each row and for each byte
pub record IsGroup (group : Group) (pivots leads words table : List ℕ) : Type 0 where
  pub count : group.unknowns ≡ length pivots
  pub width : group.width ≡ width_of group.unknowns
  pub few : group.unknowns ≤ 65536
  pub few_rows : length leads ≤ 65536
  pub row_words : length words ≡ length leads * group.width
  pub table_words : length table ≡ 256 * group.width
