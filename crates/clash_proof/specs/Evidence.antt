-- What evidence keeps of the entries that it was given.
use Rattle.std.specs.Prelude.{◌≡◌, ◌==◌, ℕ, Bool, List, slice_index_or, MatchOption, Option}
use Rattle.std.specs.List.{list_any}
use Rattle.sparse_rows.specs.Codeword.{symbol_at}
use Rattle.sparse_rows.specs.Closure.{flagged}
use Rattle.clash_proof.specs.Entries.{Entry, entry_at}
use Rattle.clash_proof.specs.Conflicts.{IsFirstEntry, Differs, IsConflict}

-- for each of n positions whether it arrived, and the index and the len bytes of its first entry;
-- and the indices of a conflict
pub record Kept : Type 0 where
  pub n : ℕ
  pub len : ℕ
  pub arrived : List Bool
  pub indices : List ℕ
  pub symbols : List (List ℕ)
  pub conflict : Option (ℕ × ℕ)

-- the flags are those of the positions that arrived, for each of these the index and the bytes of
-- its first entry are kept, and the conflict is that of the entries, or none where they have none
pub record StandsFor (ev : Kept) (entries : List Entry) : Type 0 where
  pub arrived : (position : ℕ) → flagged ev.arrived position
      ≡ list_any (λ (e : Entry). e.position == position) entries
  pub index : (i : ℕ) → IsFirstEntry entries i
      → slice_index_or ev.indices (entry_at entries i).position 0 ≡ (entry_at entries i).index
  pub bytes : (i : ℕ) → IsFirstEntry entries i
      → symbol_at ev.len ev.symbols (entry_at entries i).position ≡ (entry_at entries i).bytes
  pub conflict :
      MatchOption ev.conflict ((i j : ℕ) → ¬ Differs entries i j) (IsConflict entries)
