-- Entries of one position that differ.
use Rattle.std.specs.Prelude.{◌≡◌, ◌≢◌, ◌<◌, ℕ, List, length}
use Rattle.clash_proof.specs.Entries.{Entry, entry_at}

-- entry i is the first of its position
pub record IsFirstEntry (entries : List Entry) (i : ℕ) : Type 0 where
  pub inside : i < length entries
  pub before : (j : ℕ) → j < i → (entry_at entries j).position ≢ (entry_at entries i).position

-- entry i is the first of the position of entry j, and has other bytes
pub record Differs (entries : List Entry) (i j : ℕ) : Type 0 where
  pub inside : j < length entries
  pub first : IsFirstEntry entries i
  pub position : (entry_at entries i).position ≡ (entry_at entries j).position
  pub bytes : (entry_at entries i).bytes ≢ (entry_at entries j).bytes

-- the indices of the earliest entry that differs from the first of its position, behind that of the
-- latter
pub record IsConflict (entries : List Entry) (pair : ℕ × ℕ) : Type 0 where
  pub first : ℕ
  pub second : ℕ
  pub differ : Differs entries first second
  pub earliest : (i j : ℕ) → j < second → ¬ Differs entries i j
  pub indices : pair ≡ ((entry_at entries first).index, (entry_at entries second).index)
