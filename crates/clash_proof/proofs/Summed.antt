-- Rows contradict what is kept where some byte of their sum isn't zero.
use Rattle.std.proofs.Common.{◌≡◌, ◌≢◌, ℕ, ◌<◌, ◌≤◌, ⊎_elim, List, length}
use Rattle.std.proofs.Common.{All, sym, ◌∙◌, bit_xor}
use Rattle.std.specs.List.Sorted.{IsStrictlyIncreasing}
use Rattle.std.proofs.lemmas.Bool.{cases_lt}
use Rattle.std.proofs.lemmas.List.{get_or_past}
use Rattle.fec_base.specs.Symbol.{xor_sum, zero_symbol}
use Rattle.sparse_rows.specs.Matrix.{Matrix, HasShape, has_entry, is_in}
use Rattle.sparse_rows.specs.Codeword.{IsAssignment, symbol_at}
use Rattle.sparse_rows.specs.Closure.{members}
use Rattle.sparse_rows.specs.Totals.{total}
use Rattle.sparse_rows.proofs.Algebra.{total_same, total_zero}
use Rattle.sparse_rows.proofs.Planes.{byte_laws, plane_zero, symbol_at_is, zero_from_planes}
use Rattle.gauss.specs.Elimination.{product}
use Rattle.gauss.proofs.Lists.{list_product, product_of_same}
use Rattle.clash_proof.specs.Evidence.{Kept}
use Rattle.clash_proof.specs.Limits.{IsEvidenceKept}
use Rattle.clash_proof.specs.Proofs.{ContradictedBy}
use Rattle.clash_proof.specs.RowSets.{odd_columns}
use Rattle.clash_proof.specs.RowSums.{kept_byte, row_byte, rows_byte, set_byte}
use Rattle.clash_proof.proofs.Refuted.{row_total, rows_total}

-- what evidence keeps is an assignment
pub kept_is : (ev : Kept) → IsEvidenceKept ev → IsAssignment ev.len (symbol_at ev.len ev.symbols)
kept_is ev kept = symbol_at_is ev.len ev.symbols kept.are_symbols

-- the sum of some rows is that of the members of their set
pub rows_set : (m : Matrix) (ev : Kept) (rows : List ℕ) → IsStrictlyIncreasing rows
    → All (λ r. r < length m.rows) rows → (t : ℕ) → rows_byte m ev t rows ≡ set_byte m ev t rows
rows_set m ev rows rising below t =
    list_product 0 bit_xor byte_laws (length m.rows) rows rising below (row_byte m ev t)

module _ (m : Matrix) (shape : HasShape m) (ev : Kept) (kept : IsEvidenceKept ev) (rows : List ℕ)
    (rising : IsStrictlyIncreasing rows) (below : All (λ r. r < length m.rows) rows) where
  sum_bytes : (t : ℕ) → total 0 bit_xor (kept_byte ev t) (members m.n (odd_columns m rows))
      ≡ rows_byte m ev t rows
  sum_bytes t = rows_total m shape rows rising below (kept_byte ev t)
      ∙ product_of_same 0 bit_xor byte_laws (length m.rows) (is_in rows)
      (λ r. product 0 bit_xor m.n (has_entry m r) (kept_byte ev t)) (row_byte m ev t)
      (λ r lt. sym (row_total m shape r lt (kept_byte ev t)))
      ∙ sym (rows_set m ev rows rising below t)

  -- where the sum is zero each byte is
  pub all_zero : xor_sum ev.len (symbol_at ev.len ev.symbols) (members m.n (odd_columns m rows))
      ≡ zero_symbol ev.len → (t : ℕ) → rows_byte m ev t rows ≡ 0
  all_zero zero t = sym (sum_bytes t)
      ∙ plane_zero ev.len (symbol_at ev.len ev.symbols) (λ c. (kept_is ev kept c).long)
      (members m.n (odd_columns m rows)) zero t

  pub contradicted : (t : ℕ) → rows_byte m ev t rows ≢ 0 → ContradictedBy m ev rows
  contradicted t ne zero = ne (all_zero zero t)

  pub not_contradicted : ((t : ℕ) → t < ev.len → rows_byte m ev t rows ≡ 0)
      → ContradictedBy m ev rows → ⊥
  not_contradicted zero contra = contra (zero_from_planes ev.len (symbol_at ev.len ev.symbols)
      (λ c. (kept_is ev kept c).long) (members m.n (odd_columns m rows))
      (λ t. ⊎_elim (λ lt. sum_bytes t ∙ zero t lt) (past t) (cases_lt t ev.len)))
    where
      past : (t : ℕ) → ev.len ≤ t
          → total 0 bit_xor (kept_byte ev t) (members m.n (odd_columns m rows)) ≡ 0
      past t le = total_same 0 bit_xor byte_laws (kept_byte ev t) (λ c. 0)
          (members m.n (odd_columns m rows))
          (λ k d lt. get_or_past _ t 0 (rw (kept_is ev kept _).long le))
          ∙ total_zero 0 bit_xor byte_laws (members m.n (odd_columns m rows))
