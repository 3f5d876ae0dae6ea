-- Assignments that agree on a set agree on its closure.
use Rattle.std.proofs.Common.{ℕ, List, sym, ap, ◌∙◌, bit_xor}
use Rattle.sparse_rows.specs.Matrix.{Matrix}
use Rattle.sparse_rows.specs.Codeword.{IsAssignment, SumsToZeroWithin}
use Rattle.sparse_rows.specs.Closure.{Set, closure}
use Rattle.sparse_rows.proofs.Closed.{agree_closure}
use Rattle.fec_base.proofs.SymbolBytes.{byte, same_bytes}
use Rattle.sparse_rows.proofs.Planes.{byte_laws, plane_zero}
use Rattle.peeling.specs.Agree.{Agree}

pub symbols_agree : (m : Matrix) (len : ℕ) (s : Set) (x y : ℕ → List ℕ) → IsAssignment len x
    → IsAssignment len y
    → SumsToZeroWithin m len (closure m s) x → SumsToZeroWithin m len (closure m s) y → Agree s x y
    → Agree (closure m s) x y
symbols_agree m len s x y hx hy zx zy agree column e =
    same_bytes (x column) (y column) ((hx column).long ∙ sym (hy column).long)
    (λ j. agree_closure 0 bit_xor byte_laws m s (λ d. byte j (x d)) (λ d. byte j (y d))
    (λ i lt within. plane_zero len x (λ d. (hx d).long) _ (zx i _ lt within) j
    ∙ sym (plane_zero len y (λ d. (hy d).long) _ (zy i _ lt within) j))
    (λ d f. ap (byte j) (agree d f)) column e)
