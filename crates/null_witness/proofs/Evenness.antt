-- Counting columns of a row, odd or even.
use Rattle.std.proofs.Common.{◌≡◌, ℕ, ◌+◌, ◌%◌, ◌↔◌, Bool, true, false, not, cond, IsTrue, refl}
use Rattle.std.proofs.Common.{arith}

-- one more turns it
pub turned : (count : ℕ) (even : Bool) → count % 2 ≡ cond even 0 1
    → (count + 1) % 2 ≡ cond (not even) 0 1
turned count true e = omega arith
turned count false e = omega arith

pub even_is : (count : ℕ) (even : Bool) → count % 2 ≡ cond even 0 1 → IsTrue even ↔ (count % 2 ≡ 0)
even_is count true e = (λ t. e, λ h. refl)
even_is count false e = (λ t. absurd (cc t), λ h. absurd (omega (arith, e, h)))
