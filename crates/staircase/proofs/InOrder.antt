-- Steps that are taken one after the other.
use Rattle.std.proofs.Common.{◌≡◌, ℕ, zero, suc, ◌+◌, ◌-◌, ◌<◌, Option, Some, None, ap, ◌∙◌, arith}
use Rattle.std.proofs.Common.{add-one}
use Rattle.std.specs.Option.{option_and_then}
use Rattle.staircase.specs.LeftSide.{in_order}

module _ {S : Type 0} (step : ℕ → S → Option S) (start : S) where
  -- one step more
  pub in_order-more : (i : ℕ) (now : S) (next : Option S) → in_order i step start ≡ Some now
      → step i now ≡ next → in_order (i + 1) step start ≡ next
  in_order-more i now next so_far step_is = rw add-one (ap (option_and_then (step i)) so_far
      ∙ step_is)

  -- after a step that is none, none
  stays_none : (i more : ℕ) → in_order i step start ≡ None → in_order (more + i) step start ≡ None
  stays_none i zero none = let at : 0 + i ≡ i = omega arith in rw at none
  stays_none i (suc more) none = let at : suc more + i ≡ suc (more + i) = omega arith in
      rw at (ap (option_and_then (step (more + i))) (stays_none i more none))

  pub in_order-none : (i count : ℕ) (now : S) → i < count → in_order i step start ≡ Some now
      → step i now ≡ None → in_order count step start ≡ None
  in_order-none i count now lt so_far step_is =
      let at : count - (i + 1) + (i + 1) ≡ count = omega arith in
      rw at at (stays_none (i + 1) (count - (i + 1)) (in_order-more i now None so_far step_is))
