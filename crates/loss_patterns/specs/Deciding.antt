-- A loss as it decides on one packet after the other.
use Rattle.std.specs.Prelude.{◌≡◌, ℕ, Bool, true}
use Rattle.park_miller.specs.Generator.{after}
use Rattle.loss_patterns.specs.declared.kind.LossKind.{LossKind}
use Rattle.loss_patterns.specs.declared.kind.LossKind.TheVariants as loss
use Rattle.loss_patterns.specs.Keeps.{is_good}
use Rattle.loss_patterns.specs.Keeps.{draws_for}

-- whether no burst is on after so many packets; without bursts none ever is
abbrev pub good_after : LossKind → ℕ → ℕ → Bool
good_after (loss.Burst begins ends) start decided = is_good begins ends start decided
good_after _ start decided = true

-- a loss, how many packets it has decided, and whether no burst is on
pub record Deciding : Type 0 where
  pub kind : LossKind
  pub decided : ℕ
  pub good : Bool

-- the loss began with the generator in the first state, which its own draws alone brought to the
-- second
pub record Follows (l : Deciding) (start state : ℕ) : Type 0 where
  pub drew : state ≡ after (draws_for l.kind l.decided) start
  pub good_is : l.good ≡ good_after l.kind start l.decided
