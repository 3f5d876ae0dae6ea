-- Which packets a loss keeps, by their index and the state that the generator began with. Packets
-- are counted from 0, and packet i has the draw number i + 1. The losses in bursts are those of the
-- two-state channel of E. N. Gilbert (Bell System Technical Journal 39, 1960), whose bad state
-- loses each packet.
use Rattle.std.specs.Prelude.{ℕ, ◌+◌, Bool, true, nat_le, nat_lt, if◌then◌else◌}
use Rattle.std.proofs.Common.{zero, suc}
use Rattle.park_miller.specs.Generator.{after, drawn}
use Rattle.loss_patterns.specs.declared.kind.LossKind.{LossKind}
use Rattle.loss_patterns.specs.declared.kind.LossKind.TheVariants as loss

-- the draw of packet i below 1000, from this state on
abbrev pub thousandth : ℕ → ℕ → ℕ
thousandth start i = drawn 1000 (after (i + 1) start)

-- whether no burst is on after so many packets: one begins at a draw below the first number, and
-- ends at a draw below the second
abbrev pub is_good : ℕ → ℕ → ℕ → ℕ → Bool
is_good begins ends start zero = true
is_good begins ends start (suc i) =
    if is_good begins ends start i then nat_le begins (thousandth start i)
    else nat_lt (thousandth start i) ends

-- whether packet i is kept
abbrev pub keeps : LossKind → ℕ → ℕ → Bool
keeps loss.None start i = true
keeps (loss.First lost) start i = nat_le lost i
keeps (loss.Even chance) start i = nat_le chance (thousandth start i)
keeps (loss.Burst begins ends) start i = is_good begins ends start (i + 1)

-- how many draws the decisions on so many packets take
abbrev pub draws_for : LossKind → ℕ → ℕ
draws_for loss.None decided = 0
draws_for (loss.First lost) decided = 0
draws_for (loss.Even chance) decided = decided
draws_for (loss.Burst begins ends) decided = decided
