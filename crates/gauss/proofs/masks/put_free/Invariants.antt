use Rattle.std.proofs.Common.{◌≡◌, ◌<◌, ◌≤◌, ◌/◌, ◌==◌, ℕ, false, get_or}
use Rattle.gauss.specs.Masks.{set_of}
use Rattle.gauss.proofs.masks.put_free.Given as goal

abbrev pub invariant-loop-i : goal.invariant-loop-i
invariant-loop-i l = record {
  done : (j d : ℕ) → j < l.i → d < l.unknowns
      → set_of l.stride l.masks j d ≡ (d == get_or l.free j 0);
  rest : (j d : ℕ) → l.i ≤ j → j / 8 < l.stride → d < l.unknowns
      → set_of l.stride l.masks j d ≡ false;
}
