use Rattle.std.proofs.Common.{◌<◌, ◌≤◌, ⊎_elim, arith}
use Rattle.std.proofs.lemmas.Bool.{cases_lt}
use Rattle.gauss.specs.Echelon.{bits_in, pivots_in, unknowns_in}
use Rattle.gauss.proofs.Tiles.{value_kept}
use Rattle.gauss.proofs.values.write_values.Goals as goal

pub loop-start-preserved : goal.loop-start-preserved
loop-start-preserved c = record {
  within = omega (arith, c.lesser-size.ensures, c.loop-start-test.true);
  done = λ p t lt lt2. ⊎_elim
      (λ (low : t < c.loop-start.start). value_kept (unknowns_in c.args.form.now) c.args.len
      (bits_in c.args.form.now) (pivots_in c.args.form.now)
      c.args.sums.now
      c.loop-start.values c.write_tile.new.values t (λ q lt3. c.write_tile.ensures.others q t lt3
      low) p lt (c.loop-start.invariant.done p t lt low))
      (λ (le : c.loop-start.start ≤ t). c.write_tile.ensures.tile p t lt le lt2)
      (cases_lt t c.loop-start.start);
}
