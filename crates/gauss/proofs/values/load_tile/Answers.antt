use Rattle.std.proofs.Common.{◌≡◌, ℕ, [], ◌+◌, length, get_or, ⊎_elim, ap, ◌∙◌, arith}
use Rattle.std.proofs.lemmas.Bool.{cases_eq}
use Rattle.std.proofs.lemmas.List.{get_or_default}
use Rattle.gauss.specs.Packed.{sum_byte}
use Rattle.gauss.specs.Echelon.{pivots_in, unknowns_in}
use Rattle.gauss.proofs.Words.{row_room}
use Rattle.gauss.proofs.values.load_tile.Goals as goal

pub load_part-requires-clause-long : goal.load_part-requires-clause-long
load_part-requires-clause-long c j lt = let long : length (get_or c.args.sums.now j [])
    ≡ c.args.tile.len = (c.requires.sums.symbols j [] (rw c.requires.sums.count lt)).long in
    omega (arith, long, c.requires.tile.within)

pub load_part-requires-clause-part : goal.load_part-requires-clause-part
load_part-requires-clause-part c =
    omega (
      arith,
      row_room (unknowns_in c.args.form.now) c.args.tile.size c.loop-p.p
          (omega (arith, c.loop-p-test.true)),
      c.loop-p.auto.part,
      c.requires.part,
    )

pub loop-p-preserved : goal.loop-p-preserved
loop-p-preserved c q t lt lt2 =
    let p : ℕ = c.loop-p.p in
    let row : ℕ = get_or c.args.form.now.pivots.now p 0 in
    let is : row ≡ pivots_in c.args.form.now p = get_or_default c.args.form.now.pivots.now p 0
    c.args.form.now.rows (omega (arith, c.loop-p-test.true)) in
    ⊎_elim
    (λ (e : q ≡ p). rw e (c.load_part.ensures.symbol t lt2
    ∙ ap (λ r. sum_byte c.args.sums.now (c.args.tile.start + t) r) is))
    (λ ne. c.load_part.ensures.others q t ne lt2 ∙ c.loop-p.invariant q t (omega (arith, ne, lt))
    lt2)
    (cases_eq q p)

pub returns : goal.returns
returns c p t lt lt2 = c.loop-p.invariant p t (omega (arith, c.loop-p-test.false)) lt2
