use Rattle.std.proofs.Common.{◌≡◌, ℕ, List, ◌+◌, ◌-◌, ◌*◌, length, take, drop, ⊎_elim, inl, inr}
use Rattle.std.proofs.Common.{◌∙◌, arith}
use Rattle.std.proofs.lemmas.Bool.{cases_eq}
use Rattle.gauss.proofs.Words.{part_length, part_of, row_room}
use Rattle.gauss.proofs.values.store_tile.Goals as goal

pub loop-p-preserved : goal.loop-p-preserved
loop-p-preserved c =
    let p : ℕ = c.loop-p.p in
    let n : ℕ = c.args.tile.len in
    let m : ℕ = c.args.tile.size in
    let a : ℕ = p * m in
    let start : ℕ = c.args.tile.start in
    let i = c.loop-p.invariant in
    let part : List ℕ = take (a + m - a) (drop a c.args.part.now) in
    let long : length part ≡ m = part_length c.args.part.now a (a + m - a) m (omega arith)
    (omega (arith, row_room c.args.unknowns m p c.loop-p-test.true, c.requires.part)) in
    record {
      tile = λ q t lt lt2. ⊎_elim
          (λ (e : q ≡ p). rw e (c.store_part.ensures.tile t (omega (arith, long, lt2))
          ∙ part_of c.args.part.now a (a + m - a) m t (omega arith) lt2))
          (λ ne. c.store_part.ensures.others q (start + t) ne (omega (
            arith,
            lt2,
            c.requires.tile.within,
          ))
          ∙ i.tile q t (omega (arith, ne, lt)) lt2)
          (cases_eq q p);
      others = λ q t lt w. ⊎_elim
          (λ (e : q ≡ p). rw e (c.store_part.ensures.rest t lt
          (⊎_elim (λ low. inl low) (λ high. inr (omega (arith, high, long))) w)
          ∙ i.others p t lt w))
          (λ ne. c.store_part.ensures.others q t ne lt ∙ i.others q t lt w)
          (cases_eq q p);
    }

pub returns-clause-tile : goal.returns-clause-tile
returns-clause-tile c p t lt lt2 = c.loop-p.invariant.tile p t
    (omega (arith, c.loop-p-test.false, lt)) lt2

pub returns-clause-others : goal.returns-clause-others
returns-clause-others c p t lt lt2 w = c.loop-p.invariant.others p t lt2 w
