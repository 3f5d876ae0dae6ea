use Rattle.std.proofs.Common.{◌≡◌, ◌<◌, ◌≤◌, ◌+◌, ◌*◌, ◌%◌, ◌^◌, ℕ, List, cond, ⊎_elim, bit_xor}
use Rattle.std.proofs.Common.{ltb, refl, sym, ap, ◌∙◌, arith}
use Rattle.std.proofs.Math.Pow.{pow_mono}
use Rattle.std.proofs.lemmas.Bool.{cases_eq}
use Rattle.gauss.specs.Packed.{byte_in}
use Rattle.gauss.proofs.Words.{row_room, shifted_one}
use Rattle.gauss.proofs.entries.double.Goals as goal

-- the second half of so many entries ends within 256
within : (bit half b : ℕ) → bit < 8 → half ≡ 2 ^ bit → b < half → half + b < 256
within bit half b lt e low = let most : 2 ^ bit ≤ 128 = pow_mono {i = bit} {j = 7} (omega arith) in
    omega (arith, e, low, most)

pub loop-b-init : goal.loop-b-init
loop-b-init c = record {
  half = shifted_one c.args.bit (omega (arith, c.requires.bit));
  made = λ d t lt. absurd (omega (arith, lt));
  kept = λ d t lt lt2. refl;
}

pub put_entry-requires-clause-to : goal.put_entry-requires-clause-to
put_entry-requires-clause-to c =
    omega (
      arith,
      row_room 256 c.args.len (1 * 2 ^ c.args.bit % 18446744073709551616 + c.loop-b.b)
          (within c.args.bit _ c.loop-b.b c.requires.bit c.loop-b.invariant.half
          c.loop-b-test.true),
      c.loop-b.auto.table,
      c.requires.table,
    )

pub put_entry-requires-clause-few : goal.put_entry-requires-clause-few
put_entry-requires-clause-few c = within c.args.bit _ c.loop-b.b c.requires.bit
    c.loop-b.invariant.half c.loop-b-test.true

pub loop-b-preserved : goal.loop-b-preserved
loop-b-preserved c =
    let n : ℕ = c.args.len in
    let b : ℕ = c.loop-b.b in
    let half : ℕ = 1 * 2 ^ c.args.bit % 18446744073709551616 in
    let i = c.loop-b.invariant in
    let now : List ℕ = c.put_entry.new.table in
    record {
      half = i.half;
      made = λ d t lt lt2. ⊎_elim
          (λ (e : d ≡ b). rw e (c.put_entry.ensures.made t lt2
          ∙ ap (λ x. bit_xor x (cond (ltb c.args.unknown c.args.unknowns)
          (byte_in n c.args.symbols.now t c.args.unknown) 0))
          (i.kept b t c.loop-b-test.true lt2)))
          (λ ne. c.put_entry.ensures.others (half + d) t (λ e. ne (omega (arith, e))) lt2
          ∙ i.made d t (omega (arith, ne, lt)) lt2) (cases_eq d b);
      kept = λ d t lt lt2. c.put_entry.ensures.others d t (λ e. omega (arith, e, lt)) lt2
          ∙ i.kept d t lt lt2;
    }

pub returns-clause-made : goal.returns-clause-made
returns-clause-made c b t lt lt2 =
    let half : ℕ = 1 * 2 ^ c.args.bit % 18446744073709551616 in
    let i = c.loop-b.invariant in
    let same : half + b ≡ 1 * 2 ^ c.args.bit + b = omega (arith, i.half) in
    ap (byte_in c.args.len c.loop-b.table t) (sym same)
    ∙ i.made b t (omega (arith, i.half, lt, c.loop-b-test.false)) lt2

pub returns-clause-kept : goal.returns-clause-kept
returns-clause-kept c b t lt lt2 = c.loop-b.invariant.kept b t
    (omega (arith, c.loop-b.invariant.half, lt)) lt2
