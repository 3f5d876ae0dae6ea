use Rattle.std.proofs.Common.{◌≡◌, ◌<◌, ◌≤◌, ◌+◌, ◌-◌, ◌*◌, ◌^◌, ℕ, List, cond, ⊎_elim, bit_xor}
use Rattle.std.proofs.Common.{ltb, sym, ap, ap₂, ◌∙◌, arith}
use Rattle.std.proofs.lemmas.Bool.{cases_lt}
use Rattle.std.proofs.lemmas.Nat.{pow-add}
use Rattle.sparse_rows.proofs.Planes.{byte_laws}
use Rattle.gauss.specs.Packed.{byte_in}
use Rattle.gauss.specs.Groups.{entry}
use Rattle.gauss.proofs.Groups.{entry_double, entry_none}
use Rattle.gauss.proofs.entries.fill.Goals as goal

pub loop-bit-init : goal.loop-bit-init
loop-bit-init c b t lt lt2 =
    let is : b ≡ 0 = omega (arith, lt) in
    rw is (c.clear_first.ensures t lt2
    ∙ sym (entry_none 0 bit_xor byte_laws c.args.unknowns c.args.group
    (byte_in c.args.len c.args.symbols.now t)))

pub loop-bit-preserved : goal.loop-bit-preserved
loop-bit-preserved c b t lt lt2 =
    let q : ℕ = c.loop-bit.bit in
    let n : ℕ = c.args.len in
    let u : ℕ = c.args.unknowns in
    let g : ℕ = c.args.group in
    let now : List ℕ = c.double.new.table in
    let x : ℕ → ℕ = byte_in n c.args.symbols.now t in
    let twice : 2 ^ (q + 1) ≡ 2 ^ q * 2 = pow-add 2 q 1 in
    let place : 8 * g + q ≡ g * 8 + q = omega arith in
    ⊎_elim
    (λ (low : b < 2 ^ q). c.double.ensures.kept b t low lt2 ∙ c.loop-bit.invariant b t low lt2)
    (λ (high : 2 ^ q ≤ b).
    let d : ℕ = b - 2 ^ q in
    let is : b ≡ 1 * 2 ^ q + d = omega (arith, high) in
    let low : d < 2 ^ q = omega (arith, twice, lt, high) in
    ap (byte_in n now t) is ∙ c.double.ensures.made d t low lt2
    ∙ ap₂ bit_xor (c.loop-bit.invariant d t low lt2) (ap (λ k. cond (ltb k u) (x k) 0) (sym place))
    ∙ sym (entry_double 0 bit_xor byte_laws u g q d x (omega (arith, c.loop-bit-test.true)) low)
    ∙ ap (entry 0 bit_xor u g x) (sym is))
    (cases_lt b (2 ^ q))

pub returns : goal.returns
returns c b t lt lt2 = let is : c.loop-bit.bit ≡ 8 =
    omega (arith, c.loop-bit-test.false, c.loop-bit.auto.bit-end) in (rw is at c.loop-bit.invariant)
    b t lt lt2
