use Rattle.std.proofs.Common.{◌≡◌, ℕ, List, ◌+◌, ◌-◌, ◌/◌, bit_xor, sym, ap, ◌∙◌, subst}
use Rattle.std.proofs.Common.{arith}
use Rattle.sparse_rows.proofs.Algebra.{right}
use Rattle.sparse_rows.proofs.Planes.{byte_laws}
use Rattle.gauss.specs.Packed.{byte_in}
use Rattle.gauss.specs.Elimination.{before, product}
use Rattle.gauss.specs.Groups.{AreAdded}
use Rattle.gauss.specs.Echelon.{bits_in, pivots_in, unknowns_in}
use Rattle.gauss.proofs.Groups.{from_group}
use Rattle.gauss.proofs.Passes.{all_groups, no_group, taken_step}
use Rattle.gauss.proofs.substitution.add_recorded.Goals as goal

pub loop-k-init : goal.loop-k-init
loop-k-init c p t lt lt2 =
    let u : ℕ = unknowns_in c.args.form.now in
    let x : ℕ → ℕ = byte_in c.args.len c.args.symbols.now t in
    sym (ap (bit_xor (x p)) (no_group 0 bit_xor byte_laws u ((u + 7) / 8 - 0)
    (before (bits_in c.args.form.now) (pivots_in c.args.form.now) p)
    x (omega arith)) ∙ right 0 bit_xor byte_laws (x p))

pub fill-requires-clause-group : goal.fill-requires-clause-group
fill-requires-clause-group c = omega (arith, c.loop-k-test.true)

pub add_group_recorded-requires-clause-group : goal.add_group_recorded-requires-clause-group
add_group_recorded-requires-clause-group c = omega (arith, c.loop-k-test.true)

pub loop-k-preserved : goal.loop-k-preserved
loop-k-preserved c p t lt lt2 =
    let u : ℕ = unknowns_in c.args.form.now in
    let n : ℕ = c.args.len in
    let groups : ℕ = (u + 7) / 8 in
    let g : ℕ = groups - 1 - c.loop-k.k in
    let bits = bits_in c.args.form.now in
    let rows = pivots_in c.args.form.now in
    let first : List ℕ = c.args.symbols.now in
    let now : List ℕ = c.loop-k.symbols in
    let next : List ℕ = c.add_group_recorded.new.symbols in
    let last : groups - c.loop-k.k ≡ g + 1 = omega (arith, c.loop-k-test.true) in
    let this : g ≡ groups - (c.loop-k.k + 1) = omega arith in
    let inv : AreAdded u n (λ q. from_group (g + 1) (before bits rows q)) first first now =
    subst (λ m. AreAdded u n (λ q. from_group m (before bits rows q)) first first now) last
    c.loop-k.invariant in
    subst (λ m. byte_in n next t p ≡ bit_xor (byte_in n first t p)
    (product 0 bit_xor u (from_group m (before bits rows p)) (byte_in n first t))) this
    (taken_step 0 bit_xor byte_laws u (λ q. bits (rows q)) g (byte_in n first t) (byte_in n now t)
    (byte_in n next t) (λ q low. inv q t low lt2) (λ q low. c.add_group_recorded.ensures q t low
    lt2) p lt)

pub returns : goal.returns
returns c p t lt lt2 =
    let u : ℕ = unknowns_in c.args.form.now in
    let x : ℕ → ℕ = byte_in c.args.len c.args.symbols.now t in
    let mask = before (bits_in c.args.form.now)
    (pivots_in c.args.form.now) p in
    let none : (u + 7) / 8 - c.loop-k.k ≡ 0 = omega (arith, c.loop-k-test.false) in
    c.loop-k.invariant p t lt lt2 ∙ ap (bit_xor (x p))
    (ap (λ m. product 0 bit_xor u (from_group m mask) x) none ∙ all_groups 0 bit_xor byte_laws u
    mask x)
