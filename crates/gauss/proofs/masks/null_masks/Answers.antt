use Rattle.std.proofs.Common.{◌≡◌, ◌≤◌, ◌<◌, ◌*◌, All, ℕ, List, length, drop, ltb, not, sym, ap}
use Rattle.std.proofs.Common.{◌∙◌, subst, arith}
use Rattle.std.proofs.Math.Nat.{mul-le-mul_right}
use Rattle.std.proofs.lemmas.List.{take_at}
use Rattle.sparse_rows.proofs.Null.{members_below}
use Rattle.gauss.specs.Elimination.{pivot_row}
use Rattle.gauss.specs.Masks.{AreNullMasks, free_unknowns}
use Rattle.gauss.specs.Echelon.{bits_in, pivots_in, unknowns_in}
use Rattle.gauss.proofs.MaskBits.{few_members, made}
use Rattle.gauss.proofs.masks.null_masks.Goals as goal

-- there are no more free unknowns than unknowns
few_free : (rows n : ℕ) (pivots free : List ℕ) → free ≡ free_unknowns rows pivots → n ≡ length free
    → length pivots ≤ 65536 → n ≤ 65536
few_free rows n pivots free is count few =
    omega (
      arith,
      count,
      ap length is,
      few_members (length pivots) (λ p. not (ltb (pivot_row rows pivots p) rows)),
      few,
    )

pub overflow_cast-sets : goal.overflow_cast-sets
overflow_cast-sets c = omega (
  arith,
  few_free c.args.form.now.rows c.len-sets.result c.args.form.now.pivots.now
      c.in_ok-free.free.items c.in_ok-free.ensures
      (omega (arith, c.len-sets.ensures, c.in_ok-free.free.ok)) c.requires.form.few,
)

pub stride_of-stride-requires : goal.stride_of-stride-requires
stride_of-stride-requires c = few_free c.args.form.now.rows c.len-sets.result
    c.args.form.now.pivots.now c.in_ok-free.free.items c.in_ok-free.ensures
    (omega (arith, c.len-sets.ensures, c.in_ok-free.free.ok)) c.requires.form.few

pub overflow_mul-form : goal.overflow_mul-form
overflow_mul-form c =
    let few : c.len-sets.result ≤ 65536 = few_free c.args.form.now.rows c.len-sets.result
    c.args.form.now.pivots.now c.in_ok-free.free.items c.in_ok-free.ensures
    (omega (arith, c.len-sets.ensures, c.in_ok-free.free.ok)) c.requires.form.few in
    let room : unknowns_in c.args.form.now * c.stride_of-stride.result ≤ 65536 *
    c.stride_of-stride.result = mul-le-mul_right c.stride_of-stride.result c.requires.form.few in
    omega (arith, few, room, c.stride_of-stride.ensures)

pub put_free-requires-clause-below : goal.put_free-requires-clause-below
put_free-requires-clause-below c = subst (λ (xs : List ℕ). All (λ d. d < unknowns_in
    c.args.form.now)
    xs) (sym (c.deref.ensures.value ∙ c.in_ok-free.ensures))
    (members_below (unknowns_in c.args.form.now)
    (λ p. not (ltb (pivots_in c.args.form.now p) c.args.form.now.rows)))

pub put_free-requires-clause-few : goal.put_free-requires-clause-few
put_free-requires-clause-few c = few_free c.args.form.now.rows (length c.deref.result.now)
    c.args.form.now.pivots.now
    c.in_ok-free.free.items c.in_ok-free.ensures (ap length c.deref.ensures.value)
    c.requires.form.few

pub overflow_mul-stride : goal.overflow_mul-stride
overflow_mul-stride c =
    let few : c.len-sets.result ≤ 65536 = few_free c.args.form.now.rows c.len-sets.result
    c.args.form.now.pivots.now c.in_ok-free.free.items c.in_ok-free.ensures
    (omega (arith, c.len-sets.ensures, c.in_ok-free.free.ok)) c.requires.form.few in
    omega (arith, few, c.stride_of-stride.ensures)

pub add_values-requires-clause-symbols : goal.add_values-requires-clause-symbols
add_values-requires-clause-symbols c =
    let few : c.len-sets.result ≤ 65536 = few_free c.args.form.now.rows c.len-sets.result
    c.args.form.now.pivots.now c.in_ok-free.free.items c.in_ok-free.ensures
    (omega (arith, c.len-sets.ensures, c.in_ok-free.free.ok)) c.requires.form.few in
    record {
      long = omega (arith, c.deref_mut-2.ensures.len, c.in_ok-bytes.ensures.len);
      few = c.requires.form.few;
      most = omega (arith, few, c.stride_of-stride.ensures);
    }

pub returns : goal.returns
returns c =
    let n : ℕ = c.in_ok-bytes.bytes.len in
    let put : List ℕ = c.put_free.new.masks in
    let now : List ℕ = c.add_values.new.symbols in
    let put_long : length put ≡ n = omega (arith, c.put_free.auto.masks, c.deref_mut.ensures.len) in
    let long : length now ≡ n = omega (arith, c.add_values.auto.symbols, c.deref_mut-2.ensures.len)
    in
    let count : c.len-sets.result ≡ length c.deref.result.now =
    omega (arith, c.len-sets.ensures, c.in_ok-free.free.ok, ap length c.deref.ensures.value) in
    subst (λ xs. AreNullMasks (bits_in c.args.form.now) c.args.form.now.rows
    c.args.form.now.pivots.now c.len-sets.result xs) (sym (take_at now _ n long))
    (made c.args.form.now.rows c.len-sets.result c.stride_of-stride.result
    (bits_in c.args.form.now) c.args.form.now.pivots.now c.deref.result.now
    c.deref_mut-2.result.now put now c.requires.form.few
    (c.deref.ensures.value ∙ c.in_ok-free.ensures) count c.stride_of-stride.ensures
    (c.deref_mut-2.ensures.value ∙ take_at put (drop (length put) c.in_ok-bytes.bytes.items) n
    put_long)
    c.put_free.ensures c.add_values.ensures (omega (arith, long, c.in_ok-bytes.ensures.len)))
