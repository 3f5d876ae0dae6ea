-- Symbols spread over blocks: how many there are, and how large a block is.
use Rattle.std.proofs.Common.{◌≡◌, ℕ, zero, suc, ◌+◌, ◌-◌, ◌*◌, ◌/◌, ◌%◌, ◌<◌, ◌≤◌, min, [], ◌++◌}
use Rattle.std.proofs.Common.{length, take, replicate, sum, All, sym, ap, ap₂, ◌∙◌, subst, refl}
use Rattle.std.proofs.Common.{arith, ⊎_elim, length-append}
use Rattle.std.specs.Int.{div_ceil}
use Rattle.std.proofs.Math.Nat.{mul-le-mul_right, add-mul, mul-add, div-add-mod', mul_comm}
use Rattle.std.proofs.Math.Seq.{take-append-add}
use Rattle.std.proofs.lemmas.Bool.{cases_lt}
use Rattle.std.proofs.lemmas.Nat.{mod_below, le-div}
use Rattle.std.proofs.lemmas.Grind.{div_ceil_times}
use Rattle.std.proofs.lemmas.List.{take-append-le, take-replicate, length-replicate}
use Rattle.std.proofs.lemmas.List.Elements.{All-append, All-replicate}
use Rattle.std.proofs.lemmas.List.Folds.{sum_by-replicate}
use Rattle.std.proofs.lemmas.List.Sums.{sum_by-append}
use Rattle.blocking.specs.Blocks.{block_count, block_sizes, spread, symbol_total}

-- what fits into b pieces needs no more of them
pub ceil_most : (n e b : ℕ) → 1 ≤ e → n ≤ b * e → div_ceil n e ≤ b
ceil_most n e b some fits = ⊎_elim
    (λ (more : b < div_ceil n e).
    let room : (b + 1) * e ≤ div_ceil n e * e = mul-le-mul_right e (omega arith) in
    let next : (b + 1) * e ≡ b * e + 1 * e = add-mul b 1 e in
    let most : div_ceil n e * e < n + e = (div_ceil_times n e some).1 in
    absurd (omega (arith, room, next, most)))
    (λ (le : div_ceil n e ≤ b). le)
    (cases_lt b (div_ceil n e))

-- the pieces hold all
pub ceil_room : (n e : ℕ) → 1 ≤ e → n ≤ div_ceil n e * e
ceil_room n e some = (div_ceil_times n e some).0

-- pieces of at least one are no more than what they hold
pub ceil_le : (n e : ℕ) → 1 ≤ e → div_ceil n e ≤ n
ceil_le n e some =
    let room : 1 * n ≤ e * n = mul-le-mul_right n some in
    let turned : n * e ≡ e * n = mul_comm n e in
    ceil_most n e n some (omega (arith, room, turned))

-- the sum of two runs of equal numbers
pub runs_sum : (a x b y : ℕ) → sum (replicate a x ++ replicate b y) ≡ a * x + b * y
runs_sum a x b y = sum_by-append (λ n. n) (replicate a x) (replicate b y)
    ∙ ap₂ (λ s t. s + t) (sum_by-replicate (λ n. n) a x) (sum_by-replicate (λ n. n) b y)

-- and of the first i of them
pub start_sum : (a x b y i : ℕ) → i ≤ a + b → sum (take i (replicate a x ++ replicate b y))
    ≡ min i a * x + (i - min i a) * y
start_sum a x b y i inside = ⊎_elim within past (cases_lt i a)
  where
    within : i < a → sum (take i (replicate a x ++ replicate b y)) ≡ min i a * x + (i - min i a) * y
    within lt =
        let least : min i a ≡ i = omega arith in
        let none : i - i ≡ 0 = omega arith in
        ap sum (take-append-le i (replicate a x) (replicate b y)
        (omega (arith, length-replicate a x)) ∙ take-replicate i a x (omega arith))
        ∙ sum_by-replicate (λ n. n) i x ∙ rw least (rw none omega arith)

    past : a ≤ i → sum (take i (replicate a x ++ replicate b y)) ≡ min i a * x + (i - min i a) * y
    past le =
        let least : min i a ≡ a = omega arith in
        let at : i ≡ length (replicate a x) + (i - a) = omega (arith, length-replicate a x) in
        ap (λ n. sum (take n (replicate a x ++ replicate b y))) at
        ∙ ap sum (take-append-add (replicate a x) (replicate b y) (i - a))
        ∙ ap (λ ys. sum (replicate a x ++ ys)) (take-replicate (i - a) b y (omega arith))
        ∙ runs_sum a x (i - a) y ∙ rw least refl

module _ (total count : ℕ) where
  -- how many blocks are larger
  abbrev larger : ℕ
  larger = total - total / count * count

  -- as many as symbols are left over
  pub larger_is : larger ≡ total % count
  larger_is = omega (arith, div-add-mod' total count)

  pub larger_few : 1 ≤ count → larger < count
  larger_few some = omega (arith, larger_is, mod_below total count some)

  one_each : (r : ℕ) → r * min 1 r ≡ r
  one_each zero = omega arith
  one_each (suc r) = let e : min 1 (suc r) ≡ 1 = omega arith in ap (λ n. suc r * n) e ∙ omega arith

  -- the blocks have all symbols
  pub blocks_weigh : 1 ≤ count → larger * div_ceil total count + (count - larger) * (total / count)
      ≡ total
  blocks_weigh some =
      let q = total / count in
      let split : larger * div_ceil total count ≡ larger * q + larger * min 1 (total % count) =
      mul-add larger q (min 1 (total % count)) in
      let extra : larger * min 1 (total % count) ≡ larger = ap (λ r. larger * min 1 r)
      (sym larger_is) ∙ one_each larger in
      let few : larger < count = larger_few some in
      let whole : larger + (count - larger) ≡ count = omega (arith, few) in
      let joined : count * q ≡ larger * q + (count - larger) * q = ap (λ n. n * q) (sym whole)
      ∙ add-mul larger (count - larger) q in
      let turned : count * q ≡ q * count = mul_comm count q in
      omega (arith, split, extra, joined, turned, larger_is, div-add-mod' total count)

  pub spread_sum : 1 ≤ count → sum (spread total count) ≡ total
  spread_sum some = runs_sum larger (div_ceil total count) (count - larger) (total / count)
      ∙ blocks_weigh some

  pub spread_long : 1 ≤ count → length (spread total count) ≡ count
  spread_long some =
      let few = larger_few some in
      length-append (replicate larger (div_ceil total count))
      (replicate (count - larger) (total / count))
      ∙ omega (
        arith,
        few,
        length-replicate larger (div_ceil total count),
        length-replicate (count - larger) (total / count),
      )

  -- where the blocks are no more than the symbols, and hold them, each has a symbol and none too
  -- many
  pub spread_in_range : (most : ℕ) → 1 ≤ count → count ≤ total → total ≤ count * most
      → All (λ k. (1 ≤ k) × (k ≤ most)) (spread total count)
  spread_in_range most some less fits =
      let turned : count * most ≡ most * count = mul_comm count most in
      let least : 1 ≤ total / count = le-div 1 total count some (omega arith) in
      let highest : div_ceil total count ≤ most = ceil_most total count most some
      (omega (arith, turned, fits)) in
      All-append (λ k. (1 ≤ k) × (k ≤ most)) (replicate larger (div_ceil total count))
      (replicate (count - larger) (total / count))
      (All-replicate (λ k. (1 ≤ k) × (k ≤ most)) larger (div_ceil total count)
      (omega (arith, least), highest))
      (All-replicate (λ k. (1 ≤ k) × (k ≤ most)) (count - larger) (total / count)
      (least, omega (arith, highest)))

module _ (size len most : ℕ) where
  abbrev total : ℕ
  total = symbol_total size len

  abbrev count : ℕ
  count = block_count size len most

  -- without a symbol there is no block
  no_symbols : 1 ≤ most → count ≤ 0 → total ≡ 0
  no_symbols some none =
      let room : total ≤ count * most = ceil_room total most some in
      let nothing : count * most ≤ 0 * most = mul-le-mul_right most none in
      omega (arith, room, nothing)

  no_blocks : 1 ≤ most → count ≤ 0 → block_sizes size len most ≡ []
  no_blocks some none =
      let empty : total ≡ 0 = no_symbols some none in
      let zero_blocks : count ≡ 0 = omega (arith, none) in
      ap₂ spread empty zero_blocks

  pub sizes_sum : 1 ≤ len → 1 ≤ most → sum (block_sizes size len most) ≡ total
  sizes_sum _ some = ⊎_elim
      (λ (blocks : 0 < count). spread_sum total count blocks)
      (λ (none : count ≤ 0). ap sum (no_blocks some none) ∙ sym (no_symbols some none))
      (cases_lt 0 count)

  pub sizes_in_range : 1 ≤ len → 1 ≤ most
      → All (λ k. (1 ≤ k) × (k ≤ most)) (block_sizes size len most)
  sizes_in_range _ some = ⊎_elim
      (λ (blocks : 0 < count). spread_in_range total count most blocks (ceil_le total most some)
      (ceil_room total most some))
      (λ (none : count ≤ 0). subst (All (λ k. (1 ≤ k) × (k ≤ most))) (sym (no_blocks some none))
      (λ i d lt. absurd (omega arith)))
      (cases_lt 0 count)

-- what a plan keeps of its blocks
pub plan_fits : (length len total count highest : ℕ) → 1 ≤ len → length ≤ 268435456
    → total ≡ div_ceil length len → (count ≡ 0 → ⊥) → count ≤ 4096 → highest ≡ div_ceil total count
    → (total - total / count * count + (count - (total - total / count * count)) ≤ 4096)
    × ((total - total / count * count) * highest + (count - (total - total / count * count)) *
    (total / count) ≤ 268435456)
plan_fits length len total count highest some most total_is blocks few highest_is =
    let at_least : 1 ≤ count = omega (arith, blocks) in
    let lower : larger total count < count = larger_few total count at_least in
    let all : larger total count * div_ceil total count + (count - larger total count) *
    (total / count) ≡ total = blocks_weigh total count at_least in
    let within : total ≤ 268435456 = omega (arith, ceil_le length len some) in
    (omega (arith, lower, few), rw highest_is omega (arith, all, within))
