-- The sizes of the blocks of a file whose fields have no fault.
use Rattle.std.proofs.Common.{◌≡◌, ℕ, zero, suc, ◌-◌, ◌*◌, ◌/◌, ◌<◌, ◌≤◌, Bool, true, false}
use Rattle.std.proofs.Common.{if◌then◌else◌, not, ◌==◌, nat_lt, List, [], ◌∷◌, ◌++◌, length, get_or}
use Rattle.std.proofs.Common.{replicate, slice_index, Option, Some, None, All, refl, ap, ◌∙◌, subst}
use Rattle.std.proofs.Common.{arith, rules}
use Rattle.std.specs.Int.{div_ceil}
use Rattle.std.proofs.Math.Nat.{mul-le-mul_right, div-le_of_le-mul, div-add-mod', mul_comm}
use Rattle.std.proofs.lemmas.Bool.{ltb-false, le-ltb, or_from}
use Rattle.std.proofs.lemmas.Nat.{le-div}
use Rattle.std.proofs.lemmas.List.Elements.{All-append, All-replicate, All-head, All-tail}
use Rattle.std.proofs.lemmas.List.Elements.{All-get_or}
use Rattle.std.specs.List.{list_any}
use Rattle.blocking.specs.Blocks.{size_2d}
use Rattle.blocking.specs.CornerSize.{size_2d_corner}
use Rattle.blocking.specs.Blocks.{block_count, scaled, spread, symbol_total}
use Rattle.blocking.proofs.Spread.{ceil_most, ceil_room, sizes_in_range}
use Rattle.oti_fields.specs.Faults.{codec_fault, field_fault}
use Rattle.oti_fields.specs.Grids.{grid_size}
use Rattle.oti_fields.specs.declared.codec.Codec.{Codec}
use Rattle.oti_fields.specs.declared.codec.Codec.TheVariants.{Staircase, Triangle, Parity2d}
use Rattle.oti_fields.specs.declared.codec.Codec.TheVariants.{Corner2d}
use Rattle.oti_fields.specs.declared.check.FieldFault.TheVariants.{SymbolZero, GroupNotOne}
use Rattle.oti_fields.specs.declared.check.FieldFault.TheVariants.{BlockZero, MaxBelowBlock}
use Rattle.oti_fields.specs.declared.check.FieldFault.TheVariants.{MaxTooLarge}
use Rattle.oti_fields.specs.declared.oti.Oti.{Oti}
use Rattle.packet_file.specs.declared.version.Version.TheVariants.{One}
use Rattle.packet_file.specs.Header.{HeaderFields, has_large_block, source_counts, symbol_count}
use Rattle.packet_file.specs.Header.{symbols_by}

-- what fields without a fault say of sizes
pub record HasSizes (codec : Codec) (oti : Oti) : Type 0 where
  pub symbol : 1 ≤ oti.symbol
  pub block : 1 ≤ oti.block
  pub within : oti.block ≤ oti.max_n
  pub most : oti.max_n ≤ 65536
  pub seed : 1 ≤ oti.seed
  pub grid : (n : ℕ) → grid_size codec oti.block oti.seed ≡ Some n → oti.max_n ≡ n

-- where a list of faults says none, its first test failed, and so did the others
pub passed : {F : Type 0} (test : Bool) (fault : F) (rest : Option F)
    → (if test then Some fault else rest) ≡ None → (test ≡ false) × (rest ≡ None)
passed true fault rest is = absurd (cc)
passed false fault rest is = (refl, is)

-- the seed, or the width, of fields without a fault isn't 0
seed_some : (codec : Codec) (oti : Oti) → codec_fault codec oti ≡ None → 1 ≤ oti.seed
seed_some Staircase oti is = search rules
seed_some Triangle oti is = search rules
seed_some Parity2d oti is = search rules
seed_some Corner2d oti is = search rules

-- what a grid without a fault has
grid_is : (codec : Codec) (oti : Oti) (n : ℕ) → codec_fault codec oti ≡ None
    → grid_size codec oti.block oti.seed ≡ Some n → oti.max_n ≡ n
grid_is Staircase oti n is size = absurd (cc)
grid_is Triangle oti n is size = absurd (cc)
grid_is Parity2d oti n is size = search rules
grid_is Corner2d oti n is size = search rules

pub fields_have_sizes : (codec : Codec) (oti : Oti) → field_fault codec oti ≡ None
    → HasSizes codec oti
fields_have_sizes codec oti is =
    let symbol = passed (oti.symbol == 0) SymbolZero _ is in
    let group = passed (not (oti.group == 1)) GroupNotOne _ symbol.1 in
    let block = passed (oti.block == 0) BlockZero _ group.1 in
    let within = passed (nat_lt oti.max_n oti.block) MaxBelowBlock _ block.1 in
    let most = passed (nat_lt 65536 oti.max_n) MaxTooLarge (codec_fault codec oti) within.1 in
    record {
      symbol = some oti.symbol symbol.0;
      block = some oti.block block.0;
      within = ltb-false oti.max_n oti.block within.0;
      most = ltb-false 65536 oti.max_n most.0;
      seed = seed_some codec oti most.1;
      grid = λ n size. grid_is codec oti n most.1 size;
    }
  where
    some : (n : ℕ) → (n == 0) ≡ false → 1 ≤ n
    some zero no_zero = absurd (cc)
    some (suc n) no_zero = omega arith

-- a proportion grows, and is between what it is of and the greatest
scaled_grow : (a b block max_n : ℕ) → 1 ≤ block → a ≤ b
    → scaled a block max_n ≤ scaled b block max_n
scaled_grow a b block max_n some less =
    let down : a * max_n / block * block ≤ a * max_n =
    omega (arith, div-add-mod' (a * max_n) block) in
    let up : a * max_n ≤ b * max_n = mul-le-mul_right max_n less in
    le-div (scaled a block max_n) (b * max_n) block some (omega (arith, down, up))

scaled_least : (k block max_n : ℕ) → 1 ≤ block → block ≤ max_n → k ≤ scaled k block max_n
scaled_least k block max_n some within =
    let up : block * k ≤ max_n * k = mul-le-mul_right k within in
    le-div k (k * max_n) block some (omega (arith, up, mul_comm block k, mul_comm max_n k))

scaled_most : (k block max_n : ℕ) → k ≤ block → scaled k block max_n ≤ max_n
scaled_most k block max_n less =
    let up : k * max_n ≤ block * max_n = mul-le-mul_right max_n less in div-le_of_le-mul block up

-- fewer source symbols make no larger grid
size_smaller : (k b w : ℕ) → 1 ≤ w → k ≤ b → size_2d k w ≤ size_2d b w
size_smaller k b w some le =
    let rows : div_ceil k w ≤ div_ceil b w = ceil_most k w (div_ceil b w) some
    (omega (arith, ceil_room b w some)) in omega (arith, rows)

-- fewer source symbols make no larger block
pub symbols_grow : (codec : Codec) (oti : Oti) (a b : ℕ) → HasSizes codec oti → a ≤ b
    → symbols_by codec oti a ≤ symbols_by codec oti b
symbols_grow Staircase oti a b sizes less = scaled_grow a b oti.block oti.max_n sizes.block less
symbols_grow Triangle oti a b sizes less = scaled_grow a b oti.block oti.max_n sizes.block less
symbols_grow Parity2d oti a b sizes less = size_smaller a b oti.seed sizes.seed less
symbols_grow Corner2d oti a b sizes less = omega
    (arith, size_smaller a b oti.seed sizes.seed less)

-- a block has at least its source symbols
pub symbols_least : (codec : Codec) (oti : Oti) (k : ℕ) → HasSizes codec oti
    → k ≤ symbols_by codec oti k
symbols_least Staircase oti k sizes = scaled_least k oti.block oti.max_n sizes.block sizes.within
symbols_least Triangle oti k sizes = scaled_least k oti.block oti.max_n sizes.block sizes.within
symbols_least Parity2d oti k sizes = omega arith
symbols_least Corner2d oti k sizes = omega arith

-- and at most the greatest n
pub symbols_most : (codec : Codec) (oti : Oti) (k : ℕ) → HasSizes codec oti → k ≤ oti.block
    → symbols_by codec oti k ≤ oti.max_n
symbols_most Staircase oti k sizes less = scaled_most k oti.block oti.max_n less
symbols_most Triangle oti k sizes less = scaled_most k oti.block oti.max_n less
symbols_most Parity2d oti k sizes less = omega (
  arith,
  size_smaller k oti.block oti.seed sizes.seed
      less,
  sizes.grid (size_2d oti.block oti.seed) refl,
)
symbols_most Corner2d oti k sizes less = omega (
  arith,
  size_smaller k oti.block oti.seed sizes.seed
      less,
  sizes.grid (size_2d_corner oti.block oti.seed) refl,
)

-- no item passes the test
none_any : (test : ℕ → Bool) (xs : List ℕ) → All (λ x. test x ≡ false) xs → list_any test xs ≡ false
none_any test [] none = refl
none_any test (x ∷ xs) none = or_from (test x) (list_any test xs)
    (All-head (λ y. test y ≡ false) x xs none)
    (none_any test xs (All-tail (λ y. test y ≡ false) x xs none))

-- of two runs the first number is the greatest, where the first run's is
first_of_runs : (a x b y : ℕ) → y ≤ x → All (λ k. k ≤ get_or (replicate a x ++ replicate b y) 0 0)
    (replicate a x ++ replicate b y)
first_of_runs zero x zero y less = λ i d lt. absurd (omega arith)
first_of_runs zero x (suc b) y less = All-replicate (λ k. k ≤ y) (suc b) y (omega arith)
first_of_runs (suc a) x b y less = All-append (λ k. k ≤ x) (replicate (suc a) x) (replicate b y)
    (All-replicate (λ k. k ≤ x) (suc a) x (omega arith)) (All-replicate (λ k. k ≤ x) b y less)

-- the first block is the greatest
pub first_greatest : (total count : ℕ) → All (λ k. k ≤ get_or (spread total count) 0 0)
    (spread total count)
first_greatest total count = first_of_runs (total - total / count * count) (div_ceil total count)
    (count - (total - total / count * count)) (total / count) (omega arith)

module _ (codec : Codec) (oti : Oti) (is : field_fault codec oti ≡ None) where
  abbrev made : HeaderFields
  made = record { version = One; codec = codec; oti = oti }

  sizes : HasSizes codec oti
  sizes = fields_have_sizes codec oti is

  -- each block has from 1 to the greatest number of source symbols
  pub counts_in_range : All (λ k. (1 ≤ k) × (k ≤ oti.block)) (source_counts made)
  counts_in_range = sizes_in_range oti.length oti.symbol oti.block sizes.symbol sizes.block

  pub count_in_range : (i : ℕ) → i < length (source_counts made)
      → (1 ≤ slice_index (source_counts made) i) × (slice_index (source_counts made) i ≤ oti.block)
  count_in_range i inside = All-get_or (λ k. (1 ≤ k) × (k ≤ oti.block)) (source_counts made) i 0
      inside counts_in_range

  -- the size of the first block, by a plan that is this one
  pub first_small : (plan : List ℕ) (k n : ℕ) → plan ≡ source_counts made → k ≡ slice_index plan 0
      → n ≡ symbols_by codec oti k → n * oti.symbol ≤ 268435456
      → symbols_by codec oti (slice_index (source_counts made) 0) * oti.symbol ≤ 268435456
  first_small plan k n plan_is k_is n_is small =
      subst (λ n. n * oti.symbol ≤ 268435456) (n_is
      ∙ ap (symbols_by codec oti) (k_is ∙ ap (λ counts. slice_index counts 0) plan_is)) small

  -- where the first block isn't too large, no block is
  pub no_large_block : symbols_by codec oti (slice_index (source_counts made) 0) * oti.symbol ≤
      268435456 → has_large_block made ≡ false
  no_large_block fits = none_any (λ k. nat_lt 268435456 (symbol_count made k * oti.symbol))
      (source_counts made) (λ i d inside.
      let first : ℕ = slice_index (source_counts made) 0 in
      let k : ℕ = get_or (source_counts made) i d in
      let less : symbols_by codec oti k ≤ symbols_by codec oti first = symbols_grow codec oti k
      first sizes (first_greatest (symbol_total oti.length oti.symbol)
      (block_count oti.length oti.symbol oti.block) i d inside) in
      let product : symbols_by codec oti k * oti.symbol ≤ symbols_by codec oti first * oti.symbol =
      mul-le-mul_right oti.symbol less in
      le-ltb 268435456 (symbols_by codec oti k * oti.symbol) (omega (arith, product, fits)))
