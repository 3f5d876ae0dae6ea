-- What holds of every cut into source blocks.
use Rattle.std.specs.Prelude.{◌≡◌, ◌≤◌, ℕ, length, sum, All}
use Rattle.blocking.specs.Blocks.{block_count, block_sizes, scaled, symbol_total}

-- there are as many blocks as counted
abbrev pub BlocksAreCounted : Type 0
BlocksAreCounted = (size len most : ℕ)
    → length (block_sizes size len most) ≡ block_count size len most

-- each block has from 1 to `most` source symbols
abbrev pub BlocksAreInRange : Type 0
BlocksAreInRange = (size len most : ℕ) → 1 ≤ len → 1 ≤ most
    → All (λ k. (1 ≤ k) × (k ≤ most)) (block_sizes size len most)

-- the blocks have all source symbols together
abbrev pub BlocksHaveAll : Type 0
BlocksHaveAll = (size len most : ℕ) → 1 ≤ len → 1 ≤ most
    → sum (block_sizes size len most) ≡ symbol_total size len

-- a block has at least its source symbols as encoding symbols
abbrev pub SourceIsEncoded : Type 0
SourceIsEncoded = (k most greatest_n : ℕ) → k ≤ most → 1 ≤ most → most ≤ greatest_n
    → k ≤ scaled k most greatest_n
