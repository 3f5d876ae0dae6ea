-- Inside: symbols that are added by groups of eight unknowns.
use Rattle.std.specs.Prelude.{◌≡◌, ◌<◌, ◌/◌, ◌%◌, ◌==◌, ◌&&◌, ℕ, List, bit_xor}
use Rattle.std.specs.Int.{bit_at}
use Rattle.sparse_rows.specs.Closure.{Set}
use Rattle.gauss.specs.Packed.{byte_in}
use Rattle.gauss.specs.Elimination.{product}

-- the members of a mask in group g
abbrev pub in_group : ℕ → Set → Set
in_group g mask c = (c / 8 == g) && mask c

-- the table's entry of a byte: what x gives to the unknowns of group g whose bit it has, summed
abbrev pub entry : {G : Type 0} → G → (G → G → G) → ℕ → ℕ → (ℕ → G) → ℕ → G
entry o add u g x byte = product o add u (in_group g (λ c. bit_at byte (c % 8) == 1)) x

-- the table holds the entry of each byte
abbrev pub HoldsEntries : ℕ → ℕ → ℕ → List ℕ → List ℕ → Type 0
HoldsEntries u len g symbols table = (b t : ℕ) → b < 256 → t < len
    → byte_in len table t b ≡ entry 0 bit_xor u g (byte_in len symbols t) b

-- each symbol is what it was, with the parts that its mask has
abbrev pub AreAdded : ℕ → ℕ → (ℕ → Set) → List ℕ → List ℕ → List ℕ → Type 0
AreAdded u len mask parts symbols now = (p t : ℕ) → p < u → t < len
    → byte_in len now t p
    ≡ bit_xor (byte_in len symbols t p) (product 0 bit_xor u (mask p) (byte_in len parts t))
