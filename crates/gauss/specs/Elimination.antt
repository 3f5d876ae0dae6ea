-- Inside: what holds between two steps of an elimination in place.
use Rattle.std.specs.Prelude.{◌≡◌, ◌≢◌, ◌≤◌, ◌<◌, ◌↔◌, ◌==◌, ◌&&◌, ◌||◌, ◌⊎◌, not, ℕ, Bool}
use Rattle.std.specs.Prelude.{true, false, cond, List, length, slice_index_or, slice_set, bit_xor}
use Rattle.std.specs.List.{range_with_len}
use Rattle.std.proofs.Common.{ltb}
use Rattle.std.proofs.Math.Bool.{xor as bool_xor}
use Rattle.sparse_rows.specs.Closure.{Set, flagged}
use Rattle.sparse_rows.specs.Totals.{total}
use Rattle.gauss.specs.Packed.{byte_in, sum_byte}

-- what x gives to the members of the mask below u, summed
abbrev pub product : {G : Type 0} → G → (G → G → G) → ℕ → Set → (ℕ → G) → G
product o add u mask x = total o add (λ c. cond (mask c) (x c) o) (range_with_len 0 u)

-- x gives each of the first r rows its sum
abbrev pub Solves : {G : Type 0} → G → (G → G → G) → ℕ → ℕ → (ℕ → Set) → (ℕ → G) → (ℕ → G)
    → Type 0
Solves o add u r mask sum x = (j : ℕ) → j < r → product o add u (mask j) x ≡ sum j

-- the unknowns of row j once those below i are eliminated: its own and the bits behind it where it
-- leads one, else the bits from i on
abbrev pub mask_in : ℕ → ℕ → (ℕ → Set) → (ℕ → ℕ) → ℕ → Set
mask_in u i bits lead j c =
    cond (ltb (lead j) u) ((c == lead j) || (ltb (lead j) c && bits j c))
    (not (ltb c i) && bits j c)

-- the unknowns whose pivot rows went into row j: the bits before its own unknown, or before i
abbrev pub taken_in : ℕ → ℕ → (ℕ → Set) → (ℕ → ℕ) → ℕ → Set
taken_in u i bits lead j p = ltb p (cond (ltb (lead j) u) (lead j) i) && bits j p

-- the sum of row j: the sum that it had first, and those of the pivot rows that went into it
abbrev pub sum_in : {G : Type 0} → G → (G → G → G) → ℕ → ℕ → (ℕ → Set) → (ℕ → ℕ) → (ℕ → ℕ)
    → (ℕ → G) → ℕ → G
sum_in o add u i bits lead pivot_row first j =
    add (first j) (product o add u (taken_in u i bits lead j) (λ p. first (pivot_row p)))

-- the rows that unknown i is cleared from by row t: the others that lead none and have it
abbrev pub hit_by : ℕ → ℕ → ℕ → (ℕ → Set) → (ℕ → ℕ) → ℕ → Bool
hit_by u t i bits lead j = not (ltb (lead j) u) && (not (j == t) && bits j i)

-- row t without its bit i is added to each row that is hit: bit i of these stays, and tells that
-- row t went into them
pub record IsCleared (u t i : ℕ) (lead : ℕ → ℕ) (bits bits_now : ℕ → Set) : Type 0 where
  pub pivot : (c : ℕ) → bits_now t c ≡ bool_xor (bits t c) (c == i)
  pub hit : (j c : ℕ) → hit_by u t i bits lead j ≡ true
      → bits_now j c ≡ bool_xor (bits j c) (bits_now t c)
  pub other : (j c : ℕ) → j ≢ t → hit_by u t i bits lead j ≡ false → bits_now j c ≡ bits j c

-- the first r rows of bits once the unknowns below i were eliminated, with the null sets and the
-- solutions of the first bits, whatever the sums are
pub record IsStage (u r i : ℕ) (first now : ℕ → Set) (pivot_row lead : ℕ → ℕ) : Type 0 where
  -- the pivot row of an unknown leads it,
  pub own : (p : ℕ) → p < i → pivot_row p < r → lead (pivot_row p) ≡ p
  -- without its own bit,
  pub gone : (p : ℕ) → p < i → pivot_row p < r → now (pivot_row p) p ≡ false
  -- and what leads an unknown is its pivot row
  pub led : (j : ℕ) → lead j < u → (lead j < i) × (pivot_row (lead j) ≡ j)
  pub nulls : (w : Set) → Solves false bool_xor u r first (λ j. false) w
      ↔ Solves false bool_xor u r (mask_in u i now lead) (λ j. false) w
  pub planes : (s x : ℕ → ℕ) → Solves 0 bit_xor u r first s x
      ↔ Solves 0 bit_xor u r (mask_in u i now lead) (sum_in 0 bit_xor u i now lead pivot_row s) x

-- the pivot row of an unknown: r where it is free
abbrev pub pivot_row : ℕ → List ℕ → ℕ → ℕ
pivot_row r pivots p = slice_index_or pivots p r

-- the unknown that a row leads: u where it leads none
abbrev pub lead_of : ℕ → List ℕ → ℕ → ℕ
lead_of u leads j = slice_index_or leads j u

-- row t leads no unknown and has unknown i
pub record IsCandidate (u r i : ℕ) (bits : ℕ → Set) (leads : List ℕ) (t : ℕ) : Type 0 where
  pub inside : t < r
  pub unled : u ≤ lead_of u leads t
  pub holds : bits t i ≡ true

-- row t, which led no unknown, leads unknown i, and is added to the others that have it
pub record IsTaken (u r i t : ℕ) (bits bits_now : ℕ → Set)
    (pivots leads pivots_now leads_now : List ℕ) : Type 0 where
  pub inside : t < r
  pub unled : u ≤ lead_of u leads t
  pub holds : bits t i ≡ true
  pub cleared : IsCleared u t i (lead_of u leads) bits bits_now
  pub pivot : pivots_now ≡ slice_set pivots i t
  pub lead : leads_now ≡ slice_set leads t i

-- no row that leads nothing has unknown i, and nothing changes
pub record IsLeft (u r i : ℕ) (bits bits_now : ℕ → Set)
    (pivots leads pivots_now leads_now : List ℕ) : Type 0 where
  pub none : (j : ℕ) → j < r → u ≤ lead_of u leads j → bits j i ≡ false
  pub same : (j c : ℕ) → bits_now j c ≡ bits j c
  pub pivot : pivots_now ≡ pivots
  pub lead : leads_now ≡ leads

-- unknown i is eliminated: it is free, or gets a pivot row
abbrev pub IsStep : ℕ → ℕ → ℕ → (ℕ → Set) → (ℕ → Set) → List ℕ → List ℕ → List ℕ → List ℕ
    → Type 0
IsStep u r i bits bits_now pivots leads pivots_now leads_now =
    IsLeft u r i bits bits_now pivots leads pivots_now leads_now
    ⊎ ((t : ℕ) × IsTaken u r i t bits bits_now pivots leads pivots_now leads_now)

-- a stage, by lists: each unknown from i on is still free
pub record IsStageIn (u r i : ℕ) (first now : ℕ → Set) (pivots leads : List ℕ) : Type 0 where
  pub pivot_count : length pivots ≡ u
  pub lead_count : length leads ≡ r
  pub later : (p : ℕ) → i ≤ p → p < u → pivot_row r pivots p ≡ r
  pub stage : IsStage u r i first now (pivot_row r pivots) (lead_of u leads)

-- a stage at which the unknowns below i are eliminated has become one for those below `end`
abbrev pub Advances : ℕ → ℕ → ℕ → ℕ → (ℕ → Set) → (ℕ → Set) → List ℕ → List ℕ → List ℕ → List ℕ
    → Type 0
Advances u r i end bits bits_now pivots leads pivots_now leads_now = (first : ℕ → Set)
    → IsStageIn u r i first bits pivots leads
    → IsStageIn u r end first bits_now pivots_now leads_now

-- unknown f is free, and none below it is
pub record IsFirstFree (r : ℕ) (pivots : List ℕ) (f : ℕ) : Type 0 where
  pub below : f < length pivots
  pub is_free : r ≤ pivot_row r pivots f
  pub others : (p : ℕ) → p < f → pivot_row r pivots p < r

-- each unknown has a pivot row
abbrev pub AllPivots : ℕ → List ℕ → Type 0
AllPivots r pivots = (p : ℕ) → p < length pivots → pivot_row r pivots p < r

-- the bits of the pivot row of p before p
abbrev pub before : (ℕ → Set) → (ℕ → ℕ) → ℕ → Set
before bits pivot_row p c = ltb c p && bits (pivot_row p) c

-- the bits of the pivot row of p behind p
abbrev pub behind : (ℕ → Set) → (ℕ → ℕ) → ℕ → Set
behind bits pivot_row p c = ltb p c && bits (pivot_row p) c

-- the flags of the null set of f: f, none behind it, and each unknown before it that its pivot row
-- gives
pub record IsNullFlags (u : ℕ) (bits : ℕ → Set) (pivot_row : ℕ → ℕ) (f : ℕ) (flags : List Bool)
    : Type 0 where
  pub count : length flags ≡ u
  pub free : flagged flags f ≡ true
  pub none : (c : ℕ) → f < c → flagged flags c ≡ false
  pub back : (p : ℕ) → p < f
      → flagged flags p ≡ product false bool_xor u (behind bits pivot_row p) (flagged flags)

-- each symbol, with those before it that went into its pivot row and the values behind it that its
-- row has
abbrev pub AreSubstituted : ℕ → ℕ → (ℕ → Set) → (ℕ → ℕ) → List ℕ → List ℕ → Type 0
AreSubstituted u len bits pivot_row symbols values = (p t : ℕ) → p < u → t < len
    → byte_in len values t p
    ≡ bit_xor (bit_xor (byte_in len symbols t p)
    (product 0 bit_xor u (before bits pivot_row p) (byte_in len symbols t)))
    (product 0 bit_xor u (behind bits pivot_row p) (byte_in len values t))

-- byte t of the value of p: that of its pivot row's sum, with those of the rows that went into it,
-- and with those of the values behind p that it has
abbrev pub IsValue : ℕ → ℕ → (ℕ → Set) → (ℕ → ℕ) → List (List ℕ) → List ℕ → ℕ → ℕ → Type 0
IsValue u len bits pivot_row sums values p t = byte_in len values t p
    ≡ bit_xor (bit_xor (sum_byte sums t (pivot_row p))
    (product 0 bit_xor u (before bits pivot_row p) (λ c. sum_byte sums t (pivot_row c))))
    (product 0 bit_xor u (behind bits pivot_row p) (byte_in len values t))

-- each byte of each value is as the rows say
abbrev pub AreValues : ℕ → ℕ → (ℕ → Set) → (ℕ → ℕ) → List (List ℕ) → List ℕ → Type 0
AreValues u len bits pivot_row sums values =
    (p t : ℕ) → p < u → t < len → IsValue u len bits pivot_row sums values p t

-- byte t of the sum of row j, with those of the pivot rows that went into it
abbrev pub rest_byte : ℕ → (ℕ → Set) → (ℕ → ℕ) → List (List ℕ) → ℕ → ℕ → ℕ
rest_byte u bits pivot_row sums t j = bit_xor (sum_byte sums t j)
    (product 0 bit_xor u (bits j) (λ p. sum_byte sums t (pivot_row p)))
