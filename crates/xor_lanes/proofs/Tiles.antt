-- A tile of w bytes: one symbol more in its sum, the sum as it is written, and what a sum reads.
use Rattle.std.proofs.Common.{◌≡◌, ◌≢◌, ◌⊎◌, inl, inr, ℕ, suc, ◌+◌, ◌-◌, ◌*◌, ◌<◌, ◌≤◌, List, []}
use Rattle.std.proofs.Common.{◌∷◌, length, get_or, take, fold, All, sym, ap, ap₂, ◌∙◌, ⊎_elim}
use Rattle.std.proofs.Common.{arith, bit_xor}
use Rattle.std.proofs.lemmas.Bool.{cases_lt}
use Rattle.std.proofs.lemmas.List.Sums.{fold_more}
use Rattle.std.proofs.lemmas.Simd.{length-chunk, get_or-chunk, get_or-zip2, get_or-put_chunk_below}
use Rattle.std.proofs.lemmas.Simd.{get_or-put_chunk_at, get_or-put_chunk_above}
use Rattle.std.specs.Simd.Lanes.{zip2}
use native.Mathlib.Nat.{mul-le-mul_right, suc-mul}
use lib.Lanes.{chunk, put_chunk}
use Rattle.xor_lanes.specs.Sums.{summed_byte}

-- the places of one symbol and of another one don't meet
pub meets_not : (stride c own j : ℕ) → c ≢ own → j < stride → (c * stride + j < own * stride)
    ⊎ (own * stride + stride ≤ c * stride + j)
meets_not stride c own j other lt =
    ⊎_elim (λ (low : c < own). inl (omega (arith, later c own low)))
    (λ (le : own ≤ c). inr (omega (arith, later own c (omega (arith, other))))) (cases_lt c own)
  where
    later : (i k : ℕ) → i < k → i * stride + stride ≤ k * stride
    later i k low = let step : suc i * stride ≡ i * stride + stride = suc-mul i stride in
        let le : suc i * stride ≤ k * stride = mul-le-mul_right stride (omega arith) in omega arith

module _ (w : ℕ) (all : List ℕ) (stride own at : ℕ) (columns : List ℕ) where
  -- the tile as it begins
  pub tile_first : own * stride + at + w ≤ length all → (j : ℕ) → j < w
      → get_or (chunk (own * stride + at) w all) j 0 ≡ summed_byte all stride own (take 0 columns)
      (at + j)
  tile_first room j lt = let place : own * stride + at + j ≡ own * stride + (at + j) =
      omega arith in get_or-chunk (own * stride + at) w all j 0 lt ∙ ap (λ (k : ℕ). get_or all k 0)
      place

  -- one symbol more
  pub tile_next : (i : ℕ) → i < length columns → (sum : List ℕ) → length sum ≡ w
      → ((j : ℕ) → j < w → get_or sum j 0 ≡ summed_byte all stride own (take i columns) (at + j))
      → get_or columns i 0 * stride + at + w ≤ length all
      → (j : ℕ) → j < w → get_or (zip2 bit_xor sum (chunk (get_or columns i 0 * stride + at) w all))
      j 0 ≡ summed_byte all stride own (take (i + 1) columns) (at + j)
  tile_next i lt sum long is room j inside =
      let c : ℕ = get_or columns i 0 in
      let from : ℕ = c * stride + at in
      let place : from + j ≡ c * stride + (at + j) = omega arith in
      get_or-zip2 bit_xor sum (chunk from w all) j 0 0 0 (omega (arith, long))
      (omega (arith, length-chunk from w all room))
      ∙ ap₂ bit_xor (is j inside) (get_or-chunk from w all j 0 inside
      ∙ ap (λ (k : ℕ). get_or all k 0) place)
      ∙ sym (fold_more (λ (s column : ℕ). bit_xor s (get_or all (column * stride + (at + j)) 0))
      (get_or all (own * stride + (at + j)) 0) columns i 0 lt)

-- a tile as it is written, and what lies beside it
pub tile_in : (all sum : List ℕ) (at w : ℕ) → length sum ≡ w → at + w ≤ length all → (j : ℕ) → j < w
    → get_or (put_chunk at all sum) (at + j) 0 ≡ get_or sum j 0
tile_in all sum at w long room j lt = get_or-put_chunk_at at all sum j 0 (omega arith) (omega arith)

pub tile_out : (all sum : List ℕ) (at w : ℕ) → length sum ≡ w → (k : ℕ) → (k < at) ⊎ (at + w ≤ k)
    → get_or (put_chunk at all sum) k 0 ≡ get_or all k 0
tile_out all sum at w long k out =
    ⊎_elim (λ (low : k < at). get_or-put_chunk_below at all sum k 0 low)
    (λ (high : at + w ≤ k). get_or-put_chunk_above at all sum k 0 (omega (arith, long))) out

-- a sum reads what is the same
pub same_sum : (f g : ℕ → ℕ) (a b : ℕ) → a ≡ b → (columns : List ℕ) → All (λ c. f c ≡ g c) columns
    → fold (λ s c. bit_xor s (f c)) a columns ≡ fold (λ s c. bit_xor s (g c)) b columns
same_sum f g a b e [] h = e
same_sum f g a b e (c ∷ columns) h = same_sum f g (bit_xor a (f c)) (bit_xor b (g c))
    (ap₂ bit_xor e (h 0 0 (omega arith))) columns (λ i d lt. h (suc i) d (omega arith))

module _ (all : List ℕ) (stride own at : ℕ) (columns : List ℕ)
    (others : All (λ column. column ≢ own) columns) (start : List ℕ)
    (done : (j : ℕ) → j < at → get_or all (own * stride + j) 0 ≡ summed_byte start stride own
    columns j)
    (rest : (k : ℕ) → (k < own * stride) ⊎ (own * stride + at ≤ k)
    → get_or all k 0 ≡ get_or start k 0) where
  -- the symbols of the columns and the tile are as they were
  same_start : (j : ℕ) → at ≤ j → j < stride → summed_byte all stride own columns j ≡ summed_byte
      start stride own columns j
  same_start j le lt =
      same_sum (λ c. get_or all (c * stride + j) 0) (λ c. get_or start (c * stride + j) 0)
      (get_or all (own * stride + j) 0) (get_or start (own * stride + j) 0)
      (rest (own * stride + j) (inr (omega arith))) columns
      (λ i d inside. ⊎_elim (λ low. rest (get_or columns i d * stride + j) (inl low))
      (λ high. rest (get_or columns i d * stride + j) (inr (omega arith)))
      (meets_not stride (get_or columns i d) own j (others i d inside) lt))

  module _ (w : ℕ) (room : at + w ≤ stride) (new : List ℕ)
      (sum : (j : ℕ) → j < w → get_or new (own * stride + at + j) 0 ≡ summed_byte all stride own
      columns (at + j))
      (kept : (k : ℕ) → (k < own * stride + at) ⊎ (own * stride + at + w ≤ k)
      → get_or new k 0 ≡ get_or all k 0) where
    -- one tile more
    pub tiles_done : (j : ℕ) → j < at + w → get_or new (own * stride + j) 0 ≡ summed_byte start
        stride own columns j
    tiles_done j lt =
        ⊎_elim (λ (low : j < at). kept (own * stride + j) (inl (omega arith)) ∙ done j low)
        (λ (high : at ≤ j). let i : ℕ = j - at in let is : at + i ≡ j = omega arith in
        let place : own * stride + j ≡ own * stride + at + i = omega arith in
        ap (λ (k : ℕ). get_or new k 0) place ∙ sum i (omega arith)
        ∙ ap (summed_byte all stride own columns) is ∙ same_start j high (omega arith))
        (cases_lt j at)

    pub tiles_rest : (k : ℕ) → (k < own * stride) ⊎ (own * stride + (at + w) ≤ k)
        → get_or new k 0 ≡ get_or start k 0
    tiles_rest k out =
        ⊎_elim (λ (low : k < own * stride). kept k (inl (omega arith)) ∙ rest k (inl low))
        (λ (high : own * stride + (at + w) ≤ k). kept k (inr (omega arith))
        ∙ rest k (inr (omega arith))) out
