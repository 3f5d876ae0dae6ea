-- Bytes of a lane as it stands in the whole, and the test of a lane by its mask.
use Rattle.std.proofs.Common.{◌≡◌, ℕ, suc, ◌+◌, ◌-◌, ◌<◌, ◌≤◌, Bool, true, false, not, List, []}
use Rattle.std.proofs.Common.{◌∷◌, length, get_or, map, refl, sym, ap, ◌∙◌, arith, bit_xor}
use Rattle.std.proofs.Common.{eqb-true}
use Rattle.std.proofs.lemmas.List.{ext_get_or}
use Rattle.std.specs.Prelude.{nat_eq}
use Rattle.std.specs.Simd.Lanes.{zip2}
use Rattle.std.proofs.lemmas.Simd.{length-zip2, length-chunk, get_or-chunk, get_or-zip2}
use Rattle.std.proofs.lemmas.Simd.{get_or-put_chunk_below, get_or-put_chunk_at}
use Rattle.std.proofs.lemmas.Simd.{get_or-put_chunk_above, none_from_empty_mask}
use lib.Lanes.{chunk, put_chunk, mask_l}
use Rattle.fec_base.specs.Symbol.{zero_symbol}
use Rattle.fec_base.proofs.SymbolBytes.{length_zero, byte_zero}

not-false : (b : Bool) → not b ≡ false → b ≡ true
not-false true e = refl
not-false false e = absurd (cc e)

-- the lane of a sum, as it stands in the whole
abbrev pub summed : ℕ → List ℕ → List ℕ → List ℕ
summed at d s = put_chunk at d (zip2 bit_xor (chunk at 32 d) (chunk at 32 s))

pub length_lane : (at : ℕ) (d s : List ℕ) → at + 32 ≤ length d → at + 32 ≤ length s
    → length (zip2 bit_xor (chunk at 32 d) (chunk at 32 s)) ≡ 32
length_lane at d s hd hs = length-zip2 bit_xor (chunk at 32 d) (chunk at 32 s)
    (length-chunk at 32 d hd ∙ sym (length-chunk at 32 s hs)) ∙ length-chunk at 32 d hd

pub summed_below : (at : ℕ) (d s : List ℕ) → (k : ℕ) → k < at
    → get_or (summed at d s) k 0 ≡ get_or d k 0
summed_below at d s k lt = get_or-put_chunk_below at d
    (zip2 bit_xor (chunk at 32 d) (chunk at 32 s)) k 0 lt

pub summed_above : (at : ℕ) (d s : List ℕ) → at + 32 ≤ length d → at + 32 ≤ length s → (k : ℕ)
    → at + 32 ≤ k → get_or (summed at d s) k 0 ≡ get_or d k 0
summed_above at d s hd hs k le = get_or-put_chunk_above at d
    (zip2 bit_xor (chunk at 32 d) (chunk at 32 s)) k 0 (omega (arith, length_lane at d s hd hs))

pub summed_in : (at : ℕ) (d s : List ℕ) → at + 32 ≤ length d → at + 32 ≤ length s → (k : ℕ) → at ≤ k
    → k < at + 32 → get_or (summed at d s) k 0 ≡ bit_xor (get_or d k 0) (get_or s k 0)
summed_in at d s hd hs k le lt =
    let j : ℕ = k - at in
    let is : at + j ≡ k = omega arith in
    let lane : List ℕ = zip2 bit_xor (chunk at 32 d) (chunk at 32 s) in
    let long : length lane ≡ 32 = length_lane at d s hd hs in
    let there : get_or (put_chunk at d lane) (at + j) 0 ≡ get_or lane j 0 = get_or-put_chunk_at at d
    lane j 0 (omega arith) (omega arith) in
    let lanes : get_or lane j 0 ≡ bit_xor (get_or (chunk at 32 d) j 0)
    (get_or (chunk at 32 s) j 0) =
    get_or-zip2 bit_xor (chunk at 32 d) (chunk at 32 s) j 0 0 0
    (omega (arith, length-chunk at 32 d hd)) (omega (arith, length-chunk at 32 s hs)) in
    let left : get_or (chunk at 32 d) j 0 ≡ get_or d (at + j) 0 = get_or-chunk at 32 d j 0
    (omega arith) in
    let right : get_or (chunk at 32 s) j 0 ≡ get_or s (at + j) 0 = get_or-chunk at 32 s j 0
    (omega arith) in
    ap (λ n. get_or (put_chunk at d lane) n 0) (sym is) ∙ there ∙ lanes
    ∙ ap (λ n. bit_xor n (get_or (chunk at 32 s) j 0)) left ∙ ap (bit_xor (get_or d (at + j) 0))
    right ∙ ap (λ n. bit_xor (get_or d n 0) (get_or s n 0)) is

-- no lane is set where none passes the test
pub no_mask : (p : ℕ → Bool) (xs : List ℕ) → ((k : ℕ) → k < length xs → p (get_or xs k 0) ≡ false)
    → mask_l (map p xs) ≡ 0
no_mask p [] h = refl
no_mask p (x ∷ xs) h = rw (h 0 (omega arith)) (rw (no_mask p xs (λ k lt. h (suc k) (omega arith)))
    refl)

pub zero_bytes : (s : List ℕ) → ((k : ℕ) → k < length s → get_or s k 0 ≡ 0)
    → s ≡ zero_symbol (length s)
zero_bytes s h = ext_get_or 0 s (zero_symbol (length s)) (sym (length_zero (length s)))
    (λ k lt. h k lt ∙ sym (byte_zero (length s) k))

pub bytes_zero : (s : List ℕ) → s ≡ zero_symbol (length s) → (k : ℕ) → get_or s k 0 ≡ 0
bytes_zero s e k = ap (λ (xs : List ℕ). get_or xs k 0) e ∙ byte_zero (length s) k

-- a lane of w bytes is zero where the mask of its other bytes is
pub lane_from_mask : (w at : ℕ) (s : List ℕ) → at + w ≤ length s
    → mask_l (map (λ x. not (nat_eq x 0)) (chunk at w s)) ≡ 0 → (k : ℕ) → at ≤ k → k < at + w
    → get_or s k 0 ≡ 0
lane_from_mask w at s room e k le lt = eqb-true (get_or s k 0) 0
    (not-false (nat_eq (get_or s k 0) 0)
    (none_from_empty_mask (λ x. not (nat_eq x 0)) s at w 0 room e k le lt))

pub mask_from_lane : (w at : ℕ) (s : List ℕ) → at + w ≤ length s
    → ((k : ℕ) → at ≤ k → k < at + w → get_or s k 0 ≡ 0)
    → mask_l (map (λ x. not (nat_eq x 0)) (chunk at w s)) ≡ 0
mask_from_lane w at s room h =
    no_mask (λ x. not (nat_eq x 0)) (chunk at w s)
    (λ j lt. let is : get_or (chunk at w s) j 0 ≡ 0 = get_or-chunk at w s j 0
    (omega (arith, length-chunk at w s room))
    ∙ h (at + j) (omega arith) (omega (arith, length-chunk at w s room)) in rw is refl)
