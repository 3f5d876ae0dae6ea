-- Symbols in one block: where each lies, and what a write to one changes.
use Rattle.std.proofs.Common.{◌≡◌, ◌≢◌, ℕ, suc, ◌+◌, ◌*◌, ◌<◌, ◌≤◌, ◌⊎◌, inl, inr, ⊎_elim, List, []}
use Rattle.std.proofs.Common.{length, take, drop, get_or, set, replicate, sym, ap, subst, ◌∙◌}
use Rattle.std.proofs.Common.{arith, le_refl, length-take-le, length-set, get_or-set_same}
use Rattle.std.proofs.Common.{get_or-set_other, ext_get_or}
use Rattle.std.proofs.lemmas.List.{length-map, length-replicate, get_or-replicate, get_or-take}
use Rattle.std.proofs.lemmas.List.{take-take}
use Rattle.std.proofs.lemmas.List.FromFn.{get_or-map-range_with_len, length-range_with_len}
use Rattle.std.specs.List.{range_with_len}
use Rattle.std.proofs.lemmas.Bool.{cases_lt}
use Rattle.std.proofs.lemmas.Simd.{length-chunk, get_or-chunk, length-put_chunk}
use Rattle.std.proofs.lemmas.Simd.{get_or-put_chunk_below, get_or-put_chunk_at}
use Rattle.std.proofs.lemmas.Simd.{get_or-put_chunk_above}
use native.Mathlib.Nat.{mul-le-mul_right, suc-mul}
use lib.Lanes.{chunk, put_chunk}
use Rattle.symbol_arena.specs.Laid.{laid_symbols}

-- a later symbol begins at least a stride later
pub later : (stride i j : ℕ) → i < j → i * stride + stride ≤ j * stride
later stride i j lt =
    let step : suc i * stride ≡ i * stride + stride = suc-mul i stride in
    let le : suc i * stride ≤ j * stride = mul-le-mul_right stride (omega arith) in
    omega arith

pub apart_of : (stride len i j : ℕ) → len ≤ stride → i ≢ j → (i * stride + len ≤ j * stride)
    ⊎ (j * stride + len ≤ i * stride)
apart_of stride len i j fits ne =
    ⊎_elim (λ (lt : i < j). inl (omega (arith, later stride i j lt)))
    (λ (le : j ≤ i). inr (omega (arith, later stride j i (omega (arith, ne))))) (cases_lt i j)

pub room_of : (count stride len : ℕ) (bytes : List ℕ) (s : ℕ) → length bytes ≡ count * stride
    → len ≤ stride → s < count → s * stride + len ≤ length bytes
room_of count stride len bytes s whole fits lt = omega (arith, later stride s count lt)

pub length_symbols : (count stride len : ℕ) (bytes : List ℕ)
    → length (laid_symbols count stride len bytes) ≡ count
length_symbols count stride len bytes = length-map (range_with_len 0 count)
    (λ s. chunk (s * stride) len bytes) ∙ length-range_with_len 0 count

pub symbol_is : (count stride len : ℕ) (bytes : List ℕ) (s : ℕ) → s < count
    → get_or (laid_symbols count stride len bytes) s [] ≡ chunk (s * stride) len bytes
symbol_is count stride len bytes s lt = get_or-map-range_with_len
    (λ i. chunk (i * stride) len bytes) 0 count s s [] lt (omega arith)

-- as many bytes as a symbol has, or some of those behind it too, are written from the start of
-- symbol s
module _ (count stride len : ℕ) (bytes ws : List ℕ) (s : ℕ) (whole : length bytes ≡ count * stride)
    (lt : s < count) (some : len ≤ length ws) (most : length ws ≤ stride) where
  abbrev after : List ℕ
  after = put_chunk (s * stride) bytes ws

  fits : len ≤ stride
  fits = omega arith

  room : s * stride + stride ≤ length bytes
  room = room_of count stride stride bytes s whole (le_refl stride) lt

  kept : length after ≡ length bytes
  kept = length-put_chunk (s * stride) bytes ws

  same : chunk (s * stride) len after ≡ take len ws
  same =
      ext_get_or 0 (chunk (s * stride) len after) (take len ws) (length-chunk (s * stride) len after
      (omega (arith, room, kept)) ∙ sym (length-take-le len ws some))
      (λ k below. let k' : k < len = omega
      (arith, length-chunk (s * stride) len after (omega (arith, room, kept))) in
      get_or-chunk (s * stride) len after k 0 k' ∙ get_or-put_chunk_at (s * stride) bytes ws k 0
      (omega arith) (omega (arith, room)) ∙ sym (get_or-take len ws k 0 k'))

  other : (i : ℕ) → i < count → i ≢ s → chunk (i * stride) len after ≡ chunk (i * stride) len bytes
  other i li ne =
      let here : i * stride + len ≤ length bytes = room_of count stride len bytes i whole fits li in
      let count_after : length (chunk (i * stride) len after) ≡ len = length-chunk (i * stride) len
      after (omega (arith, kept)) in
      ext_get_or 0 (chunk (i * stride) len after) (chunk (i * stride) len bytes) (count_after
      ∙ sym (length-chunk (i * stride) len bytes here))
      (λ k below. let k' : k < len = omega (arith, count_after) in
      get_or-chunk (i * stride) len after k 0 k' ∙ ⊎_elim
      (λ (before : i * stride + stride ≤ s * stride). get_or-put_chunk_below (s * stride) bytes ws
      (i * stride + k) 0 (omega arith))
      (λ (past : s * stride + stride ≤ i * stride). get_or-put_chunk_above (s * stride) bytes ws
      (i * stride + k) 0 (omega arith)) (apart_of stride stride i s (le_refl stride) ne)
      ∙ sym (get_or-chunk (i * stride) len bytes k 0 k'))

  at : (i : ℕ) → i < count → chunk (i * stride) len after
      ≡ get_or (set (laid_symbols count stride len bytes) s (take len ws)) i []
  at i li =
      let all = laid_symbols count stride len bytes in
      let n : length all ≡ count = length_symbols count stride len bytes in
      let elsewhere : (ne : i ≢ s) → chunk (i * stride) len after ≡ get_or (set all s (take len ws))
      i [] =
      λ ne. other i li ne ∙ sym (symbol_is count stride len bytes i li)
      ∙ sym (get_or-set_other all s i (take len ws) [] ne) in
      ⊎_elim (λ (below : i < s). elsewhere (λ e. absurd (omega (arith, e))))
      (λ (from : s ≤ i). ⊎_elim (λ (past : s < i). elsewhere (λ e. absurd (omega (arith, e))))
      (λ (le : i ≤ s). let is : s ≡ i = omega arith in
      subst (λ (k : ℕ). chunk (k * stride) len after ≡ get_or (set all s (take len ws)) k []) is
      (same ∙ sym (get_or-set_same all s (take len ws) [] (omega (arith, n, lt)))))
      (cases_lt s i)) (cases_lt i s)

  pub put_symbol : laid_symbols count stride len after ≡ set (laid_symbols count stride len bytes) s
      (take len ws)
  put_symbol =
      let all = laid_symbols count stride len bytes in
      let n : length all ≡ count = length_symbols count stride len bytes in
      ext_get_or [] (laid_symbols count stride len after) (set all s (take len ws))
      (length_symbols count stride len after ∙ sym (length-set all s (take len ws) ∙ n))
      (λ i below. let li : i < count = omega (arith, length_symbols count stride len after) in
      symbol_is count stride len after i li ∙ at i li)

pub zero_symbols : (count stride len : ℕ) → len ≤ stride
    → laid_symbols count stride len (replicate (count * stride) 0) ≡ replicate count
    (replicate len 0)
zero_symbols count stride len fits =
    let bytes : List ℕ = replicate (count * stride) 0 in
    let whole : length bytes ≡ count * stride = length-replicate (count * stride) 0 in
    ext_get_or [] (laid_symbols count stride len bytes) (replicate count (replicate len 0))
    (length_symbols count stride len bytes ∙ sym (length-replicate count (replicate len 0)))
    (λ i below. let li : i < count = omega (arith, length_symbols count stride len bytes) in
    let here : i * stride + len ≤ length bytes = room_of count stride len bytes i whole fits li in
    symbol_is count stride len bytes i li
    ∙ ext_get_or 0 (chunk (i * stride) len bytes) (replicate len 0)
    (length-chunk (i * stride) len bytes here ∙ sym (length-replicate len 0))
    (λ k lk. let k' : k < len = omega (arith, length-chunk (i * stride) len bytes here) in
    get_or-chunk (i * stride) len bytes k 0 k' ∙ get_or-replicate (count * stride) (i * stride + k)
    0 0 (omega arith) ∙ sym (get_or-replicate len k 0 0 k'))
    ∙ sym (get_or-replicate count i (replicate len 0) [] li))

-- what a function knows of the symbols that it is given
pub count_is : (count stride len : ℕ) (bytes : List ℕ) (all : List (List ℕ))
    → laid_symbols count stride len bytes ≡ all → length all ≡ count
count_is count stride len bytes all v = ap length (sym v) ∙ length_symbols count stride len bytes

pub symbol_of : (count stride len : ℕ) (bytes : List ℕ) (all : List (List ℕ)) (s : ℕ)
    → laid_symbols count stride len bytes ≡ all → s < length all
    → get_or all s [] ≡ chunk (s * stride) len bytes
symbol_of count stride len bytes all s v lt = ap (λ (xs : List (List ℕ)). get_or xs s []) (sym v)
    ∙ symbol_is count stride len bytes s (omega (arith, count_is count stride len bytes all v))

pub place_of : (count stride len : ℕ) (bytes : List ℕ) (all : List (List ℕ)) (s : ℕ)
    → laid_symbols count stride len bytes ≡ all → length bytes ≡ count * stride → len ≤ stride
    → s < length all → s * stride + len ≤ length bytes
place_of count stride len bytes all s v whole fits lt = room_of count stride len bytes s whole fits
    (omega (arith, count_is count stride len bytes all v))

pub symbol_long : (count stride len : ℕ) (bytes : List ℕ) (all : List (List ℕ)) (s : ℕ)
    → laid_symbols count stride len bytes ≡ all → length bytes ≡ count * stride → len ≤ stride
    → s < length all → length (get_or all s []) ≡ len
symbol_long count stride len bytes all s v whole fits lt =
    ap length (symbol_of count stride len bytes all s v lt) ∙ length-chunk (s * stride) len bytes
    (place_of count stride len bytes all s v whole fits lt)

pub put_of : (count stride len : ℕ) (bytes ws : List ℕ) (all : List (List ℕ)) (s : ℕ)
    → laid_symbols count stride len bytes ≡ all → length bytes ≡ count * stride → s < length all
    → len ≤ length ws → length ws ≤ stride
    → laid_symbols count stride len (put_chunk (s * stride) bytes ws) ≡ set all s (take len ws)
put_of count stride len bytes ws all s v whole lt some most =
    put_symbol count stride len bytes ws s whole
    (omega (arith, lt, count_is count stride len bytes all v)) some most
    ∙ ap (λ (xs : List (List ℕ)). set xs s (take len ws)) v

-- the part of a symbol begins with it
pub part_is : (count stride len : ℕ) (bytes : List ℕ) (all : List (List ℕ)) (s : ℕ)
    → laid_symbols count stride len bytes ≡ all → len ≤ stride → s < length all
    → take len (chunk (s * stride) stride bytes) ≡ get_or all s []
part_is count stride len bytes all s v fits lt = take-take len stride (drop (s * stride) bytes) fits
    ∙ sym (symbol_of count stride len bytes all s v lt)

-- and lies within the block
pub part_room : (count stride len : ℕ) (bytes : List ℕ) (all : List (List ℕ)) (s : ℕ)
    → laid_symbols count stride len bytes ≡ all → length bytes ≡ count * stride → s < length all
    → s * stride + stride ≤ length bytes
part_room count stride len bytes all s v whole lt = room_of count stride stride bytes s whole
    (le_refl stride) (omega (arith, lt, count_is count stride len bytes all v))
