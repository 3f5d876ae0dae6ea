-- The sum of many symbols, as bytes and as symbols.
use Rattle.std.proofs.Common.{◌≡◌, ◌≢◌, ◌⊎◌, inl, inr, ℕ, suc, ◌+◌, ◌*◌, ◌<◌, ◌≤◌, List, [], ◌∷◌}
use Rattle.std.proofs.Common.{length, get_or, set, fold, All, refl, sym, ap, ap₂, ◌∙◌, ⊎_elim}
use Rattle.std.proofs.Common.{arith, bit_xor, ext_get_or, length-set, get_or-set_same}
use Rattle.std.proofs.Common.{get_or-set_other}
use Rattle.std.proofs.lemmas.Bool.{cases_lt}
use Rattle.std.proofs.lemmas.Simd.{length-chunk, get_or-chunk}
use lib.Lanes.{chunk}
use Rattle.fec_base.specs.Symbol.{xor}
use Rattle.fec_base.proofs.SymbolBytes.{length_xor, byte_xor}
use Rattle.xor_lanes.specs.Sums.{summed_byte}
use Rattle.symbol_arena.specs.Laid.{laid_symbols}
use Rattle.symbol_arena.proofs.Laid.{later, room_of, length_symbols, symbol_is}

-- symbols added one after another, byte by byte
byte_sum : (len : ℕ) (x : ℕ → List ℕ) (first : List ℕ) → length first ≡ len → (columns : List ℕ)
    → All (λ c. length (x c) ≡ len) columns
    → (length (fold (λ s c. xor s (x c)) first columns) ≡ len)
    × ((j : ℕ) → get_or (fold (λ s c. xor s (x c)) first columns) j 0
    ≡ fold (λ s c. bit_xor s (get_or (x c) j 0)) (get_or first j 0) columns)
byte_sum len x first e [] h = (e, λ j. refl)
byte_sum len x first e (c ∷ columns) h =
    let here : length (x c) ≡ len = h 0 0 (omega arith) in
    let rest = byte_sum len x (xor first (x c)) (length_xor first (x c) (e ∙ sym here) ∙ e) columns
    (λ i d lt. h (suc i) d (omega arith)) in (
      rest.0,
      λ j. rest.1 j ∙ ap (λ (b : ℕ). fold (λ s d. bit_xor s (get_or (x d) j 0)) b columns)
          (byte_xor first (x c) (e ∙ sym here) j),
    )

same_sum : (f g : ℕ → ℕ) (a b : ℕ) → a ≡ b → (columns : List ℕ) → All (λ c. f c ≡ g c) columns
    → fold (λ s c. bit_xor s (f c)) a columns ≡ fold (λ s c. bit_xor s (g c)) b columns
same_sum f g a b e [] h = e
same_sum f g a b e (c ∷ columns) h = same_sum f g (bit_xor a (f c)) (bit_xor b (g c))
    (ap₂ bit_xor e (h 0 0 (omega arith))) columns (λ i d lt. h (suc i) d (omega arith))

module _ (count stride len : ℕ) (bytes after : List ℕ) (own : ℕ) (columns : List ℕ)
    (whole : length bytes ≡ count * stride) (fits : len ≤ stride) (lt : own < count)
    (long : length after ≡ length bytes)
    (inside : All (λ c. c < count) columns)
    (sum : (j : ℕ) → j < stride → get_or after (own * stride + j) 0 ≡ summed_byte bytes stride own
    columns j)
    (rest : (k : ℕ) → (k < own * stride) ⊎ (own * stride + stride ≤ k)
    → get_or after k 0 ≡ get_or bytes k 0) where
  abbrev all : List (List ℕ)
  all = laid_symbols count stride len bytes

  abbrev total : List ℕ
  total = fold (λ s c. xor s (get_or all c [])) (get_or all own []) columns

  long_at : (s : ℕ) → s < count → length (get_or all s []) ≡ len
  long_at s below = ap length (symbol_is count stride len bytes s below)
      ∙ length-chunk (s * stride) len bytes (room_of count stride len bytes s whole fits below)

  byte_at : (s : ℕ) → s < count → (j : ℕ) → j < len → get_or (get_or all s []) j 0 ≡ get_or bytes
      (s * stride + j) 0
  byte_at s below j short = ap (λ (ys : List ℕ). get_or ys j 0) (symbol_is count stride len bytes s
      below) ∙ get_or-chunk (s * stride) len bytes j 0 short

  is_sum : (length total ≡ len) × ((j : ℕ)
      → get_or total j 0 ≡ fold (λ s c. bit_xor s (get_or (get_or all c []) j 0))
      (get_or (get_or all own []) j 0) columns)
  is_sum = byte_sum len (λ c. get_or all c []) (get_or all own []) (long_at own lt) columns
      (λ i d below. long_at (get_or columns i d) (inside i d below))

  after_room : (s : ℕ) → s < count → s * stride + len ≤ length after
  after_room s below = omega (arith, long, room_of count stride len bytes s whole fits below)

  own_after : chunk (own * stride) len after ≡ total
  own_after = ext_get_or 0 (chunk (own * stride) len after) total
      (length-chunk (own * stride) len after (after_room own lt) ∙ sym is_sum.0)
      (λ j below. let short : j < len = omega
      (arith, length-chunk (own * stride) len after (after_room own lt)) in
      get_or-chunk (own * stride) len after j 0 short ∙ sum j (omega arith)
      ∙ sym (is_sum.1 j ∙ same_sum (λ c. get_or (get_or all c []) j 0)
      (λ c. get_or bytes (c * stride + j) 0) (get_or (get_or all own []) j 0)
      (get_or bytes (own * stride + j) 0) (byte_at own lt j short) columns
      (λ i d at. byte_at (get_or columns i d) (inside i d at) j short)))

  other_after : (i : ℕ) → i < count → (i < own) ⊎ (own < i)
      → chunk (i * stride) len after ≡ chunk (i * stride) len bytes
  other_after i below side = ext_get_or 0 (chunk (i * stride) len after)
      (chunk (i * stride) len bytes) (length-chunk (i * stride) len after (after_room i below)
      ∙ sym (length-chunk (i * stride) len bytes (room_of count stride len bytes i whole fits
      below)))
      (λ j lj. let short : j < len = omega
      (arith, length-chunk (i * stride) len after (after_room i below)) in
      get_or-chunk (i * stride) len after j 0 short
      ∙ ⊎_elim (λ (low : i < own). rest (i * stride + j)
      (inl (omega (arith, later stride i own low)))) (λ (high : own < i). rest (i * stride + j)
      (inr (omega (arith, later stride own i high)))) side
      ∙ sym (get_or-chunk (i * stride) len bytes j 0 short))

  pub summed_symbols : laid_symbols count stride len after ≡ set all own total
  summed_symbols =
      ext_get_or [] (laid_symbols count stride len after) (set all own total)
      (length_symbols count stride len after
      ∙ sym (length-set all own total ∙ length_symbols count stride len bytes))
      (λ i below. let li : i < count = omega (arith, length_symbols count stride len after) in
      symbol_is count stride len after i li ∙ at i li)
    where
      other : (i : ℕ) → i < count → (i < own) ⊎ (own < i) → i ≢ own
          → chunk (i * stride) len after ≡ get_or (set all own total) i []
      other i li side ne = other_after i li side ∙ sym (symbol_is count stride len bytes i li)
          ∙ sym (get_or-set_other all own i total [] ne)

      at : (i : ℕ) → i < count → chunk (i * stride) len after ≡ get_or (set all own total) i []
      at i li =
          ⊎_elim (λ (low : i < own). other i li (inl low) (λ e. absurd (omega (arith, e))))
          (λ (le : own ≤ i). ⊎_elim (λ (high : own < i). other i li (inr high)
          (λ e. absurd (omega (arith, e))))
          (λ (back : i ≤ own). let is : own ≡ i = omega arith in
          ap (λ (k : ℕ). chunk (k * stride) len after) (sym is) ∙ own_after
          ∙ sym (ap (λ (k : ℕ). get_or (set all own total) k []) (sym is)
          ∙ get_or-set_same all own total []
          (omega (arith, length_symbols count stride len bytes)))) (cases_lt own i))
          (cases_lt i own)
