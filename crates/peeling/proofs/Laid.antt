-- Symbols of positions, with a flag each, and one symbol put in the place of another.
use mathlib.Core.Path.{fun_ext}
use Rattle.std.proofs.Common.{true≢false, Fits, w8, rules, ◌≡◌, ℕ, zero, suc, ◌<◌, ⊎_elim, Bool}
use Rattle.std.proofs.Common.{true, false, cond, ◌==◌, List, [], ◌∷◌, length, min, take, get_or}
use Rattle.std.proofs.Common.{set, replicate, All, refl, sym, ap, ◌∙◌, arith, eqb-true, eq-eqb}
use Rattle.std.proofs.Common.{◌||◌, length-set, get_or-set_same, get_or-set_other}
use Rattle.std.proofs.lemmas.List.Elements.{All-from_get_or, All-set}
use Rattle.std.proofs.lemmas.List.{length-take, get_or-take}
use Rattle.sparse_rows.proofs.Planes.{symbol_at_is}
use Rattle.fec_base.specs.Symbol.{IsSymbol, zero_symbol}
use Rattle.sparse_rows.specs.Codeword.{symbol_at}
use Rattle.sparse_rows.specs.Closure.{flagged, adding}
use Rattle.peeling.specs.Peeled.{IsLaid}
use Rattle.sparse_rows.proofs.Sets.{true_or_false}
use Rattle.peeling.proofs.Flags.{flagged_set}

-- bytes are below 256
pub bytes_small : (bytes : List ℕ) → ((i : ℕ) → Fits w8 (get_or bytes i 0))
    → All (λ b. b < 256) bytes
bytes_small bytes fits = All-from_get_or (λ b. b < 256) bytes 0
    (λ i lt. let h : Fits w8 (get_or bytes i 0) = fits i in search (rules, h))

-- a default doesn't matter where a symbol is
pub symbol_there : (len : ℕ) (symbols : List (List ℕ)) (c : ℕ) → c < length symbols
    → get_or symbols c [] ≡ symbol_at len symbols c
symbol_there len [] c lt = absurd (omega arith)
symbol_there len (s ∷ symbols) zero lt = refl
symbol_there len (s ∷ symbols) (suc c) lt = symbol_there len symbols c (omega arith)

pub zeros_at : (len n c : ℕ) → symbol_at len (replicate n (zero_symbol len)) c ≡ zero_symbol len
zeros_at len zero c = refl
zeros_at len (suc n) zero = refl
zeros_at len (suc n) (suc c) = zeros_at len n c

-- one symbol put in the place of another
abbrev pub keeping : ℕ → List ℕ → (ℕ → List ℕ) → ℕ → List ℕ
keeping e symbol x c = cond (e == c) symbol (x c)

pub symbols_put : (len : ℕ) (symbols : List (List ℕ)) (symbol : List ℕ) (e : ℕ) → e < length symbols
    → symbol_at len (set symbols e symbol) ≡ keeping e symbol (symbol_at len symbols)
symbols_put len symbols symbol e inside = fun_ext (λ c. ⊎_elim
    (λ (same : (e == c) ≡ true). let z : e ≡ c = eqb-true e c same in
    ap (λ i. symbol_at len (set symbols e symbol) i) (sym z) ∙ get_or-set_same symbols e symbol
    (zero_symbol len) inside ∙ sym (ap (λ b. cond b symbol (symbol_at len symbols c)) same))
    (λ (other : (e == c) ≡ false). get_or-set_other symbols e c symbol (zero_symbol len)
    (λ z. true≢false (sym (eq-eqb e c (sym z)) ∙ other))
    ∙ sym (ap (λ b. cond b symbol (symbol_at len symbols c)) other))
    (true_or_false (e == c)))

-- a symbol that is put in its place, and its flag set
pub laid_with : (n len : ℕ) (known : List Bool) (symbols : List (List ℕ)) (e : ℕ) (symbol : List ℕ)
    → IsLaid n len known symbols → e < n → IsSymbol len symbol
    → IsLaid n len (set known e true) (set symbols e symbol)
laid_with n len known symbols e symbol h inside is = record {
  flags = length-set known e true ∙ h.flags;
  count = length-set symbols e symbol ∙ h.count;
  each = All-set (IsSymbol len) symbols e symbol is h.each;
  zero = λ c unset.
      let grown : adding e (flagged known) c ≡ false =
      sym (ap (λ s. s c) (flagged_set known e (rw h.flags inside))) ∙ unset in
      ap (λ x. x c) (symbols_put len symbols symbol e (rw h.count inside))
      ∙ ap (λ b. cond b symbol (symbol_at len symbols c)) (or_false_second (flagged known c)
      (e == c) grown) ∙ h.zero c (or_false_first (flagged known c) (e == c) grown);
}
  where
    or_false_first : (a b : Bool) → (a || b) ≡ false → a ≡ false
    or_false_first true b e = e
    or_false_first false b e = refl

    or_false_second : (a b : Bool) → (a || b) ≡ false → b ≡ false
    or_false_second true b e = absurd (true≢false e)
    or_false_second false b e = e

-- the symbols of n positions in front of others
pub word_room : (n len : ℕ) (known : List Bool) (cells : List (List ℕ)) (e : ℕ)
    → IsLaid n len known (take n cells) → e < n → e < length cells
word_room n len known cells e h lt = let front : length (take n cells) ≡ min n (length cells) =
    length-take n cells in omega (arith, front, h.count, lt)

pub word_symbol : (n len : ℕ) (known : List Bool) (cells : List (List ℕ)) (e : ℕ)
    → IsLaid n len known (take n cells) → e < n → get_or cells e [] ≡ symbol_at len (take n cells) e
word_symbol n len known cells e h lt = sym (get_or-take n cells e [] lt)
    ∙ symbol_there len (take n cells) e (omega (arith, lt, h.count))

pub word_long : (n len : ℕ) (known : List Bool) (cells : List (List ℕ)) (e : ℕ)
    → IsLaid n len known (take n cells) → e < n → length (get_or cells e []) ≡ len
word_long n len known cells e h lt = ap length (word_symbol n len known cells e h lt)
    ∙ (symbol_at_is len (take n cells) h.each e).long
