-- Symbols filled in one after the other: the source symbols, and a repair symbol for each row.
use Rattle.std.proofs.Common.{◌≡◌, ℕ, zero, suc, ◌+◌, ◌-◌, ◌*◌, ◌<◌, ◌≤◌, List, [], ◌∷◌, ◌++◌}
use Rattle.std.proofs.Common.{length, get_or, set, take, drop, replicate, All, refl, sym, ap, ap₂}
use Rattle.std.proofs.Common.{◌∙◌, subst, arith, add-one, append-nil, append_assoc, length-append}
use Rattle.std.proofs.Common.{length-drop, length-take-le}
use Rattle.std.proofs.Math.Path.{fun_ext}
use Rattle.std.proofs.Math.Seq.{take-suc, take-length, drop-cons, get_or-append_seam}
use Rattle.std.proofs.Math.Seq.{set-append_seam}
use Rattle.std.proofs.lemmas.List.{length-replicate, drop-replicate}
use Rattle.std.proofs.lemmas.List.Elements.{All-append, All-replicate}
use Rattle.fec_base.specs.Symbol.{IsSymbol, zero_symbol, xor_sum, symbols_of}
use Rattle.sparse_rows.specs.Matrix.{Matrix, IsCode, row_of}
use Rattle.sparse_rows.specs.Codeword.{symbol_at, IsEncoded}
use Rattle.sparse_rows.proofs.Encode.{extend, extend_is, extend_symbols, source_has}
use Rattle.sparse_rows.proofs.Planes.{zero_is_symbol}
use Rattle.sparse_rows.proofs.Symbols.{length_symbols, symbols_more, symbol_room, piece}

-- ---- the source

-- source symbols in front don't change how many symbols there are
pub source_count : (len k : ℕ) (source : List ℕ) (start : List (List ℕ)) → k ≤ length start
    → (e : ℕ) → e < k → length (symbols_of len e source ++ drop e start) ≡ length start
source_count len k source start count e lt = length-append (symbols_of len e source) (drop e start)
    ∙ omega (arith, length_symbols len e source, length-drop e start)

module _ (len k : ℕ) (source : List ℕ) (start : List (List ℕ)) (long : length source ≡ k * len)
    (count : k ≤ length start) (e : ℕ) (lt : e < k) where
  abbrev front : List (List ℕ)
  front = symbols_of len e source

  parts : front ++ drop e start ≡ front ++ get_or start e [] ∷ drop (suc e) start
  parts = ap (λ (ys : List (List ℕ)). front ++ ys) (drop-cons start e [] (omega arith))

  -- the place of the next source symbol is as it was
  pub source_place : get_or (front ++ drop e start) e [] ≡ get_or start e []
  source_place =
      ap (λ (w : List (List ℕ)). get_or w e []) parts
      ∙ ap (λ (i : ℕ). get_or (front ++ get_or start e [] ∷ drop (suc e) start) i [])
      (sym (length_symbols len e source))
      ∙ get_or-append_seam front (get_or start e []) (drop (suc e) start) []

  -- the next source symbol has its length
  pub source_long : length (piece len source e) ≡ len
  source_long = length-take-le len (drop (e * len) source)
      (omega (arith, length-drop (e * len) source, symbol_room len k e lt))

  -- one source symbol more
  pub source_next : set (front ++ drop e start) e (piece len source e) ≡ symbols_of len (e + 1)
      source ++ drop (e + 1) start
  source_next =
      let s : List ℕ = piece len source e in
      ap (λ (w : List (List ℕ)). set w e s) parts
      ∙ ap (λ (i : ℕ). set (front ++ get_or start e [] ∷ drop (suc e) start) i s)
      (sym (length_symbols len e source))
      ∙ set-append_seam front (get_or start e []) (drop (suc e) start) s
      ∙ sym (append_assoc front (s ∷ []) (drop (suc e) start))
      ∙ ap₂ (λ (w : List (List ℕ)) (i : ℕ). w ++ drop i start) (sym (symbols_more len e source))
      (sym (add-one e))

-- the source symbols in an arena of zero symbols
pub source_alone : (m : Matrix) → IsCode m → (len : ℕ) (source : List ℕ) (start new : List (List ℕ))
    (n k : ℕ) → n ≡ m.n → k ≡ m.k → start ≡ replicate n (zero_symbol len)
    → new ≡ symbols_of len k source ++ drop k start
    → (length new ≡ m.n) × (new ≡ symbols_of len m.k source ++ replicate (m.n - m.k)
    (zero_symbol len))
source_alone m code len source start new n k n_is k_is zeros put =
    let is : new ≡ symbols_of len m.k source ++ replicate (m.n - m.k) (zero_symbol len) =
    put ∙ ap (λ (i : ℕ). symbols_of len i source ++ drop i start) k_is
    ∙ ap (λ (w : List (List ℕ)). symbols_of len m.k source ++ w)
    (ap (drop m.k) (zeros ∙ ap (λ (i : ℕ). replicate i (zero_symbol len)) n_is)
    ∙ drop-replicate m.k m.n (zero_symbol len)) in (
      ap length is ∙ length-append (symbols_of len m.k source)
          (replicate (m.n - m.k) (zero_symbol len))
          ∙ omega (
            arith,
            length_symbols len m.k source,
            length-replicate (m.n - m.k) (zero_symbol len),
            code.shape.count,
          ),
      is,
    )

-- ---- the repair symbols

-- zero symbols behind a word don't change it
padded_at : (len m : ℕ) (word : List (List ℕ)) (c : ℕ)
    → symbol_at len (word ++ replicate m (zero_symbol len)) c ≡ symbol_at len word c
padded_at len zero [] c = refl
padded_at len (suc m) [] zero = refl
padded_at len (suc m) [] (suc c) = padded_at len m [] c
padded_at len m (s ∷ word) zero = refl
padded_at len m (s ∷ word) (suc c) = padded_at len m word c

-- one row more extends the word by its sum
extend_push : (len : ℕ) (rows word : List (List ℕ)) (row : List ℕ)
    → extend len (rows ++ row ∷ []) word ≡ extend len rows word ++ xor_sum len
    (symbol_at len (extend len rows word)) row ∷ []
extend_push len [] word row = refl
extend_push len (first ∷ rows) word row =
    extend_push len rows (word ++ xor_sum len (symbol_at len word) first ∷ []) row

-- the word after r rows, with zero symbols behind it
abbrev pub filled : Matrix → ℕ → List (List ℕ) → ℕ → List (List ℕ)
filled m len source r = extend len (take r m.rows) source ++ replicate (m.n - m.k - r)
    (zero_symbol len)

module _ (m : Matrix) (code : IsCode m) (len : ℕ) (source : List (List ℕ)) (count : length source
    ≡ m.k) (symbols : All (IsSymbol len) source) where
  module _ (r : ℕ) (more : r < m.n - m.k) where
    abbrev Zero : List ℕ
    Zero = zero_symbol len

    abbrev word : List (List ℕ)
    word = extend len (take r m.rows) source

    abbrev left : ℕ
    left = m.n - m.k - (r + 1)

    word_long : length word ≡ m.k + r
    word_long =
        let tail = extend_is len (take r m.rows) source in
        ap length tail.2 ∙ length-append source tail.0
        ∙ omega (arith, tail.1, length-take-le r m.rows (omega (arith, code.shape.count)))

    parts_at : filled m len source r ≡ word ++ Zero ∷ replicate left Zero
    parts_at = let one : m.n - m.k - r ≡ suc left = omega arith in
        ap (λ (n : ℕ). word ++ replicate n Zero) one

    -- each is a symbol, and the row's own is zero
    pub filled_symbols : All (IsSymbol len) (filled m len source r)
    filled_symbols = All-append (IsSymbol len) word (replicate (m.n - m.k - r) Zero)
        (extend_symbols len (take r m.rows) source symbols)
        (All-replicate (IsSymbol len) (m.n - m.k - r) Zero (zero_is_symbol len))

    pub filled_own : get_or (filled m len source r) (m.k + r) [] ≡ Zero
    filled_own = ap₂ (λ (w : List (List ℕ)) (i : ℕ). get_or w i []) parts_at (sym word_long)
        ∙ get_or-append_seam word Zero (replicate left Zero) []

    -- the row's sum in its own place is one row more
    pub filled_next : set (filled m len source r) (m.k + r)
        (xor_sum len (symbol_at len (filled m len source r)) (row_of m r)) ≡ filled m len source
        (r + 1)
    filled_next =
        let x : symbol_at len (filled m len source r) ≡ symbol_at len word =
        fun_ext (padded_at len (m.n - m.k - r) word) in
        let sum : List ℕ = xor_sum len (symbol_at len word) (row_of m r) in
        ap (λ (y : ℕ → List ℕ). set (filled m len source r) (m.k + r) (xor_sum len y (row_of m r)))
        x ∙ ap₂ (λ (w : List (List ℕ)) (i : ℕ). set w i sum) parts_at (sym word_long)
        ∙ set-append_seam word Zero (replicate left Zero) sum
        ∙ sym (append_assoc word (sum ∷ []) (replicate left Zero))
        ∙ ap (λ (w : List (List ℕ)). w ++ replicate left Zero)
        (sym (ap (λ (rows : List (List ℕ)). extend len rows source)
        (ap (λ (n : ℕ). take n m.rows) (add-one r)
        ∙ take-suc m.rows r [] (omega (arith, code.shape.count)))
        ∙ extend_push len (take r m.rows) source (row_of m r)))

  -- with all rows done, the word is the codeword
  pub filled_all : (r : ℕ) → r ≡ m.n - m.k → IsEncoded m len source (filled m len source r)
  filled_all r end =
      let none : m.n - m.k - r ≡ 0 = omega arith in
      let all : r ≡ length m.rows = omega (arith, code.shape.count) in
      let is : extend len m.rows source ≡ filled m len source r =
      sym (ap₂ (λ (rows : List (List ℕ)) (n : ℕ). extend len rows source ++ replicate n
      (zero_symbol len)) (ap (λ (n : ℕ). take n m.rows) all ∙ take-length m.rows) none
      ∙ append-nil (extend len m.rows source)) in
      subst (IsEncoded m len source) is (source_has m code.shape len source count symbols)
