-- Each source has a codeword: each row gives one repair symbol more.
use Rattle.std.proofs.Common.{append-nil, length-append, take, ◌++◌, ◌≡◌, ℕ, zero, suc, ◌+◌, ◌<◌}
use Rattle.std.proofs.Common.{List, [], ◌∷◌, length, get_or, All, refl, sym, ap, ap₂, ◌∙◌, subst}
use Rattle.std.proofs.Common.{arith, bit_xor, add-zero, add-suc, le_refl, suc-le-suc}
use Rattle.std.proofs.Common.{le_of_suc-le-suc, ltb-true}
use Rattle.sparse_rows.proofs.Agree.{agree_source}
use Rattle.std.proofs.lemmas.List.{get_or-take, ext_get_or, get_or_past, get_or_append_left}
use Rattle.std.proofs.lemmas.List.{append_assoc}
use Rattle.std.proofs.Math.Seq.{get_or-append_seam, take-append_seam}
use Rattle.std.proofs.lemmas.List.Elements.{All-push, All-from_get_or}
use Rattle.fec_base.specs.Symbol.{IsSymbol, zero_symbol, xor_sum}
use Rattle.sparse_rows.specs.Matrix.{Matrix, HasShape}
use Rattle.sparse_rows.specs.Codeword.{symbol_at, SumsToZero, IsAssignment, IsEncoded}
use Rattle.sparse_rows.specs.Closure.{outside}
use Rattle.sparse_rows.proofs.Algebra.{closes}
use Rattle.sparse_rows.proofs.Shape.{below, last_outside}
use Rattle.fec_base.proofs.SymbolBytes.{same_bytes, byte, byte_zero}
use Rattle.sparse_rows.proofs.Planes.{plane_zero, byte_laws, byte_sum, zero_from_planes}
use Rattle.sparse_rows.proofs.Planes.{zero_is_symbol, xor_is_symbol, symbol_at_is}

-- the word with, for each row in turn, the sum of the row's symbols so far
abbrev pub extend : ℕ → List (List ℕ) → List (List ℕ) → List (List ℕ)
extend len [] word = word
extend len (row ∷ rows) word = extend len rows (word ++ xor_sum len (symbol_at len word) row ∷ [])

pub extend_is : (len : ℕ) (rows word : List (List ℕ)) → (tail : List (List ℕ))
    × (length tail ≡ length rows) × (extend len rows word ≡ word ++ tail)
extend_is len [] word = ([], refl, sym (append-nil word))
extend_is len (row ∷ rows) word =
    let next = xor_sum len (symbol_at len word) row in
    let r = extend_is len rows (word ++ next ∷ []) in
    (next ∷ r.0, ap suc r.1, r.2 ∙ append_assoc word (next ∷ []) r.0)

pub sum_is_symbol : (len : ℕ) (x : ℕ → List ℕ) → IsAssignment len x → (cs : List ℕ)
    → IsSymbol len (xor_sum len x cs)
sum_is_symbol len x h [] = zero_is_symbol len
sum_is_symbol len x h (c ∷ cs) = xor_is_symbol len (x c) (xor_sum len x cs) (h c)
    (sum_is_symbol len x h cs)

pub extend_symbols : (len : ℕ) (rows word : List (List ℕ)) → All (IsSymbol len) word
    → All (IsSymbol len) (extend len rows word)
extend_symbols len [] word h = h
extend_symbols len (row ∷ rows) word h = extend_symbols len rows
    (word ++ xor_sum len (symbol_at len word) row ∷ [])
    (All-push (IsSymbol len) word _ h (sum_is_symbol len (symbol_at len word)
    (symbol_at_is len word h) row))

-- earlier symbols stay
pub extend_keeps : (len : ℕ) (rows word : List (List ℕ)) (c : ℕ) → c < length word
    → symbol_at len word c ≡ symbol_at len (extend len rows word) c
extend_keeps len rows word c lt = let r = extend_is len rows word in
    sym (ap (λ z. get_or z c (zero_symbol len)) r.2 ∙ get_or_append_left word r.0 (zero_symbol len)
    c lt)

length_push : (word : List (List ℕ)) (s : List ℕ) → length (word ++ s ∷ []) ≡ suc (length word)
length_push word s = length-append word (s ∷ []) ∙ omega arith

-- each row sums to zero in the end
extend_sums : (len : ℕ) (rows word : List (List ℕ)) → All (IsSymbol len) word
    → ((i : ℕ) → i < length rows → outside (below (length word + i)) (get_or rows i [])
    ≡ (length word + i) ∷ [])
    → (i : ℕ) → i < length rows → SumsToZero len (symbol_at len (extend len rows word))
    (get_or rows i [])
extend_sums len [] word h alone i lt = absurd (omega arith)
extend_sums len (row ∷ rows) word h alone (suc i) lt =
    let next = xor_sum len (symbol_at len word) row in
    extend_sums len rows (word ++ next ∷ [])
    (All-push (IsSymbol len) word _ h (sum_is_symbol len (symbol_at len word)
    (symbol_at_is len word h) row))
    (λ j lt2. let e : length word + suc j ≡ length (word ++ next ∷ []) +
    j = rw (length_push, add-suc) (omega arith) in rw e at (alone (suc j) (suc-le-suc lt2))) i
    (le_of_suc-le-suc lt)
extend_sums len (row ∷ rows) word h alone zero lt = zero_from_planes len end
    (λ c. (symbol_at_is len _ (extend_symbols len (row ∷ rows) word h) c).long) row
    (λ j. closes 0 bit_xor byte_laws (below (length word)) (λ c. byte j (symbol_at len word c))
    (λ c. byte j (end c))
    (λ c e. ap (byte j) (extend_keeps len (row ∷ rows) word c (ltb-true c (length word) e))) row
    (length word)
    (rw add-zero at (alone zero lt))
    (ap (byte j) (get_or_past word (length word) (zero_symbol len) (le_refl _)) ∙ byte_zero len j)
    (ap (byte j) end_last ∙ byte_sum len (symbol_at len word)
    (λ c. (symbol_at_is len word h c).long) j row))
  where
    next : List ℕ
    next = xor_sum len (symbol_at len word) row

    end : ℕ → List ℕ
    end = symbol_at len (extend len (row ∷ rows) word)

    end_last : end (length word) ≡ next
    end_last = sym (extend_keeps len rows (word ++ next ∷ []) (length word)
        (rw length_push (le_refl _))) ∙ get_or-append_seam word next [] (zero_symbol len)

pub source_has : (m : Matrix) → HasShape m → (len : ℕ) (source : List (List ℕ))
    → length source ≡ m.k → All (IsSymbol len) source
    → IsEncoded m len source (extend len m.rows source)
source_has m shape len source e h = record {
  codeword = record {
    count = ap length r.2 ∙ length-append source r.0 ∙ ap₂ ◌+◌ e r.1 ∙ shape.count;
    symbols = extend_symbols len m.rows source h;
    rows = All-from_get_or (SumsToZero len (symbol_at len (extend len m.rows source))) m.rows []
        (extend_sums len m.rows source h
        (λ i lt. subst (λ k. outside (below (k + i)) (get_or m.rows i []) ≡ (k + i) ∷ [])
        (sym e) (last_outside m shape i lt)));
  };
  source_is = ap (take m.k) r.2 ∙ subst (λ k. take k (source ++ r.0) ≡ source) e
      (take-append_seam source r.0);
}
  where
    r : (tail : List (List ℕ)) × (length tail ≡ length m.rows)
        × (extend len m.rows source ≡ source ++ tail)
    r = extend_is len m.rows source

-- a source column's symbol
pub source_at : (m : Matrix) (len : ℕ) (a b : List (List ℕ)) → take m.k a ≡ take m.k b → (c : ℕ)
    → c < m.k → symbol_at len a c ≡ symbol_at len b c
source_at m len a b e c lt = sym (get_or-take m.k a c (zero_symbol len) lt)
    ∙ ap (λ z. get_or z c (zero_symbol len)) e ∙ get_or-take m.k b c (zero_symbol len) lt

pub source_one : (m : Matrix) → HasShape m → (len : ℕ) (source a b : List (List ℕ))
    → IsEncoded m len source a → IsEncoded m len source b → a ≡ b
source_one m shape len source a b ha hb = ext_get_or (zero_symbol len) a b (ha.codeword.count
    ∙ sym hb.codeword.count) (λ c lt.
    let sa = symbol_at_is len a ha.codeword.symbols in let sb =
    symbol_at_is len b hb.codeword.symbols in
    same_bytes _ _ ((sa c).long ∙ sym (sb c).long) (λ j. agree_source 0 bit_xor byte_laws m shape
    (λ d. byte j (symbol_at len a d)) (λ d. byte j (symbol_at len b d))
    (λ i lt2. plane_zero len (symbol_at len a) (λ d. (sa d).long) _ (ha.codeword.rows i [] lt2) j
    ∙ sym (plane_zero len (symbol_at len b) (λ d. (sb d).long) _ (hb.codeword.rows i [] lt2) j))
    (λ d lt2. ap (byte j) (source_at m len a b (ha.source_is ∙ sym hb.source_is) d lt2)) c
    (rw ha.codeword.count at lt)))
