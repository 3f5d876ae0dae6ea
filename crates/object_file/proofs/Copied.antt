-- The codes of a file's blocks, copied one after the other.
use Rattle.std.proofs.Common.{◌≡◌, ℕ, ◌<◌, List, [], ◌∷◌, ◌++◌, length, slice_index_or, Contains}
use Rattle.std.proofs.Common.{Option, Some, sym, ap, ◌∙◌, subst, arith, length-append, ⊎_elim}
use Rattle.std.proofs.Common.{eq-or-lt_of_le}
use Rattle.std.proofs.lemmas.List.{get_or_append_left, get_or_push}
use Rattle.std.proofs.lemmas.List.Elements.{All-contains}
use Rattle.sparse_rows.specs.Matrix.{Matrix}
use Rattle.packet_file.specs.Header.{HeaderFields, source_counts, symbol_count}
use Rattle.object_file.specs.BuiltCodes.{AreBlockCodes, AreCodes}
use Rattle.object_file.specs.Codes.{count_at, header_matrix}

-- the code of block b, one of these
pub record IsCopied (h : HeaderFields) (matrices : List Matrix) (b : ℕ) (m : Matrix) : Type 0 where
  pub matrix : Contains matrices m
  pub size : m.k ≡ count_at h b

-- the codes of the first blocks
abbrev pub AreCopied : HeaderFields → List Matrix → List Matrix → Type 0
AreCopied h matrices codes = (b : ℕ) (m : Matrix) → b < length codes
    → IsCopied h matrices b (slice_index_or codes b m)

pub copied_none : (h : HeaderFields) (matrices : List Matrix) → AreCopied h matrices []
copied_none h matrices b m lt = absurd (omega (arith, lt))

-- one more
pub copied_more : (h : HeaderFields) (matrices codes : List Matrix) (next : Matrix)
    → AreCopied h matrices codes → IsCopied h matrices (length codes) next
    → AreCopied h matrices (codes ++ next ∷ [])
copied_more h matrices codes next copied is b m lt =
    ⊎_elim own before (eq-or-lt_of_le (omega (arith, lt, length-append codes (next ∷ [])))) where
      before : b < length codes → IsCopied h matrices b (slice_index_or (codes ++ next ∷ []) b m)
      before inside = subst (IsCopied h matrices b)
          (sym (get_or_append_left codes (next ∷ []) m b inside)) (copied b m inside)

      own : b ≡ length codes → IsCopied h matrices b (slice_index_or (codes ++ next ∷ []) b m)
      own same = subst (IsCopied h matrices b) (sym (get_or_push codes next m b (sym same)))
          (subst (λ i. IsCopied h matrices i next) (sym same) is)

-- they are those of all blocks
pub copied_are : (h : HeaderFields) (draws : Option ℕ) (matrices codes : List Matrix)
    → AreCodes h draws matrices → AreCopied h matrices codes
    → length codes ≡ length (source_counts h) → AreBlockCodes h draws codes
copied_are h draws matrices codes are copied counted = record {
  counted = counted;
  built = λ b m lt. let one = copied b m lt in ap (header_matrix h draws) (sym one.size)
      ∙ All-contains (λ (x : Matrix). header_matrix h draws x.k ≡ Some x) matrices
      (slice_index_or codes b m) are.built one.matrix;
  sources = λ b m lt. (copied b m lt).size;
  symbols = λ b m lt. let one = copied b m lt in
      All-contains (λ (x : Matrix). x.n ≡ symbol_count h x.k) matrices (slice_index_or codes b m)
      are.sized one.matrix ∙ ap (symbol_count h) one.size;
}
