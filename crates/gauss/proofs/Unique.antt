-- A system has at most one answer.
use Rattle.std.proofs.Common.{◌≡◌, ◌≢◌, ℕ, ◌<◌, ◌≤◌, Bool, true, false, cond, List, [], length}
use Rattle.std.proofs.Common.{get_or, All, refl, sym, ap, ◌∙◌, subst, arith, bit_xor}
use Rattle.std.proofs.Math.Bool.{xor as bool_xor}
use Rattle.std.proofs.lemmas.List.{ext_get_or, get_or-map, length-map}
use Rattle.std.proofs.lemmas.List.Elements.{All-from_get_or}
use Rattle.fec_base.specs.Symbol.{IsSymbol, xor, zero_symbol, xor_sum}
use Rattle.sparse_rows.specs.Codeword.{IsAssignment, symbol_at}
use Rattle.sparse_rows.specs.Matrix.{is_in}
use Rattle.sparse_rows.specs.NullWord.{IsNullWord}
use Rattle.sparse_rows.proofs.Algebra.{total_add, total_same, cancel}
use Rattle.sparse_rows.specs.Totals.{total}
use Rattle.fec_base.proofs.SymbolBytes.{byte, byte_xor, same_bytes}
use Rattle.sparse_rows.proofs.Planes.{byte_laws, byte_sum, length_sum, xor_is_symbol}
use Rattle.sparse_rows.proofs.Parity.{even_to}
use Rattle.sparse_rows.proofs.Null.{null_column}
use Rattle.null_witness.proofs.First.{first_is_one}
use Rattle.null_witness.proofs.Determined.{one_symbol, one_is_symbol, one_first, total_choose}
use Rattle.gauss.specs.Equations.{Equation, System, IsSystem, IsSolution, matrix_of}
use Rattle.gauss.specs.Filling.{no_equation}
use Rattle.gauss.specs.Answer.{IsAnswer}
use Rattle.gauss.specs.declared.answer.Answer.{Answer}
use Rattle.gauss.specs.declared.answer.Answer.TheVariants as answer

pub row_at : (s : System) (j : ℕ) → j < length s.equations
    → get_or (matrix_of s).rows j [] ≡ (get_or s.equations j (no_equation 0)).unknowns
row_at s j lt = get_or-map (λ (e : Equation). e.unknowns) s.equations j (no_equation 0) [] lt

module _ (s : System) (x : ℕ → List ℕ) (h : IsSolution s x) (set : List ℕ)
    (null : IsNullWord (matrix_of s) (λ c. false) set) where
  -- the symbols of the set's unknowns, each with its first byte turned
  pub other : ℕ → List ℕ
  other c = cond (is_in set c) (xor (x c) (one_symbol s.len)) (x c)

  other_is : IsAssignment s.len other
  unfolding other
  other_is c = by_case (is_in set c)
    where
      by_case : (b : Bool) → IsSymbol s.len (cond b (xor (x c) (one_symbol s.len)) (x c))
      by_case true = xor_is_symbol s.len (x c) (one_symbol s.len) (h.symbols c)
          (one_is_symbol s.len)
      by_case false = h.symbols c

  byte_other : (j c : ℕ) → byte j (other c) ≡ bit_xor (byte j (x c))
      (cond (is_in set c) (byte j (one_symbol s.len)) 0)
  unfolding other
  byte_other j c = by_case (is_in set c)
    where
      by_case : (b : Bool) → byte j (cond b (xor (x c) (one_symbol s.len)) (x c))
          ≡ bit_xor (byte j (x c)) (cond b (byte j (one_symbol s.len)) 0)
      by_case true = byte_xor (x c) (one_symbol s.len) ((h.symbols c).long
          ∙ sym (one_is_symbol s.len).long) j
      by_case false = sym (byte_laws.comm (byte j (x c)) 0 ∙ byte_laws.left (byte j (x c)))

  even_at : (j : ℕ) → j < length s.equations
      → total false bool_xor (is_in set) (get_or s.equations j (no_equation 0)).unknowns ≡ false
  even_at j lt = ap (total false bool_xor (is_in set)) (sym (row_at s j lt))
      ∙ even_to (is_in set) (get_or (matrix_of s).rows j []) (null.even j [] (rw length-map lt))

  same_sum : (cs : List ℕ) → total false bool_xor (is_in set) cs ≡ false
      → xor_sum s.len other cs ≡ xor_sum s.len x cs
  same_sum cs e = same_bytes _ _ (length_sum s.len other (λ c. (other_is c).long) cs
      ∙ sym (length_sum s.len x (λ c. (h.symbols c).long) cs)) (λ j.
      byte_sum s.len other (λ c. (other_is c).long) j cs
      ∙ total_same 0 bit_xor byte_laws _ _ cs (λ k d lt. byte_other j _)
      ∙ total_add 0 bit_xor byte_laws (λ c. byte j (x c))
      (λ c. cond (is_in set c) (byte j (one_symbol s.len)) 0) cs
      ∙ ap (bit_xor (total 0 bit_xor (λ c. byte j (x c)) cs))
      (total_choose (is_in set) (byte j (one_symbol s.len)) cs
      ∙ ap (λ b. cond b (byte j (one_symbol s.len)) 0) e)
      ∙ byte_laws.comm (total 0 bit_xor (λ c. byte j (x c)) cs) 0
      ∙ byte_laws.left (total 0 bit_xor (λ c. byte j (x c)) cs)
      ∙ sym (byte_sum s.len x (λ c. (h.symbols c).long) j cs))

  pub other_solves : IsSolution s other
  other_solves = record {
    symbols = other_is;
    sums = All-from_get_or (λ (e : Equation). xor_sum s.len other e.unknowns ≡ e.sum) s.equations
        (no_equation 0) (λ j lt.
        same_sum (get_or s.equations j (no_equation 0)).unknowns (even_at j lt)
        ∙ h.sums j (no_equation 0) lt);
  }

  pub other_differs : 1 ≤ s.len → (c : ℕ) → is_in set c ≡ true → x c ≢ other c
  other_differs len c e same =
      let flip : bit_xor (byte 0 (x c)) 1 ≡ byte 0 (x c) = ap (bit_xor (byte 0 (x c)))
      (sym (ap (λ b. cond b (byte 0 (one_symbol s.len)) 0) e ∙ one_first s.len len))
      ∙ sym (byte_other 0 c) ∙ ap (byte 0) (sym same) in
      let z : ◌≡◌ {A = ℕ} 1 0 = cancel 0 bit_xor byte_laws (byte 0 (x c)) 1 0 (flip
      ∙ sym (byte_laws.comm (byte 0 (x c)) 0 ∙ byte_laws.left (byte 0 (x c)))) in omega arith

pub free_has_two : (s : System) (set : List ℕ) → 1 ≤ s.len → IsAnswer s (answer.Free set)
    → (x : ℕ → List ℕ) × (y : ℕ → List ℕ) × (c : ℕ) × IsSolution s x × IsSolution s y
    × (c < s.unknowns) × (x c ≢ y c)
free_has_two s set h a =
    let c = null_column (matrix_of s) (λ d. false) set a.1.null in (
      a.0.0,
      other s a.0.0 a.0.1 set a.1.null,
      c.0,
      a.0.1,
      other_solves s a.0.0 a.0.1 set a.1.null,
      c.2,
      other_differs s a.0.0 a.0.1 set a.1.null h c.0 c.1,
    )

one_or_free : (s : System) (values : List (List ℕ)) (set : List ℕ) → 1 ≤ s.len
    → IsAnswer s (answer.One values) → IsAnswer s (answer.Free set) → ⊥
one_or_free s values set h a b = let t = free_has_two s set h b in
    t.6 (a.only t.0 t.3 t.2 t.5 ∙ sym (a.only t.1 t.4 t.2 t.5))

pub answer_is_one : (s : System) (a b : Answer) → IsSystem s → 1 ≤ s.len → IsAnswer s a
    → IsAnswer s b → a ≡ b
answer_is_one s answer.Clash answer.Clash ok h a b = refl
answer_is_one s answer.Clash (answer.One v) ok h a b = absurd (a (symbol_at s.len v) b.solves)
answer_is_one s answer.Clash (answer.Free set) ok h a b = absurd (a b.0.0 b.0.1)
answer_is_one s (answer.One v) answer.Clash ok h a b = absurd (b (symbol_at s.len v) a.solves)
answer_is_one s (answer.One v) (answer.One w) ok h a b =
    ap answer.One (ext_get_or (zero_symbol s.len) v w (a.count ∙ sym b.count)
    (λ c lt. b.only (symbol_at s.len v) a.solves c (rw a.count at lt)))
answer_is_one s (answer.One v) (answer.Free set) ok h a b = absurd (one_or_free s v set h a b)
answer_is_one s (answer.Free set) answer.Clash ok h a b = absurd (b a.0.0 a.0.1)
answer_is_one s (answer.Free set) (answer.One v) ok h a b = absurd (one_or_free s v set h b a)
answer_is_one s (answer.Free set) (answer.Free t) ok h a b =
    ap answer.Free (first_is_one (matrix_of s) (λ c. false) set t
    (λ j lt. let lt2 : j < length s.equations = rw length-map at lt in
    subst (All (λ d. d < s.unknowns)) (sym (row_at s j lt2)) (ok j (no_equation 0) lt2).below) a.1
    b.1)
