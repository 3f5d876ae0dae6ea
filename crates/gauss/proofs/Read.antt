-- The answer of a packed system, by its rows in echelon form.
use mathlib.Core.Path.{fun_ext}
use Rattle.std.proofs.Common.{◌≡◌, ◌≢◌, ℕ, ◌+◌, ◌*◌, ◌<◌, ◌≤◌, ◌&&◌, ⊎_elim, Bool, false, cond}
use Rattle.std.proofs.Common.{List, [], length, take, drop, get_or, All, refl, sym, ap, ap₂, ◌∙◌}
use Rattle.std.proofs.Common.{subst, subst₂, arith, true≢false, ltb, bit_xor, zero-add}
use Rattle.std.specs.List.{range_with_len}
use Rattle.std.proofs.Math.Bool.{xor as bool_xor}
use Rattle.std.proofs.lemmas.Bool.{lt-ltb, le-ltb, cases_lt, false_from_ne_true}
use Rattle.std.proofs.lemmas.List.{get_or_past, get_or-take, get_or-drop}
use Rattle.std.proofs.lemmas.List.FromFn.{get_or-map-range_with_len, length-map-range_with_len}
use Rattle.std.proofs.lemmas.List.Elements.{All-from_get_or}
use Rattle.fec_base.specs.Symbol.{IsSymbol, symbols_of}
use Rattle.sparse_rows.specs.Codeword.{symbol_at}
use Rattle.sparse_rows.specs.Closure.{Set, flagged, members}
use Rattle.sparse_rows.specs.Matrix.{is_in}
use Rattle.fec_base.proofs.SymbolBytes.{byte, byte_zero}
use Rattle.sparse_rows.proofs.Planes.{byte_laws, symbol_at_is}
use Rattle.sparse_rows.proofs.Null.{members_below, members_in, members_rise, members_same, in_all}
use Rattle.sparse_rows.proofs.Null.{range_below}
use Rattle.sparse_rows.proofs.Algebra.{total_same}
use Rattle.gauss.specs.Equations.{Equation, System, IsEquation, IsSolution, IsSystem}
use Rattle.gauss.specs.Filling.{no_equation}
use Rattle.gauss.specs.Answer.{IsAnswer}
use Rattle.gauss.proofs.Rows.{mask_of, sum_of}
use Rattle.gauss.specs.Packed.{IsPacked, bits_of, byte_in, packed_equation, packed_system, sum_byte}
use Rattle.gauss.specs.Packed.{width_of}
use Rattle.gauss.specs.Elimination.{AllPivots, AreValues, IsFirstFree, IsNullFlags, IsStage}
use Rattle.gauss.specs.Elimination.{IsStageIn, behind, lead_of, product, pivot_row, sum_in}
use Rattle.gauss.specs.Elimination.{taken_in}
use Rattle.gauss.specs.Echelon.{IsEliminated}
use Rattle.gauss.specs.declared.answer.Answer.TheVariants as answer
use Rattle.gauss.proofs.Words.{part_length, row_room}
use Rattle.gauss.proofs.Answered.{answer_clash, answer_free, answer_one, some_solves}
use Rattle.gauss.proofs.Answered.{values_are_solution}
use Rattle.gauss.proofs.Back.{value}

-- ---- symbols that lie one after the other

-- symbol r, where each has `len` bytes
abbrev pub symbol_in : ℕ → List ℕ → ℕ → List ℕ
symbol_in len bytes r = take len (drop (r * len) bytes)

module _ (len count : ℕ) (bytes : List ℕ) (long : length bytes ≡ count * len) where
  pub symbol_byte : (t j : ℕ) → t < len → byte t (symbol_in len bytes j) ≡ byte_in len bytes t j
  symbol_byte t j lt = get_or-take len (drop (j * len) bytes) t 0 lt ∙ get_or-drop (j * len) bytes t
      0

  pub symbol_long : (j : ℕ) → j < count → length (symbol_in len bytes j) ≡ len
  symbol_long j lt = part_length bytes (j * len) len len refl
      (omega (arith, long, row_room count len j lt))

  pub symbol_is : All (λ b. b < 256) bytes → (j : ℕ) → j < count
      → IsSymbol len (symbol_in len bytes j)
  symbol_is small j lt = record {
    long = symbol_long j lt;
    bytes = All-from_get_or (λ b. b < 256) (symbol_in len bytes j) 0
        (λ t lt2. let low : t < len = rw (symbol_long j lt) at lt2 in
        rw (symbol_byte t j low) (small (j * len + t) 0
        (omega (arith, long, row_room count len j lt))));
  }

-- past the rows a sum has no byte that isn't zero
sum_past : (r : ℕ) (sums : List (List ℕ)) (t j : ℕ) → length sums ≡ r → r ≤ j
    → sum_byte sums t j ≡ 0
sum_past r sums t j count le = ap (λ s. get_or s t 0) (get_or_past sums j [] (rw count le))
    ∙ get_or_past [] t 0 (omega arith)

-- products whose masks and parts agree below u
product_both : (u : ℕ) (a b : Set) (x y : ℕ → ℕ) → ((c : ℕ) → c < u → (a c ≡ b c) × (x c ≡ y c))
    → product 0 bit_xor u a x ≡ product 0 bit_xor u b y
product_both u a b x y h = total_same 0 bit_xor byte_laws _ _ (range_with_len 0 u)
    (λ k d lt. let w = h (get_or (range_with_len 0 u) k d) (range_below u k d lt) in
    ap₂ (λ t v. cond t v 0) w.0 w.1)

-- ---- the system and its last stage

module _ (u len r : ℕ) (first words : List ℕ) (sums : List (List ℕ)) (pivots leads : List ℕ)
    (packed : IsPacked u len r first sums)
    (st : IsStageIn u r u (bits_of (width_of u) first) (bits_of (width_of u) words) pivots leads)
  where
    -- the bytes of the sums of the pivot rows
    abbrev pub pivot_bytes : ℕ → ℕ → ℕ
    pivot_bytes t p = sum_byte sums t (pivot_row r pivots p)

    abbrev pub s : System
    s = packed_system u len r first sums

    pub count : length s.equations ≡ r
    count = length-map-range_with_len (packed_equation u first sums) 0 r

    equation_is : (j : ℕ) → j < r → (d : Equation)
        → get_or s.equations j d ≡ packed_equation u first
        sums j
    equation_is j lt d = get_or-map-range_with_len (packed_equation u first sums) 0 r j j d lt
        (zero-add j)

    pub ok : IsSystem s
    ok = All-from_get_or (IsEquation u len) s.equations (no_equation 0)
        (λ j lt. let low : j < r = rw count at lt in rw (equation_is j low (no_equation 0))
        (record {
          rising = members_rise u (bits_of (width_of u) first j);
          below = members_below u (bits_of (width_of u) first j);
          sum = packed.symbols j [] (rw packed.row_sums low);
        }))

    pub as_first : (j c : ℕ) → j < length s.equations → c < u
        → mask_of s.equations j c ≡ bits_of (width_of u) first j c
    as_first j c lt lt2 = ap (λ (e : Equation). is_in e.unknowns c)
        (equation_is j (rw count at lt) (no_equation 0))
        ∙ members_same u (bits_of (width_of u) first j) c lt2

    pub stage : IsStage u (length s.equations) u (bits_of (width_of u) first)
        (bits_of (width_of u) words) (pivot_row r pivots) (lead_of u leads)
    stage = subst (λ n. IsStage u n u (bits_of (width_of u) first) (bits_of (width_of u) words)
        (pivot_row r pivots) (lead_of u leads)) (sym count) st.stage

    plane_is : (t j : ℕ) → t < len → byte t (sum_of len s.equations j) ≡ sum_byte sums t j
    plane_is t j lt = ⊎_elim
        (λ low. ap (λ (e : Equation). byte t e.sum) (equation_is j low (no_equation len)))
        (λ le. ap (λ (e : Equation). byte t e.sum) (get_or_past s.equations j (no_equation len)
        (rw count le)) ∙ byte_zero len t ∙ sym (sum_past r sums t j packed.row_sums le))
        (cases_lt j r)

    -- the sum of a row that leads nothing
    rest_is : (t j : ℕ) → t < len → ltb (lead_of u leads j) u ≡ false
        → sum_in 0 bit_xor u u (bits_of (width_of u) words) (lead_of u leads) (pivot_row r pivots)
        (λ k. byte t (sum_of len s.equations k)) j ≡ bit_xor (sum_byte sums t j)
        (product 0 bit_xor u (bits_of (width_of u) words j) (pivot_bytes t))
    rest_is t j lt e = ap₂ bit_xor (plane_is t j lt) (product_below t j lt e)
      where
        product_below : (t2 k : ℕ) → t2 < len → ltb (lead_of u leads k) u ≡ false
            → product 0 bit_xor u (taken_in u u (bits_of (width_of u) words) (lead_of u leads) k)
            (λ p. byte t2 (sum_of len s.equations (pivot_row r pivots p))) ≡ product 0 bit_xor u
            (bits_of (width_of u) words k) (pivot_bytes t2)
        product_below t2 k lt2 f = product_both u _ _ _ _
            (λ c low. (rw (f, lt-ltb c u low) refl, plane_is t2 (pivot_row r pivots c) lt2))

    led_false : (j : ℕ) → u ≤ lead_of u leads j → ltb (lead_of u leads j) u ≡ false
    led_false j le = le-ltb (lead_of u leads j) u le

    pub read_clash : (j t : ℕ) → j < r → u ≤ lead_of u leads j → t < len
        → bit_xor (sum_byte sums t j) (product 0 bit_xor u (bits_of (width_of u) words j)
        (pivot_bytes t)) ≢ 0 → IsAnswer s answer.Clash
    read_clash j t lt le lt2 ne = answer_clash s ok (bits_of (width_of u) first)
        (bits_of (width_of u) words) (pivot_row r pivots) (lead_of u leads) stage as_first j t
        (rw count lt) (led_false j le) (λ e. ne (sym (rest_is t j lt2 (led_false j le)) ∙ e))

    module _ (zero_rest : (j t : ℕ) → j < r → u ≤ lead_of u leads j → t < len
        → bit_xor (sum_byte sums t j) (product 0 bit_xor u (bits_of (width_of u) words j)
        (pivot_bytes t)) ≡ 0) where
      pub rest : (t j : ℕ) → t < len → j < length s.equations → ltb (lead_of u leads j) u ≡ false
          → sum_in 0 bit_xor u u (bits_of (width_of u) words) (lead_of u leads) (pivot_row r pivots)
          (λ k. byte t (sum_of len s.equations k)) j ≡ 0
      rest t j lt lt2 e = rest_is t j lt e ∙ zero_rest j t (rw count at lt2)
          (⊎_elim (λ low. absurd (true≢false (sym (lt-ltb (lead_of u leads j) u low) ∙ e)))
          (λ le. le)
          (cases_lt (lead_of u leads j) u)) lt

      -- the values after back substitution
      module _ (values : List ℕ) (long : length values ≡ u * len)
          (small : All (λ b. b < 256) values)
          (done : AreValues u len (bits_of (width_of u) words) (pivot_row r pivots) sums values)
        where
          pub each_symbol : All (IsSymbol len) (symbols_of len u values)
          each_symbol = All-from_get_or (IsSymbol len) (symbols_of len u values)
              (symbol_in len values 0) (λ j lt. let low : j <
              u = rw (length-map-range_with_len (symbol_in len values) 0 u) at lt in
              rw (get_or-map-range_with_len (symbol_in len values) 0 u j j (symbol_in len values 0)
              low
              (zero-add j)) (symbol_is len u values long small j low))

          value_byte : (t p : ℕ) → t < len → p < u
              → byte t (symbol_at len (symbols_of len u values) p)
              ≡ byte_in len values t p
          value_byte t p lt low = ap (byte t) (get_or-map-range_with_len (symbol_in len values) 0 u
              p
              p
              _ low (zero-add p)) ∙ symbol_byte len u values long t p lt

          -- the sum of the pivot row of p: its first sum, and those that went into it
          sum_before : (t p : ℕ) → t < len → p < u → pivot_row r pivots p < r
              → bit_xor (pivot_bytes t p) (product 0 bit_xor u (λ c. ltb c p && bits_of (width_of u)
              words (pivot_row r pivots p) c) (pivot_bytes t))
              ≡ sum_in 0 bit_xor u u (bits_of (width_of u) words) (lead_of u leads)
              (pivot_row r pivots)
              (λ k. byte t (sum_of len s.equations k)) (pivot_row r pivots p)
          sum_before t p lt low pivot = ap₂ bit_xor (sym (plane_is t (pivot_row r pivots p) lt))
              (product_both u (λ c. ltb c p && bits_of (width_of u) words (pivot_row r pivots p) c)
              (taken_in u u (bits_of (width_of u) words) (lead_of u leads) (pivot_row r pivots p))
              (pivot_bytes t) (λ c. byte t (sum_of len s.equations (pivot_row r pivots c)))
              (λ c low2. (
                sym (rw (st.stage.own p low pivot, lt-ltb p u low) refl),
                sym (plane_is t (pivot_row r pivots c) lt),
              )))

          -- the value of an unknown with a pivot row comes from the row
          valued : (t p : ℕ) → t < len → p < u → pivot_row r pivots p < r
              → byte t (symbol_at len (symbols_of len u values) p)
              ≡ value 0 bit_xor u (bits_of (width_of u) words) (pivot_row r pivots)
              (sum_in 0 bit_xor u u (bits_of (width_of u) words) (lead_of u leads)
              (pivot_row r pivots) (λ k. byte t (sum_of len s.equations k))) p
              (λ c. byte t (symbol_at len (symbols_of len u values) c))
          valued t p lt low pivot = value_byte t p lt low ∙ done p t low lt
              ∙ ap₂ bit_xor (sum_before t p lt low pivot)
              (product_both u (behind (bits_of (width_of u) words) (pivot_row r pivots) p)
              (behind (bits_of (width_of u) words) (pivot_row r pivots) p) (byte_in len values t)
              (λ c. byte t (symbol_at len (symbols_of len u values) c))
              (λ c low2. (refl, sym (value_byte t c lt low2))))

          -- they are a solution,
          pub read_solution : IsSolution s (symbol_at len (symbols_of len u values))
          read_solution = values_are_solution s ok (bits_of (width_of u) first)
              (bits_of (width_of u) words) (pivot_row r pivots) (lead_of u leads) stage as_first
              rest
              (symbol_at len (symbols_of len u values)) (symbol_at_is len (symbols_of len u values)
              each_symbol) (λ t p lt low pivot. valued t p lt low
              (subst (λ n. pivot_row r pivots p < n) count pivot))

          -- and the only one where each unknown has a pivot row
          pub read_one : AllPivots r pivots → IsAnswer s (answer.One (symbols_of len u values))
          read_one all = answer_one s ok (bits_of (width_of u) first) (bits_of (width_of u) words)
              (pivot_row r pivots) (lead_of u leads) stage as_first rest
              (λ p lt. rw count (pivot p lt)) (symbols_of len u values)
              (length-map-range_with_len (symbol_in len values) 0 u) each_symbol
              (λ t p lt low. valued t p lt low (pivot p low))
            where
              pivot : (p : ℕ) → p < u → pivot_row r pivots p < r
              pivot p lt = all p (rw st.pivot_count lt)

      -- some assignment solves it
      pub read_some : (x : ℕ → List ℕ) × IsSolution s x
      read_some = some_solves s ok (bits_of (width_of u) first) (bits_of (width_of u) words)
          (pivot_row r pivots) (lead_of u leads) stage as_first rest

      -- the flagged unknowns
      pub read_free : (f : ℕ) → IsFirstFree r pivots f → (flags : List Bool)
          → IsNullFlags u (bits_of (width_of u) words) (pivot_row r pivots) f flags
          → IsAnswer s (answer.Free (members u (flagged flags)))
      read_free f free flags is = answer_free s ok (bits_of (width_of u) first)
          (bits_of (width_of u) words) (pivot_row r pivots) (lead_of u leads) stage as_first rest f
          low (rw count free.is_free) (λ p lt. rw count (free.others p lt))
          (members u (flagged flags)) (members_rise u (flagged flags))
          (members_in u (flagged flags) f low is.free) (λ c lt. in_flags c ∙ is.none c lt)
          (λ p lt. in_flags p ∙ is.back p lt
          ∙ ap (λ x. product false bool_xor u (behind (bits_of (width_of u) words)
          (pivot_row r pivots) p) x) (sym (fun_ext in_flags)))
        where
          low : f < u
          low = rw (← st.pivot_count) free.below

          in_flags : (c : ℕ) → is_in (members u (flagged flags)) c ≡ flagged flags c
          in_flags c = ⊎_elim (λ lt. members_same u (flagged flags) c lt)
              (λ le. false_from_ne_true _ (λ e. let lt : c < u = in_all (λ d. d < u)
              (members u (flagged flags)) (members_below u (flagged flags)) c e in omega arith)
              ∙ sym (get_or_past flags c false (rw is.count le))) (cases_lt c u)

-- the rows that an elimination leaves
pub eliminated_from : (u len r : ℕ) (first words pivots leads : List ℕ) (sums : List (List ℕ))
    → IsPacked u len r first sums → length words ≡ length first
    → IsStageIn u r u (bits_of (width_of u) first) (bits_of (width_of u) words) pivots leads
    → IsEliminated (packed_system u len r first sums) len words pivots leads sums
eliminated_from u len r first words pivots leads sums packed long st = record {
  first = first;
  before = subst₂ (λ (n m : ℕ). IsPacked n len m first sums) (sym st.pivot_count)
      (sym st.lead_count) packed;
  after = subst₂ (λ (n m : ℕ). IsPacked n len m words sums) (sym st.pivot_count)
      (sym st.lead_count) (record {
        row_words = long ∙ packed.row_words;
        row_sums = packed.row_sums;
        symbols = packed.symbols;
        few_unknowns = packed.few_unknowns;
        few_rows = packed.few_rows;
        some = packed.some;
        most = packed.most;
      });
  system = ap₂ (λ (n m : ℕ). packed_system n len m first sums) st.pivot_count st.lead_count;
  stage = subst₂ (λ (n m : ℕ). IsStageIn n m n (bits_of (width_of n) first)
      (bits_of (width_of n) words) pivots leads) (sym st.pivot_count) (sym st.lead_count) st;
}
