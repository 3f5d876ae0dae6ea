-- No codeword fits exactly where a closed row set contradicts what arrived.
use Rattle.std.proofs.Common.{◌≡◌, ℕ, ◌<◌, ◌≤◌, ◌⊎◌, inl, inr, ⊎_elim, Bool, true, false}
use Rattle.std.proofs.Common.{cond, ◌&&◌, not, ◌==◌, List, [], length, get_or, map, All, refl, sym}
use Rattle.std.proofs.Common.{ap, ◌∙◌, true≢false, bit_xor, eq-eqb, zero-add, lit<}
use Rattle.std.specs.List.{range_with_len}
use Rattle.std.proofs.Math.Bool.{xor as bool_xor}
use Rattle.std.proofs.lemmas.Bool.{cases_lt}
use Rattle.std.proofs.lemmas.List.{get_or_past}
use Rattle.std.proofs.lemmas.List.FromFn.{get_or-map-range_with_len, length-map-range_with_len}
use Rattle.std.proofs.lemmas.List.Elements.{All-from_get_or}
use Rattle.std.specs.List.Sorted.{IsStrictlyIncreasing}
use Rattle.fec_base.specs.Symbol.{IsSymbol, xor_sum, zero_symbol}
use Rattle.fec_base.proofs.SymbolBytes.{byte, byte_zero}
use Rattle.sparse_rows.specs.Matrix.{Matrix, HasShape, has_entry, is_in}
use Rattle.sparse_rows.specs.Codeword.{Arrival, Fits, IsAssignment, SumsToZero, positions}
use Rattle.sparse_rows.specs.Codeword.{symbol_at}
use Rattle.sparse_rows.specs.Closure.{Set, members}
use Rattle.sparse_rows.specs.Fitting.{IsFitting}
use Rattle.sparse_rows.specs.Totals.{total}
use Rattle.sparse_rows.proofs.Algebra.{total_add, total_same, total_zero}
use Rattle.sparse_rows.proofs.Encode.{sum_is_symbol}
use Rattle.sparse_rows.proofs.Parity.{bit_laws}
use Rattle.sparse_rows.proofs.Planes.{byte_laws, byte_sum, plane_zero, symbol_at_is}
use Rattle.sparse_rows.proofs.Planes.{zero_from_planes, zero_is_symbol}
use Rattle.sparse_rows.proofs.Null.{all_from_in, in_all, members_below, members_rise, members_same}
use Rattle.sparse_rows.proofs.Null.{passes}
use Rattle.sparse_rows.proofs.Sets.{any_from, true_or_false}
use Rattle.sparse_rows.proofs.Shape.{row_below}
use Rattle.null_witness.specs.ReducedWords.{IsReducedWord}
use Rattle.null_witness.specs.LinearFamilies.{IsSumOf}
use Rattle.null_witness.proofs.Bits.{DifferAt, bit, bit_of_total, bit_of_zero, differ_symbol}
use Rattle.null_witness.proofs.Bits.{search_below}
use Rattle.null_witness.proofs.Determined.{fits_at}
use Rattle.null_witness.proofs.ReducedWords.{some_reduced}
use Rattle.gauss.specs.Elimination.{product}
use Rattle.gauss.proofs.Lists.{list_product, product_of_same}
use Rattle.gauss.proofs.Products.{product_same, product_xor, product_zero}
use Rattle.clash_proof.specs.RowSets.{IsClosed, Contradicts, odd_columns}
use Rattle.clash_proof.proofs.Closed.{closed_decided, closed_linear, members_total, odd_product}
use Rattle.clash_proof.proofs.Closed.{odd_sum, swap_products}
use Rattle.clash_proof.proofs.Alternative.{Contradictory, Solvable, alternative, cond_small}
use Rattle.clash_proof.proofs.Alternative.{product_small}

module _ (m : Matrix) (shape : HasShape m) where
  pub row_total : (j : ℕ) → j < length m.rows → (y : ℕ → ℕ)
      → total 0 bit_xor y (get_or m.rows j []) ≡ product 0 bit_xor m.n (has_entry m j) y
  row_total j lt y = list_product 0 bit_xor byte_laws m.n (get_or m.rows j [])
      (shape.row j lt).rising (row_below m shape j lt) y

  -- what is given to the odd columns of some rows sums to the sum of the rows' sums
  pub rows_total : (rows : List ℕ) → IsStrictlyIncreasing rows
      → All (λ r. r < length m.rows) rows → (y : ℕ → ℕ)
      → total 0 bit_xor y (members m.n (odd_columns m rows))
      ≡ product 0 bit_xor (length m.rows) (is_in rows)
      (λ r. product 0 bit_xor m.n (has_entry m r) y)
  rows_total rows rising below y =
      members_total 0 bit_xor byte_laws m.n (odd_columns m rows) y
      ∙ product_same 0 bit_xor byte_laws m.n (odd_columns m rows)
      (λ c. product false bool_xor (length m.rows) (is_in rows) (λ r. has_entry m r c)) y
      (λ c lt. odd_product m rows rising below c)
      ∙ swap_products m.n (length m.rows) (is_in rows) (has_entry m) y

  -- an odd column of a closed row set is in the set
  odd_in : (s : Set) (rows : List ℕ) → IsClosed m s rows → (c : ℕ)
      → is_in (members m.n (odd_columns m rows)) c ≡ true → s c ≡ true
  odd_in s rows closed c e = closed.closed c
      (in_all (λ d. d < m.n) (members m.n (odd_columns m rows))
      (members_below m.n (odd_columns m rows)) c e)
      (passes (odd_columns m rows) (range_with_len 0 m.n) c e)

  -- two that agree on the set sum alike over the odd columns
  odd_agree : (s : Set) (rows : List ℕ) → IsClosed m s rows → (y z : ℕ → ℕ)
      → ((c : ℕ) → s c ≡ true → y c ≡ z c)
      → total 0 bit_xor y (members m.n (odd_columns m rows))
      ≡ total 0 bit_xor z (members m.n (odd_columns m rows))
  odd_agree s rows closed y z same =
      total_same 0 bit_xor byte_laws y z (members m.n (odd_columns m rows))
      (all_from_in (λ c. y c ≡ z c) (members m.n (odd_columns m rows))
      (λ c e. same c (odd_in s rows closed c e)))

  -- where a closed row set contradicts, nothing fits
  pub none_fits : (len : ℕ) (arrivals : List Arrival) (x : ℕ → List ℕ) → IsAssignment len x
      → Fits arrivals x → (rows : List ℕ) → IsClosed m (positions arrivals) rows
      → Contradicts m len x rows → (word : List (List ℕ)) → IsFitting m len arrivals word → ⊥
  none_fits len arrivals x hx fits rows closed contra word hw =
      contra (zero_from_planes len x (λ c. (hx c).long) (members m.n (odd_columns m rows)) plane)
    where
      w : ℕ → List ℕ
      w = symbol_at len word

      plane : (t : ℕ)
          → total 0 bit_xor (λ c. byte t (x c)) (members m.n (odd_columns m rows)) ≡ 0
      plane t = odd_agree (positions arrivals) rows closed (λ c. byte t (x c))
          (λ c. byte t (w c))
          (λ c e. ap (byte t) (fits_at arrivals x w fits hw.fits c e))
          ∙ rows_total rows closed.rising closed.below (λ c. byte t (w c))
          ∙ product_zero 0 bit_xor byte_laws (length m.rows) (is_in rows) _
          (λ r lt. inr (sym (row_total r lt (λ c. byte t (w c)))
          ∙ plane_zero len w (λ c. (symbol_at_is len word hw.codeword.symbols c).long)
          (get_or m.rows r []) (hw.codeword.rows r [] lt) t))

  -- ---- either a codeword fits or a closed row set contradicts

  module _ (len : ℕ) (s : Set) (x : ℕ → List ℕ) (hx : IsAssignment len x) where
    -- the columns of a row that did not arrive
    absent : ℕ → Set
    absent j c = has_entry m j c && not (s c)

    -- a byte of what arrived
    arrived : ℕ → ℕ → ℕ
    arrived t c = cond (s c) (byte t (x c)) 0

    row_sum : ℕ → ℕ → ℕ
    row_sum t j = product 0 bit_xor m.n (has_entry m j) (arrived t)

    byte_small : (t c : ℕ) → byte t (x c) < 256
    byte_small t c = ⊎_elim (λ lt. (hx c).bytes t 0 lt)
        (λ le. rw (get_or_past (x c) t 0 le) (lit< tt)) (cases_lt t (length (x c)))

    sum_small : (t j : ℕ) → row_sum t j < 256
    unfolding row_sum arrived
    sum_small t j = product_small m.n (has_entry m j) (arrived t)
        (λ c. cond_small (s c) (byte t (x c)) 0 (byte_small t c) (lit< tt))

    sum_past : (t j : ℕ) → len ≤ t → row_sum t j ≡ 0
    unfolding row_sum arrived
    sum_past t j le = product_zero 0 bit_xor byte_laws m.n (has_entry m j) (arrived t)
        (λ c lt. inr (by_case c (s c)))
      where
        by_case : (c : ℕ) (b : Bool) → cond b (byte t (x c)) 0 ≡ 0
        by_case c true = get_or_past (x c) t 0 (rw (hx c).long le)
        by_case c false = refl

    -- equations that sum to one without unknowns, but with a sum, are a closed row set that
    -- contradicts
    contradiction : (t : ℕ) → Contradictory m.n (length m.rows) absent (row_sum t)
        → (rows : List ℕ) × IsClosed m s rows × Contradicts m len x rows
    unfolding absent arrived row_sum
    contradiction t (comb, none, ne) = (rows, closed, contra)
      where
        rows : List ℕ
        rows = members (length m.rows) comb

        odd_is : (c : ℕ) → odd_columns m rows c
            ≡ product false bool_xor (length m.rows) comb (λ r. has_entry m r c)
        odd_is c = odd_product m rows (members_rise (length m.rows) comb)
            (members_below (length m.rows) comb) c
            ∙ product_same false bool_xor bit_laws (length m.rows) (is_in rows) comb
            (λ r. has_entry m r c) (members_same (length m.rows) comb)

        and_true : (b : Bool) → (b && true) ≡ b
        and_true true = refl
        and_true false = refl

        closed_at : (c : ℕ) → c < m.n → odd_columns m rows c ≡ true → s c ≡ true
        closed_at c lt odd = ⊎_elim (λ f. f)
            (λ f. absurd (true≢false (sym odd ∙ odd_is c
            ∙ product_of_same false bool_xor bit_laws (length m.rows) comb
            (λ r. has_entry m r c) (λ r. has_entry m r c && not (s c))
            (λ r lt2. sym (ap (λ b. has_entry m r c && not b) f ∙ and_true (has_entry m r c)))
            ∙ none c lt))) (true_or_false (s c))

        closed : IsClosed m s rows
        closed = record {
          rising = members_rise (length m.rows) comb;
          below = members_below (length m.rows) comb;
          nonempty = λ empty. ne
              (sym (members_total 0 bit_xor byte_laws (length m.rows) comb (row_sum t))
              ∙ ap (total 0 bit_xor (row_sum t)) empty);
          closed = closed_at;
        }

        contra : Contradicts m len x rows
        contra z = ne (sym (rows_total rows closed.rising closed.below (arrived t)
            ∙ product_same 0 bit_xor byte_laws (length m.rows) (is_in rows) comb (row_sum t)
            (members_same (length m.rows) comb))
            ∙ odd_agree s rows closed (arrived t) (λ c. byte t (x c))
            (λ c f. ap (λ b. cond b (byte t (x c)) 0) f)
            ∙ plane_zero len x (λ c. (hx c).long) (members m.n (odd_columns m rows)) z t)

    -- bytes that solve the equations at each place make a codeword that fits
    module _ (good : (t : ℕ) → Solvable m.n (length m.rows) absent (row_sum t)) where
      y : ℕ → ℕ → ℕ
      y t = (good t).0

      solved : ℕ → List ℕ
      solved c = map (λ t. y t c) (range_with_len 0 len)

      solved_is : (c : ℕ) → IsSymbol len (solved c)
      unfolding solved y
      solved_is c = record {
        long = length-map-range_with_len (λ t. y t c) 0 len;
        bytes = All-from_get_or (λ b. b < 256) (solved c) 0
            (λ t lt. let lt2 : t < len = rw length-map-range_with_len at lt in
            rw (get_or-map-range_with_len (λ q. y q c) 0 len t t 0 lt2 (zero-add t))
            ((good t).1 c));
      }

      solved_at : (t c : ℕ) → t < len → byte t (solved c) ≡ y t c
      unfolding solved
      solved_at t c lt = get_or-map-range_with_len (λ q. y q c) 0 len t t 0 lt (zero-add t)

      symbol : ℕ → List ℕ
      symbol c = cond (s c) (x c) (solved c)

      symbol_is : IsAssignment len symbol
      unfolding symbol
      symbol_is c = by_case (s c)
        where
          by_case : (b : Bool) → IsSymbol len (cond b (x c) (solved c))
          by_case true = hx c
          by_case false = solved_is c

      word : List (List ℕ)
      word = map symbol (range_with_len 0 m.n)

      word_at : (c : ℕ) → c < m.n → symbol_at len word c ≡ symbol c
      unfolding word
      word_at c lt =
          get_or-map-range_with_len symbol 0 m.n c c (zero_symbol len) lt (zero-add c)

      word_length : length word ≡ m.n
      unfolding word
      word_length = length-map-range_with_len symbol 0 m.n

      word_symbols : All (IsSymbol len) word
      word_symbols = All-from_get_or (IsSymbol len) word (zero_symbol len)
          (λ c lt. rw (word_at c (rw word_length at lt)) (symbol_is c))

      word_is : IsAssignment len (symbol_at len word)
      word_is = symbol_at_is len word word_symbols

      -- the sum of a row is that of what arrived and that of the rest
      parted : (t j : ℕ) → t < len
          → product 0 bit_xor m.n (has_entry m j) (λ c. byte t (symbol c))
          ≡ bit_xor (row_sum t j) (product 0 bit_xor m.n (absent j) (y t))
      unfolding row_sum absent arrived symbol
      parted t j lt = total_same 0 bit_xor byte_laws _ _ (range_with_len 0 m.n)
          (λ k d lt2. by_case _ (has_entry m j _) (s _))
          ∙ total_add 0 bit_xor byte_laws (λ c. cond (has_entry m j c) (arrived t c) 0)
          (λ c. cond (has_entry m j c && not (s c)) (y t c) 0) (range_with_len 0 m.n)
        where
          by_case : (c : ℕ) (h b : Bool) → cond h (byte t (cond b (x c) (solved c))) 0
              ≡ bit_xor (cond h (cond b (byte t (x c)) 0) 0) (cond (h && not b) (y t c) 0)
          by_case c true true = sym (byte_laws.comm _ 0 ∙ byte_laws.left _)
          by_case c true false = solved_at t c lt ∙ sym (byte_laws.left _)
          by_case c false true = refl
          by_case c false false = refl

      row_zero : (j : ℕ) → j < length m.rows
          → SumsToZero len (symbol_at len word) (get_or m.rows j [])
      unfolding y
      row_zero j lt = zero_from_planes len (symbol_at len word) (λ c. (word_is c).long)
          (get_or m.rows j []) (λ t. ⊎_elim (at_plane t) (past t) (cases_lt t len))
        where
          at_plane : (t : ℕ) → t < len
              → total 0 bit_xor (λ c. byte t (symbol_at len word c)) (get_or m.rows j []) ≡ 0
          at_plane t lt2 = total_same 0 bit_xor byte_laws (λ c. byte t (symbol_at len word c))
              (λ c. byte t (symbol c)) (get_or m.rows j [])
              (λ k d lt3. ap (byte t) (word_at _ (row_below m shape j lt k d lt3)))
              ∙ row_total j lt (λ c. byte t (symbol c)) ∙ parted t j lt2
              ∙ ap (bit_xor (row_sum t j)) ((good t).2 j lt) ∙ byte_laws.self (row_sum t j)

          past : (t : ℕ) → len ≤ t
              → total 0 bit_xor (λ c. byte t (symbol_at len word c)) (get_or m.rows j []) ≡ 0
          past t le = total_same 0 bit_xor byte_laws (λ c. byte t (symbol_at len word c))
              (λ c. 0) (get_or m.rows j [])
              (λ k d lt3. get_or_past _ t 0 (rw (word_is _).long le))
              ∙ total_zero 0 bit_xor byte_laws (get_or m.rows j [])

      word_fits : (arrivals : List Arrival) → All (λ (a : Arrival). a.0 < m.n) arrivals
          → ((c : ℕ) → positions arrivals c ≡ s c) → Fits arrivals x
          → IsFitting m len arrivals word
      unfolding symbol
      word_fits arrivals inside same fits = record {
        codeword = record {
          count = word_length;
          symbols = word_symbols;
          rows = All-from_get_or (SumsToZero len (symbol_at len word)) m.rows [] row_zero;
        };
        fits = All-from_get_or (λ (a : Arrival). symbol_at len word a.0 ≡ a.1) arrivals (0, [])
            (λ i lt. word_at _ (inside i (0, []) lt)
            ∙ ap (λ b. cond b (x (get_or arrivals i (0, [])).0)
            (solved (get_or arrivals i (0, [])).0))
            (sym (same _)
            ∙ any_from (λ (a : Arrival). a.0 == (get_or arrivals i (0, [])).0) (0, []) arrivals i
            lt (eq-eqb _ _ refl))
            ∙ fits i (0, []) lt);
      }

    pub refuted_or : (arrivals : List Arrival) → All (λ (a : Arrival). a.0 < m.n) arrivals
        → ((c : ℕ) → positions arrivals c ≡ s c) → Fits arrivals x
        → ((word : List (List ℕ)) × IsFitting m len arrivals word)
        ⊎ ((rows : List ℕ) × IsClosed m s rows × Contradicts m len x rows)
    refuted_or arrivals inside same fits = ⊎_elim
        (λ w. inr (contradiction w.0 w.2))
        (λ good. let all = every good in
        inl (word all, word_fits all arrivals inside same fits))
        (search_below (λ t. Contradictory m.n (length m.rows) absent (row_sum t))
        (λ t. Solvable m.n (length m.rows) absent (row_sum t)) choose len)
      where
        flip : {A B : Type 0} → A ⊎ B → B ⊎ A
        flip e = ⊎_elim (λ a. inr a) (λ b. inl b) e

        choose : (t : ℕ) → Contradictory m.n (length m.rows) absent (row_sum t)
            ⊎ Solvable m.n (length m.rows) absent (row_sum t)
        choose t = flip (alternative (length m.rows) m.n absent (row_sum t) (sum_small t))

        every : ((t : ℕ) → t < len → Solvable m.n (length m.rows) absent (row_sum t))
            → (t : ℕ) → Solvable m.n (length m.rows) absent (row_sum t)
        every good t = ⊎_elim (good t)
            (λ le. (
              (λ c. 0),
              (λ c. lit< tt),
              λ j lt.
                  product_zero 0 bit_xor byte_laws m.n (absent j) (λ c. 0) (λ c lt2. inr refl)
                  ∙ sym (sum_past t j le),
            ))
            (cases_lt t len)

  -- ---- a reduced one contradicts as well

  pub reduced_refutes : (len : ℕ) (s : Set) (x : ℕ → List ℕ) (rows : List ℕ)
      → IsAssignment len x → IsClosed m s rows → Contradicts m len x rows
      → (reduced : List ℕ) × IsReducedWord (IsClosed m s) reduced × Contradicts m len x reduced
  reduced_refutes len s x rows hx closed contra = ⊎_elim at_bit (λ z. absurd (contra z))
      (differ_symbol len _ (zero_symbol len)
      (sum_is_symbol len x hx (members m.n (odd_columns m rows))) (zero_is_symbol len))
    where
      -- bit i of byte j of the sum over the odd columns
      odd_bit : ℕ → ℕ → List ℕ → Bool
      odd_bit i j w =
          product false bool_xor m.n (odd_columns m w) (λ c. bit i (byte j (x c)))

      sum_bit : (i j : ℕ) (w : List ℕ) → odd_bit i j w
          ≡ bit i (byte j (xor_sum len x (members m.n (odd_columns m w))))
      sum_bit i j w =
          sym (members_total false bool_xor bit_laws m.n (odd_columns m w)
          (λ c. bit i (byte j (x c))))
          ∙ bit_of_total i (λ c. byte j (x c)) (members m.n (odd_columns m w))
          ∙ ap (bit i) (sym (byte_sum len x (λ c. (hx c).long) j
          (members m.n (odd_columns m w))))

      zero_bit : (i j : ℕ) → bit i (byte j (zero_symbol len)) ≡ false
      zero_bit i j = ap (bit i) (byte_zero len j) ∙ bit_of_zero i

      added : (i j : ℕ) (a b w : List ℕ) → IsClosed m s a → IsClosed m s b → IsSumOf a b w
          → odd_bit i j w ≡ bool_xor (odd_bit i j a) (odd_bit i j b)
      added i j a b w ha hb sum =
          product_same false bool_xor bit_laws m.n (odd_columns m w)
          (λ c. bool_xor (odd_columns m a c) (odd_columns m b c)) (λ c. bit i (byte j (x c)))
          (λ c lt. odd_sum m a b w ha.rising ha.below hb.rising hb.below sum c)
          ∙ product_xor false bool_xor bit_laws m.n (odd_columns m a) (odd_columns m b)
          (λ c. bit i (byte j (x c)))

      at_bit : (j : ℕ) × (j < len)
          × DifferAt (xor_sum len x (members m.n (odd_columns m rows))) (zero_symbol len) j
          → (reduced : List ℕ) × IsReducedWord (IsClosed m s) reduced
          × Contradicts m len x reduced
      at_bit (j, lt, (i, small, e)) =
          let odd : odd_bit i j rows ≡ true = sum_bit i j rows
          ∙ sym (bit_laws.comm _ false ∙ bit_laws.left _)
          ∙ sym (ap (bool_xor (bit i (byte j
          (xor_sum len x (members m.n (odd_columns m rows)))))) (zero_bit i j)) ∙ e in
          let r = some_reduced (IsClosed m s) (closed_linear m s) (closed_decided m s)
          (odd_bit i j) (added i j) rows closed odd in (
            r.0,
            r.1,
            λ z. true≢false (sym r.2 ∙ sum_bit i j r.0
                ∙ ap (λ w. bit i (byte j w)) z ∙ zero_bit i j),
          )
