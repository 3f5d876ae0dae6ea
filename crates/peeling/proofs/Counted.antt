-- What each row has left, and the sum of what it has seen.
use Rattle.std.proofs.Common.{◌≡◌, ◌%◌, ◌≢◌, ℕ, suc, ◌+◌, ◌<◌, ⊎_elim, Bool, true, false, not, cond}
use Rattle.std.proofs.Common.{◌==◌, List, [], ◌∷◌, ◌++◌, length, get_or, set, take, filter, map}
use Rattle.std.proofs.Common.{replicate, All, refl, sym, ap, ap₂, ◌∙◌, subst, arith, true≢false}
use Rattle.std.proofs.Common.{eqb-true, eq-eqb, bit_xor, length-set, add-suc, suc-add}
use Rattle.std.specs.List.Sorted.{IsStrictlyIncreasing}
use Rattle.std.proofs.lemmas.List.{take_more, map-append, length-map, get_or-map, length-replicate}
use Rattle.std.proofs.lemmas.List.{get_or-set_same, get_or-set_other}
use Rattle.std.proofs.lemmas.Bool.{ne_eqb}
use Rattle.std.proofs.lemmas.List.Elements.{All-set, All-replicate, filter_passes}
use Rattle.std.proofs.lemmas.List.Kept.{IsStrictlyIncreasing-filter}
use Rattle.fec_base.specs.Symbol.{IsSymbol, zero_symbol, xor, xor_sum}
use Rattle.sparse_rows.specs.Matrix.{Matrix, HasShape, row_of, is_in}
use Rattle.sparse_rows.specs.Codeword.{symbol_at, IsAssignment}
use Rattle.sparse_rows.specs.Closure.{Set, IsWithin, outside, adding}
use Rattle.sparse_rows.proofs.Algebra.{total_split, moved, right}
use Rattle.sparse_rows.specs.Totals.{total}
use Rattle.fec_base.proofs.SymbolBytes.{byte, byte_xor, same_bytes, length_xor}
use Rattle.sparse_rows.proofs.Planes.{byte_laws, byte_sum, length_sum, zero_is_symbol}
use Rattle.sparse_rows.proofs.Sets.{same_test, or_cases, or_first, true_or_false}
use Rattle.sparse_rows.proofs.Null.{in_filter, passes}
use Rattle.sparse_rows.proofs.Increasing.{rising_same}
use Rattle.sparse_rows.proofs.Encode.{sum_is_symbol}
use Rattle.peeling.specs.declared.unknowns.Unknowns.{Unknowns}
use Rattle.peeling.specs.Unknowns.{xor_of, unknowns_of, IsCounted}
use Rattle.peeling.proofs.Arrivals.{sums_agree}
use Rattle.peeling.proofs.Laid.{keeping, symbols_put, zeros_at}
use Rattle.peeling.proofs.UnderWay.{seeing, seeing_at, seeing_other, outside_same, filter_same}

-- ---- one row that sees one column

-- whether it is this column
abbrev pub is_it : ℕ → Set
is_it c d = c == d

length_split : (p : Set) (xs : List ℕ)
    → length xs ≡ length (filter p xs) + length (filter (λ d. not (p d)) xs)
length_split p [] = refl
length_split p (x ∷ xs) = by_case (p x) (length_split p xs)
  where
    by_case : (b : Bool) → length xs ≡ length (filter p xs) + length (filter (λ d. not (p d)) xs)
        → suc (length xs) ≡ length (cond b (x ∷ filter p xs) (filter p xs)) + length
        (cond (not b) (x ∷ filter (λ d. not (p d)) xs) (filter (λ d. not (p d)) xs))
    by_case true ih = ap suc ih ∙ sym (suc-add _ _)
    by_case false ih = ap suc ih ∙ sym (add-suc _ _)

-- of a rising list with the column, that column alone
it_alone : (xs : List ℕ) (c : ℕ) → IsStrictlyIncreasing xs → is_in xs c ≡ true
    → filter (is_it c) xs ≡ c ∷ []
it_alone xs c rising e = rising_same (filter (is_it c) xs) (c ∷ [])
    (IsStrictlyIncreasing-filter (is_it c) xs rising) (λ k lt. absurd (omega (arith, lt)))
    (λ d. same_test _ _
    (λ f. or_first (c == d) false (passes (is_it c) xs d f))
    (λ f. ⊎_elim (λ g. in_filter (is_it c) xs d (subst (λ z. is_in xs z ≡ true) (eqb-true c d g) e)
    g) (λ g. absurd (true≢false (sym g))) (or_cases (c == d) false f)))

outside_adding : (s : Set) (c : ℕ) (row : List ℕ)
    → outside (adding c s) row ≡ filter (λ d. not (is_it c d)) (outside s row)
outside_adding s c [] = refl
outside_adding s c (x ∷ row) = by_case (s x) (c == x) refl refl (outside_adding s c row)
  where
    by_case : (a b : Bool) → s x ≡ a → (c == x) ≡ b
        → outside (adding c s) row ≡ filter (λ d. not (is_it c d)) (outside s row)
        → outside (adding c s) (x ∷ row) ≡ filter (λ d. not (is_it c d)) (outside s (x ∷ row))
    by_case true b e f ih = rw e ih
    by_case false true e f ih = rw (e, f) ih
    by_case false false e f ih = rw (e, f) (ap (λ z. x ∷ z) ih)

total_xor_of : (cs : List ℕ) → xor_of cs ≡ total 0 bit_xor (λ c. c) cs
total_xor_of [] = refl
total_xor_of (c ∷ cs) = ap (bit_xor c) (total_xor_of cs)

module _ (s : Set) (c : ℕ) (row : List ℕ) (rising : IsStrictlyIncreasing row)
    (there : is_in row c ≡ true) (unseen : s c ≡ false) where
  in_rest : is_in (outside s row) c ≡ true
  in_rest = in_filter (λ d. not (s d)) row c there (ap not unseen)

  alone : filter (is_it c) (outside s row) ≡ c ∷ []
  alone = it_alone (outside s row) c (IsStrictlyIncreasing-filter (λ d. not (s d)) row rising)
      in_rest

  pub one_less : length (outside s row) ≡ suc (length (outside (adding c s) row))
  one_less = length_split (is_it c) (outside s row)
      ∙ ap₂ ◌+◌ (ap length alone) (ap length (sym (outside_adding s c row))) ∙ omega arith

  -- the sum over the columns that are left loses that of c
  rest_total : (x : ℕ → ℕ) → total 0 bit_xor x (outside s row) ≡ bit_xor (x c)
      (total 0 bit_xor x (outside (adding c s) row))
  rest_total x = total_split 0 bit_xor byte_laws (is_it c) x (outside s row)
      ∙ ap₂ bit_xor (ap (total 0 bit_xor x) alone ∙ right 0 bit_xor byte_laws (x c))
      (ap (total 0 bit_xor x) (sym (outside_adding s c row)))

  pub xor_less : bit_xor (xor_of (outside s row)) c ≡ xor_of (outside (adding c s) row)
  xor_less = ap (λ z. bit_xor z c) (total_xor_of (outside s row) ∙ rest_total (λ d. d)
      ∙ byte_laws.comm c rest) ∙ byte_laws.assoc rest c c ∙ ap (bit_xor rest) (byte_laws.self c)
      ∙ right 0 bit_xor byte_laws rest
      ∙ sym (total_xor_of (outside (adding c s) row))
    where
      rest : ℕ
      rest = total 0 bit_xor (λ d. d) (outside (adding c s) row)

  -- and that over the others gains it
  part_total : (x : ℕ → ℕ) → total 0 bit_xor x (filter (adding c s) row)
      ≡ bit_xor (total 0 bit_xor x (filter s row)) (x c)
  part_total x = moved 0 bit_xor byte_laws (total 0 bit_xor x (filter s row))
      (total 0 bit_xor x (outside (adding c s) row)) (x c)
      (total 0 bit_xor x (filter (adding c s) row))
      (sym (total_split 0 bit_xor byte_laws (adding c s) x row) ∙ total_split 0 bit_xor byte_laws s
      x row ∙ ap (bit_xor (total 0 bit_xor x (filter s row))) (rest_total x))

  pub sum_more : (len : ℕ) (x : ℕ → List ℕ) → IsAssignment len x
      → xor (xor_sum len x (filter s row)) (x c) ≡ xor_sum len x (filter (adding c s) row)
  sum_more len x h = sym (same_bytes _ _ (part_length (adding c s)
      ∙ sym (length_xor (xor_sum len x (filter s row)) (x c) equal ∙ part_length s)) (λ j.
      byte_sum len x (λ d. (h d).long) j (filter (adding c s) row) ∙ part_total (λ d. byte j (x d))
      ∙ ap (λ z. bit_xor z (byte j (x c))) (sym (byte_sum len x (λ d. (h d).long) j (filter s row)))
      ∙ sym (byte_xor (xor_sum len x (filter s row)) (x c) equal j)))
    where
      part_length : (t : Set) → length (xor_sum len x (filter t row)) ≡ len
      part_length t = length_sum len x (λ d. (h d).long) (filter t row)

      equal : length (xor_sum len x (filter s row)) ≡ length (x c)
      equal = part_length s ∙ sym (h c).long

  -- what is left of the row
  pub left_less : unknowns_of (outside (adding c s) row) ≡ record {
    count = (length (outside s row) % 65536 + 65535) % 65536;
    columns = bit_xor (xor_of (outside s row)) c;
  }
  left_less =
      let count : length (outside (adding c s) row) % 65536
      ≡ (length (outside s row) % 65536 + 65535) % 65536 = omega (arith, one_less) in
      rw (count, xor_less) refl

-- where one column is left, it is the XOR
pub one_left : (columns : List ℕ) → length columns ≡ 1 → columns ≡ xor_of columns ∷ []
one_left [] e = absurd (omega arith)
one_left (c ∷ []) e = ap (λ z. z ∷ []) (sym (byte_laws.comm c 0 ∙ byte_laws.left c))
one_left (c ∷ d ∷ columns) e = absurd (omega arith)

pub none_left : (columns : List ℕ) → length columns ≡ 0 → columns ≡ []
none_left [] e = refl
none_left (c ∷ columns) e = absurd (omega arith)

-- ---- all rows

module _ (m : Matrix) (shape : HasShape m) (len : ℕ) (seen : ℕ → Set) (x : ℕ
    → List ℕ) (is : IsAssignment len x) (rows : List Unknowns) (sums : List (List ℕ))
    (h : IsCounted m len seen x rows sums) where
  -- one row sees one column
  module _ (r c : ℕ) (lt : r < length m.rows) (there : is_in (row_of m r) c ≡ true)
      (unseen : seen r c ≡ false) (d0 old new : Unknowns) (old_is : old ≡ get_or rows r d0)
      (new_is : new ≡ record {
        count = (old.count + 65535) % 65536;
        columns = bit_xor old.columns c;
      })
      (sum : List ℕ) (sum_is : sum ≡ xor (symbol_at len sums r) (x c)) (next : List (List ℕ))
      (next_is : next ≡ set sums r sum) where
    rising : IsStrictlyIncreasing (row_of m r)
    rising = (shape.row r lt).rising

    old_left : old ≡ unknowns_of (outside (seen r) (row_of m r))
    old_left = old_is ∙ h.left r d0 lt

    pub new_left : new ≡ unknowns_of (outside (adding c (seen r)) (row_of m r))
    new_left = new_is ∙ ap (λ (u : Unknowns).
        record { count = (u.count + 65535) % 65536; columns = bit_xor u.columns c }) old_left
        ∙ sym (left_less (seen r) c (row_of m r) rising there unseen)

    pub sum_new : sum ≡ xor_sum len x (filter (adding c (seen r)) (row_of m r))
    sum_new = sum_is ∙ ap (λ s. xor s (x c)) (h.sum r lt) ∙ sum_more (seen r) c (row_of m r) rising
        there unseen len x is

    sum_symbol : IsSymbol len sum
    sum_symbol = subst (IsSymbol len) (sym sum_new)
        (sum_is_symbol len x is (filter (adding c (seen r)) (row_of m r)))

    pub next_laid : symbol_at len next ≡ keeping r sum (symbol_at len sums)
    next_laid = ap (symbol_at len) next_is ∙ symbols_put len sums sum r (omega (arith, lt, h.long))

    left_at : (i : ℕ) (d : Unknowns) → i < length m.rows
        → get_or (set rows r new) i d ≡ unknowns_of (outside (seeing r c seen i) (row_of m i))
    left_at i d lt2 = ⊎_elim
        (λ e. subst (λ j. get_or (set rows r new) j d ≡ unknowns_of
        (outside (seeing r c seen j) (row_of m j))) (eqb-true r i e)
        (get_or-set_same rows r new d (omega (arith, lt, h.count)) ∙ new_left
        ∙ ap (λ (s : Set). unknowns_of (outside s (row_of m r))) (sym (seeing_at r c seen))))
        (λ e. get_or-set_other rows r i new d (apart i e) ∙ h.left i d lt2
        ∙ ap (λ (s : Set). unknowns_of (outside s (row_of m i)))
        (sym (seeing_other r c seen i e)))
        (true_or_false (r == i))
      where
        apart : (i : ℕ) → (r == i) ≡ false → i ≢ r
        apart i e z = true≢false (sym (eq-eqb r i (sym z)) ∙ e)

    sum_at : (i : ℕ) → i < length m.rows
        → symbol_at len next i ≡ xor_sum len x (filter (seeing r c seen i) (row_of m i))
    sum_at i lt2 = ap (λ (f : ℕ → List ℕ). f i) next_laid ∙ ⊎_elim
        (λ e. subst (λ j. keeping r sum (symbol_at len sums) j ≡ xor_sum len x
        (filter (seeing r c seen j) (row_of m j))) (eqb-true r i e)
        (ap (λ b. cond b sum (symbol_at len sums r)) (eq-eqb r r refl) ∙ sum_new
        ∙ ap (λ (s : Set). xor_sum len x (filter s (row_of m r))) (sym (seeing_at r c seen))))
        (λ e. ap (λ b. cond b sum (symbol_at len sums i)) e ∙ h.sum i lt2
        ∙ ap (λ (s : Set). xor_sum len x (filter s (row_of m i)))
        (sym (seeing_other r c seen i e)))
        (true_or_false (r == i))

    pub counted_more : IsCounted m len (seeing r c seen) x (set rows r new) next
    counted_more = record {
      count = length-set rows r new ∙ h.count;
      long = ap length next_is ∙ length-set sums r sum ∙ h.long;
      each = subst (All (IsSymbol len)) (sym next_is) (All-set (IsSymbol len) sums r sum sum_symbol
          h.each);
      left = left_at;
      sum = sum_at;
    }

  -- a column that no row has seen gets its symbol
  pub counted_keeping : (known : Set) → ((i : ℕ) → IsWithin (seen i) known)
      → (d : ℕ) (symbol : List ℕ) → known d ≡ false → IsCounted m len seen (keeping d symbol x) rows
      sums
  counted_keeping known sees d symbol unknown = record {
    count = h.count;
    long = h.long;
    each = h.each;
    left = h.left;
    sum = λ i lt. h.sum i lt ∙ sums_agree len x (keeping d symbol x) (filter (seen i) (row_of m i))
        (λ k e lt2.
        sym (ap (λ b. cond b symbol (x (get_or (filter (seen i) (row_of m i)) k e)))
        (ne_eqb d _ (λ z. true≢false (sym (sees i _ (filter_passes (seen i) (row_of m i) k e lt2))
        ∙ ap known (sym z) ∙ unknown)))));
  }

  -- what a row has seen matters for its own columns alone
  pub counted_same : (saw : ℕ → Set)
      → ((i : ℕ) → i < length m.rows → All (λ c. seen i c ≡ saw i c) (row_of m i))
      → IsCounted m len saw x rows sums
  counted_same saw same = record {
    count = h.count;
    long = h.long;
    each = h.each;
    left = λ i d lt. h.left i d lt
        ∙ ap unknowns_of (outside_same (seen i) (saw i) (row_of m i) (same i lt));
    sum = λ i lt. h.sum i lt ∙ ap (xor_sum len x) (filter_same (seen i) (saw i) (row_of m i)
        (same i lt));
  }

-- ---- nothing is seen

none_outside : (row : List ℕ) → outside (λ c. false) row ≡ row
none_outside [] = refl
none_outside (c ∷ row) = ap (λ cs. c ∷ cs) (none_outside row)

none_kept : (row : List ℕ) → filter (λ c. false) row ≡ []
none_kept [] = refl
none_kept (c ∷ row) = none_kept row

pub counted_none : (m : Matrix) (len : ℕ) (x : ℕ → List ℕ)
    → IsCounted m len (λ i c. false) x (map unknowns_of m.rows)
    (replicate (length m.rows) (zero_symbol len))
counted_none m len x = record {
  count = length-map m.rows unknowns_of;
  long = length-replicate (length m.rows) (zero_symbol len);
  each = All-replicate (IsSymbol len) (length m.rows) (zero_symbol len) (zero_is_symbol len);
  left = λ i d lt. get_or-map unknowns_of m.rows i [] d lt
      ∙ ap unknowns_of (sym (none_outside (row_of m i)));
  sum = λ i lt. zeros_at len (length m.rows) i ∙ ap (xor_sum len x) (sym (none_kept (row_of m i)));
}

-- ---- what a row has left, read column by column

pub xor_push : (columns : List ℕ) (c : ℕ) → xor_of (columns ++ c ∷ []) ≡ bit_xor (xor_of columns) c
xor_push [] c = byte_laws.comm c 0
xor_push (d ∷ columns) c = ap (bit_xor d) (xor_push columns c)
    ∙ sym (byte_laws.assoc d (xor_of columns) c)

pub xor_more : (row : List ℕ) (i c x : ℕ) → i < length row → c ≡ get_or row i 0
    → x ≡ xor_of (take i row) → bit_xor x c ≡ xor_of (take (i + 1) row)
xor_more row i c x lt is x_is = ap₂ bit_xor x_is is ∙ sym (xor_push (take i row) (get_or row i 0))
    ∙ ap xor_of (sym (take_more row i 0 lt))

pub rows_more : (all : List (List ℕ)) (r : ℕ) (left : Unknowns) (rows : List Unknowns)
    → r < length all → left ≡ unknowns_of (get_or all r []) → rows ≡ map unknowns_of (take r all)
    → rows ++ left ∷ [] ≡ map unknowns_of (take (r + 1) all)
rows_more all r left rows lt is rows_is = ap₂ (λ (xs : List Unknowns) (u : Unknowns). xs ++ u ∷ [])
    rows_is is
    ∙ sym (ap (map unknowns_of) (take_more all r [] lt) ∙ map-append unknowns_of (take r all)
    (get_or all r [] ∷ []))
