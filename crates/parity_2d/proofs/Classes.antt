-- Source symbols that come one by one, each into the row of its class.
use Rattle.std.proofs.Common.{◌≡◌, ℕ, ◌+◌, ◌<◌, Bool, true, false, cond, ◌==◌, eq-eqb, List, []}
use Rattle.std.proofs.Common.{◌∷◌, ◌++◌, filter, map, length, get_or, set, All, refl, sym, ap, ◌∙◌}
use Rattle.std.proofs.Common.{arith, append-nil, length-set, subst}
use Rattle.std.specs.List.{range_with_len}
use Rattle.std.proofs.lemmas.Bool.{eqb-true}
use Rattle.std.proofs.lemmas.List.{map-id, get_or-set_same, get_or-set_other}
use Rattle.std.proofs.lemmas.List.Elements.{All-nil, All-from_get_or, All-filter, filter-append}
use Rattle.std.proofs.lemmas.List.FromFn.{length-range_with_len, get_or-range_with_len}
use Rattle.std.proofs.lemmas.List.FromFn.{length-map-range_with_len, get_or-map-range_with_len}
use Rattle.std.proofs.lemmas.List.FromFn.{map-range_with_len_more, fill_by_all}
use Rattle.sparse_rows.specs.Matrix.{with_column}
use Rattle.sparse_rows.proofs.Rising.{with_column_between}

-- the source symbols below c in class i
abbrev pub class : (ℕ → ℕ) → ℕ → ℕ → List ℕ
class class_of c i = filter (λ x. class_of x == i) (range_with_len 0 c)

-- the source symbols below c, class by class
abbrev pub classes : (ℕ → ℕ) → ℕ → ℕ → List (List ℕ)
classes class_of count c = map (class class_of c) (range_with_len 0 count)

-- a column above all others of a row goes to its end
pub with_last_column : (c : ℕ) (row : List ℕ) → All (λ x. x < c) row
    → with_column c row ≡ row ++ c ∷ []
with_last_column c row below = ap (with_column c) (sym (append-nil row))
    ∙ with_column_between c row [] below (All-nil (λ x. c < x))

pub range_below : (c : ℕ) → All (λ x. x < c) (range_with_len 0 c)
range_below c = All-from_get_or (λ x. x < c) (range_with_len 0 c) 0
    (λ i inside. let lt : i < c = omega (arith, inside, length-range_with_len 0 c) in
    omega (arith, get_or-range_with_len 0 c i 0 lt))

pub class_below : (class_of : ℕ → ℕ) (c i : ℕ) → All (λ x. x < c) (class class_of c i)
class_below class_of c i = All-filter (λ x. class_of x == i) (λ x. x < c) (range_with_len 0 c)
    (range_below c)

pub range_more : (c : ℕ) → range_with_len 0 (c + 1) ≡ range_with_len 0 c ++ c ∷ []
range_more c = sym (map-id (range_with_len 0 (c + 1))) ∙ map-range_with_len_more (λ (x : ℕ). x) 0 c
    c (omega arith) ∙ ap (λ xs. xs ++ c ∷ []) (map-id (range_with_len 0 c))

class_more : (class_of : ℕ → ℕ) (c i : ℕ) → class class_of (c + 1) i ≡ class class_of c i
    ++ cond (class_of c == i) (c ∷ []) []
class_more class_of c i = ap (filter (λ x. class_of x == i)) (range_more c)
    ∙ filter-append (λ x. class_of x == i) (range_with_len 0 c) (c ∷ [])

-- symbol c goes into the row of its class
pub classes_more : (class_of : ℕ → ℕ) (count c : ℕ) → class_of c < count
    → set (classes class_of count c) (class_of c)
    (with_column c (get_or (classes class_of count c) (class_of c) [])) ≡ classes class_of count
    (c + 1)
classes_more class_of count c inside = fill_by_all (class class_of (c + 1))
    (set rows own (with_column c (get_or rows own []))) count []
    (length-set rows own _ ∙ long) (λ i lt. at i lt (own == i) refl)
  where
    rows : List (List ℕ)
    rows = classes class_of count c

    own : ℕ
    own = class_of c

    long : length rows ≡ count
    long = length-map-range_with_len (class class_of c) 0 count

    row_is : (i : ℕ) → i < count → get_or rows i [] ≡ class class_of c i
    row_is i lt = get_or-map-range_with_len (class class_of c) 0 count i i [] lt (omega arith)

    own_more : with_column c (get_or rows own []) ≡ class class_of (c + 1) own
    own_more = ap (with_column c) (row_is own inside) ∙ with_last_column c (class class_of c own)
        (class_below class_of c own)
        ∙ ap (λ b. class class_of c own ++ cond b (c ∷ []) []) (sym (eq-eqb own own refl))
        ∙ sym (class_more class_of c own)

    at : (i : ℕ) → i < count → (b : Bool) → (own == i) ≡ b
        → get_or (set rows own (with_column c (get_or rows own []))) i [] ≡ class class_of (c + 1) i
    at i lt true e = subst (λ j. get_or (set rows own (with_column c (get_or rows own []))) j []
        ≡ class class_of (c + 1) j) (eqb-true own i e)
        (get_or-set_same rows own _ [] (rw long inside) ∙ own_more)
    at i lt false e = get_or-set_other rows own i _ []
        (λ same. absurd (cc (e, eq-eqb own i (sym same)))) ∙ row_is i lt
        ∙ sym (append-nil (class class_of c i)) ∙ ap (λ b. class class_of c i ++ cond b (c ∷ []) [])
        (sym e) ∙ sym (class_more class_of c i)
