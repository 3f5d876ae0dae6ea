-- One arrival more, and what is consistent with the arrivals.
use mathlib.Core.Path.{fun_ext}
use Rattle.std.proofs.Common.{length-append, lt-suc_self, ◌≡◌, ℕ, suc, ⊎_elim, Bool, true, false}
use Rattle.std.proofs.Common.{not, ◌||◌, ◌&&◌, ◌==◌, List, [], ◌∷◌, ◌++◌, length, get_or, filter}
use Rattle.std.proofs.Common.{All, refl, sym, ap, ap₂, ◌∙◌, subst, arith, eqb-true}
use Rattle.std.proofs.lemmas.List.Folds.{list_any-append}
use Rattle.std.proofs.lemmas.List.Elements.{All-head, All-tail, All-from_get_or}
use Rattle.std.specs.List.{range_with_len}
use Rattle.std.proofs.lemmas.List.{get_or_append_left}
use Rattle.std.proofs.Math.Seq.{get_or-append_seam}
use Rattle.fec_base.specs.Symbol.{xor_sum, xor}
use Rattle.sparse_rows.specs.Matrix.{Matrix, HasShape}
use Rattle.sparse_rows.specs.Codeword.{Arrival, Fits, positions}
use Rattle.sparse_rows.specs.Closure.{Set, IsWithin, HasSameMembers, adding, closure, fresh}
use Rattle.sparse_rows.specs.Closure.{members}
use Rattle.peeling.specs.Agree.{Agree}
use Rattle.sparse_rows.specs.Determined.{IsConsistent}
use Rattle.sparse_rows.proofs.Sets.{any_at, same_test, or_none, or_cases, or_first, or_second}
use Rattle.sparse_rows.proofs.Sets.{rounds_hold, rounds_within, rounds_grow}
use Rattle.peeling.proofs.Closure.{closure_rests}
use Rattle.peeling.proofs.Determined.{symbols_agree}
use Rattle.peeling.proofs.Flags.{members_same}

-- the positions with one arrival more
pub positions_push : (arrivals : List Arrival) (e : ℕ) (bytes : List ℕ)
    → positions (arrivals ++ (e, bytes) ∷ []) ≡ adding e (positions arrivals)
positions_push arrivals e bytes = fun_ext (λ c. list_any-append (λ (a : Arrival). a.0 == c) arrivals
    ((e, bytes) ∷ []) ∙ ap (λ b. positions arrivals c || b) (or_none (e == c)))

push_length : (arrivals : List Arrival) (a : Arrival)
    → length (arrivals ++ a ∷ []) ≡ suc (length arrivals)
push_length arrivals a = length-append arrivals (a ∷ []) ∙ omega arith

-- ---- the closure with one position more

-- it is that of the closure with the position
pub closure_adding : (m : Matrix) → HasShape m → (s : Set) (e : ℕ)
    → HasSameMembers (closure m (adding e (closure m s))) (closure m (adding e s))
closure_adding m shape s e c = same_test _ _
    (rounds_within m m.n (adding e (closure m s)) (closure m (adding e s)) inside
    (closure_rests m shape (adding e s)) c)
    (rounds_grow m m.n (adding e s) (adding e (closure m s))
    (λ d f. ⊎_elim (λ g. or_first (closure m s d) (e == d) (rounds_hold m m.n s d g))
    (or_second (closure m s d) (e == d)) (or_cases (s d) (e == d) f)) c)
  where
    inside : IsWithin (adding e (closure m s)) (closure m (adding e s))
    inside d f = ⊎_elim (rounds_grow m m.n s (adding e s) (λ b g. or_first (s b) (e == b) g) d)
        (λ g. rounds_hold m m.n (adding e s) d (or_second (s d) (e == d) g))
        (or_cases (closure m s d) (e == d) f)

-- a position of the closure adds nothing
pub closure_repeat : (m : Matrix) → HasShape m → (s : Set) (e : ℕ) → closure m s e ≡ true
    → closure m (adding e s) ≡ closure m s
closure_repeat m shape s e h = fun_ext (λ c. same_test _ _
    (rounds_within m m.n (adding e s) (closure m s) (λ d f. ⊎_elim (rounds_hold m m.n s d)
    (λ g. ap (closure m s) (sym (eqb-true e d g)) ∙ h) (or_cases (s d) (e == d) f))
    (closure_rests m shape s) c)
    (rounds_grow m m.n s (adding e s) (λ d f. or_first (s d) (e == d) f) c))

-- so nothing is fresh then
pub fresh_repeat : (m : Matrix) → HasShape m → (s : Set) (e : ℕ) → closure m s e ≡ true
    → fresh m s e ≡ []
fresh_repeat m shape s e h = members_same m.n _ (λ c. false)
    (λ c. ap (λ t. t c && not (e == c) && not (closure m s c)) (closure_repeat m shape s e h)
    ∙ none (closure m s c) (e == c)) ∙ filter_none (range_with_len 0 m.n)
  where
    none : (a b : Bool) → (a && not b && not a) ≡ false
    none true true = refl
    none true false = refl
    none false b = refl

    filter_none : (xs : List ℕ) → filter (λ c. false) xs ≡ []
    filter_none [] = refl
    filter_none (x ∷ xs) = filter_none xs

-- what is known now and was not with the position is fresh
pub fresh_is : (m : Matrix) (s before known after : Set) (e : ℕ)
    → HasSameMembers before (closure m s) → HasSameMembers known (closure m (adding e s))
    → HasSameMembers after (adding e before)
    → members m.n (λ c. known c && not (after c)) ≡ fresh m s e
fresh_is m s before known after e was is with =
    members_same m.n _ _ (λ c. ap₂ (λ a b. a && not b) (is c) (with c
    ∙ ap (λ b. b || (e == c)) (was c)) ∙ apart (closure m (adding e s) c) (closure m s c) (e == c))
  where
    apart : (a b d : Bool) → (a && not (b || d)) ≡ (a && not d && not b)
    apart true true true = refl
    apart true true false = refl
    apart true false true = refl
    apart true false false = refl
    apart false b d = refl

-- ---- assignments that are consistent with the arrivals

-- a position that arrived has the bytes that came
pub fits_at : (arrivals : List Arrival) (x y : ℕ → List ℕ) → Fits arrivals x → Fits arrivals y
    → Agree (positions arrivals) x y
fits_at arrivals x y hx hy c e =
    let r = any_at (λ (a : Arrival). a.0 == c) (0, []) arrivals e in
    let z : (get_or arrivals r.0 (0, [])).0 ≡ c = eqb-true _ _ r.2 in
    sym (ap x z) ∙ hx r.0 (0, []) r.1 ∙ sym (hy r.0 (0, []) r.1) ∙ ap y z

-- two that are consistent agree on the closure
pub consistent_agree : (m : Matrix) (len : ℕ) (arrivals : List Arrival) (x y : ℕ → List ℕ)
    → IsConsistent m len arrivals x → IsConsistent m len arrivals y
    → Agree (closure m (positions arrivals)) x y
consistent_agree m len arrivals x y hx hy = symbols_agree m len (positions arrivals) x y hx.symbols
    hy.symbols hx.rows hy.rows (fits_at arrivals x y hx.fits hy.fits)

-- what is consistent with one arrival more is consistent with the earlier ones, and has the
-- arrival's bytes
pub consistent_before : (m : Matrix) (len : ℕ) (arrivals : List Arrival) (e : ℕ) (bytes : List ℕ)
    (x : ℕ → List ℕ) → IsConsistent m len (arrivals ++ (e, bytes) ∷ []) x
    → IsConsistent m len arrivals x
consistent_before m len arrivals e bytes x h = record {
  symbols = h.symbols;
  fits = All-from_get_or (λ (a : Arrival). x a.0 ≡ a.1) arrivals (e, bytes)
      (λ i lt. subst (λ (a : Arrival). x a.0 ≡ a.1) (get_or_append_left arrivals ((e, bytes) ∷ [])
      (e, bytes) i lt) (h.fits i (e, bytes) (rw (push_length arrivals (e, bytes)) (omega arith))));
  rows = λ k d lt within. h.rows k d lt (λ i b lt2. larger _ (within i b lt2));
}
  where
    larger : IsWithin (closure m (positions arrivals))
        (closure m (positions (arrivals ++ (e, bytes) ∷ [])))
    larger = rounds_grow m m.n _ _ (λ c f. ap (λ s. s c) (positions_push arrivals e bytes)
        ∙ or_first (positions arrivals c) (e == c) f)

pub consistent_at : (m : Matrix) (len : ℕ) (arrivals : List Arrival) (e : ℕ) (bytes : List ℕ) (x : ℕ
    → List ℕ) → IsConsistent m len (arrivals ++ (e, bytes) ∷ []) x → x e ≡ bytes
consistent_at m len arrivals e bytes x h = subst (λ (a : Arrival). x a.0 ≡ a.1)
    (get_or-append_seam arrivals (e, bytes) [] (e, bytes)) (h.fits (length arrivals) (e, bytes)
    (rw (push_length arrivals (e, bytes)) (lt-suc_self _)))

-- sums of symbols that agree on the row
pub sums_agree : (len : ℕ) (x y : ℕ → List ℕ) (row : List ℕ) → All (λ c. x c ≡ y c) row
    → xor_sum len x row ≡ xor_sum len y row
sums_agree len x y [] h = refl
sums_agree len x y (c ∷ row) h = ap₂ xor (All-head (λ d. x d ≡ y d) c row h)
    (sums_agree len x y row (All-tail (λ d. x d ≡ y d) c row h))
