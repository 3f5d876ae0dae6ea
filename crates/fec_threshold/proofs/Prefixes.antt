-- Prefixes of an order and their null words.
use Rattle.std.proofs.Common.{◌≡◌, ℕ, ◌+◌, ◌<◌, ◌≤◌, ⊎_elim, ◌==◌, List, length, take, sym}
use Rattle.std.proofs.Common.{ap, ◌∙◌, subst, arith, le_antisymm, le_refl}
use Rattle.std.proofs.lemmas.List.{get_or-take, length-take, take_all}
use Rattle.std.proofs.lemmas.Bool.{cases_lt}
use Rattle.sparse_rows.specs.Matrix.{Matrix, is_in}
use Rattle.sparse_rows.specs.Closure.{IsWithin}
use Rattle.sparse_rows.specs.NullWord.{IsNullWord}
use Rattle.sparse_rows.proofs.Sets.{any_at, any_from}
use Rattle.null_witness.proofs.Subsets.{null_subset}
use Rattle.fec_threshold.specs.LeastPrefix.{HasNullWord, IsLeastPrefix}

-- a prefix lies within a longer one
take_within : (order : List ℕ) (p q : ℕ) → p ≤ q
    → IsWithin (is_in (take p order)) (is_in (take q order))
take_within order p q le c e =
    let r = any_at (λ d. d == c) 0 (take p order) e in
    let long = length-take p order in
    let longer = length-take q order in
    let short : r.0 < p = omega (arith, r.1, long) in
    let inside : r.0 < length (take q order) = omega (arith, r.1, long, longer) in
    any_from (λ d. d == c) 0 (take q order) r.0 inside
    (ap (λ d. d == c) (get_or-take q order r.0 0 (omega (arith, short))
    ∙ sym (get_or-take p order r.0 0 short)) ∙ r.2)

pub null_shorter : (m : Matrix) (order : List ℕ) (p q : ℕ) (word : List ℕ) → p ≤ q
    → IsNullWord m (is_in (take q order)) word → IsNullWord m (is_in (take p order)) word
null_shorter m order p q word le null =
    null_subset m (is_in (take p order)) (is_in (take q order)) word (take_within order p q le) null

pub least_is_one : (m : Matrix) (order : List ℕ) (p q : ℕ) → IsLeastPrefix m order p
    → IsLeastPrefix m order q → p ≡ q
least_is_one m order p q hp hq = le_antisymm (hp.least q hq.none) (hq.least p hp.none)

-- ---- halving

-- each prefix shorter than low has a null word, and that of length high has none
abbrev pub Between : Matrix → List ℕ → ℕ → ℕ → Type 0
Between m order low high = ((q : ℕ) → q < low → HasNullWord m (is_in (take q order)))
    × (¬ HasNullWord m (is_in (take high order)))

pub between_up : (m : Matrix) (order : List ℕ) (low middle high : ℕ)
    → HasNullWord m (is_in (take middle order)) → Between m order low high
    → Between m order (middle + 1) high
between_up m order low middle high some h =
    (λ q lt. (some.0, null_shorter m order q middle some.0 (omega (arith, lt)) some.1), h.1)

pub between_end : (m : Matrix) (order : List ℕ) (low high : ℕ) → high ≤ low
    → high ≤ length order → Between m order low high → IsLeastPrefix m order high
between_end m order low high le within h = record {
  within = within;
  none = h.1;
  least = λ q none. ⊎_elim
      (λ (lt : q < high). absurd (none (h.0 q (omega (arith, lt, le))))) (λ le2. le2)
      (cases_lt q high);
}

pub between_all : (m : Matrix) (order : List ℕ) → (¬ HasNullWord m (is_in order))
    → Between m order 0 (length order)
between_all m order none = (
  λ q lt. absurd (omega arith),
  λ some. none (
    some.0,
    subst (λ xs. IsNullWord m (is_in xs) some.0) (take_all (length order) order (le_refl _))
        some.1,
  ),
)
