-- Positions that come one after the other.
use Rattle.std.proofs.Common.{⊎_elim, ◌≡◌, ℕ, suc, Bool, true, false}
use Rattle.std.proofs.Common.{◌==◌, ◌||◌, List, [], ◌∷◌, length, refl}
use Rattle.std.proofs.Common.{subst, arith}
use Rattle.std.proofs.lemmas.Bool.{false_from_ne_true}
use Rattle.sparse_rows.specs.Matrix.{Matrix, is_in}
use Rattle.sparse_rows.specs.Closure.{Set, adding}
use Rattle.sparse_rows.specs.NullWord.{IsNullWord}
use Rattle.sparse_rows.proofs.Sets.{or_cases, or_first, or_second}
use Rattle.null_witness.proofs.Subsets.{null_subset}
use Rattle.repair_request.specs.Settling.{AreInnovative, IsDeficiency, IsInnovative, Settles}
use Rattle.repair_request.specs.Settling.{together}
use Rattle.repair_request.proofs.Further.{adding_null, null_together, together_lacks}
use Rattle.repair_request.proofs.Further.{together_null}
use Rattle.repair_request.proofs.Late.{deficiency_is, exactly_one, fewest, innovative_or_not}
use Rattle.repair_request.proofs.Late.{just_same, late_list, late_list_is, none_left, settles_rest}

-- ---- the deficiency with one further position

module _ (m : Matrix) (s : Set) (e before after : ℕ) (h : IsDeficiency m s before)
    (g : IsDeficiency m (adding e s) after) where
  pub lowers : IsInnovative m s e → before ≡ suc after
  lowers some =
      let step = exactly_one m s e (late_list m s) (late_list m (adding e s)) (late_list_is m s)
      (late_list_is m (adding e s)) some in
      omega (arith, step, deficiency_is m s before h, deficiency_is m (adding e s) after g)

  pub same : (¬ IsInnovative m s e) → before ≡ after
  same none =
      let step = just_same m s e (late_list m s) (late_list m (adding e s)) (late_list_is m s)
      (late_list_is m (adding e s)) none in
      omega (arith, step, deficiency_is m s before h, deficiency_is m (adding e s) after g)

-- each set has a deficiency
pub deficiency : (m : Matrix) (s : Set) → IsDeficiency m s (length (late_list m s))
deficiency m s = fewest m s (late_list m s) (late_list_is m s)

-- ---- none are needed where there is no null word

empty_of : (xs : List ℕ) → length xs ≡ 0 → xs ≡ []
empty_of [] e = refl
empty_of (x ∷ xs) e = absurd (omega arith)

pub none_needed : (m : Matrix) (s : Set) → IsDeficiency m s 0 → (word : List ℕ)
    → ¬ IsNullWord m s word
none_needed m s d = none_left m s
    (subst (Settles m s) (empty_of d.enough.0 d.enough.2) d.enough.1)

pub needs_none : (m : Matrix) (s : Set) → ((word : List ℕ) → ¬ IsNullWord m s word)
    → IsDeficiency m s 0
needs_none m s none = record {
  enough = (
    [],
    λ word null. none word (null_subset m s (together s []) word (λ c e. rw e refl) null),
    refl,
  );
  least = λ request settles. omega arith;
}

-- ---- as many as the deficiency

or_back : (a b c : Bool) → ((a || b) || c) ≡ true → (a || (b || c)) ≡ true
or_back true b c e = refl
or_back false b c e = e

settles_more : (m : Matrix) (s : Set) (e : ℕ) (request : List ℕ) → Settles m (adding e s) request
    → Settles m s (e ∷ request)
settles_more m s e request settles word null = settles word
    (null_subset m (together (adding e s) request) (together s (e ∷ request)) word
    (λ c f. or_back (s c) (e == c) (is_in request c) f) null)

pub each_innovative : (m : Matrix) (s : Set) (request : List ℕ) → IsDeficiency m s (length request)
    → Settles m s request → AreInnovative m s request
each_innovative m s [] d settles = tt
each_innovative m s (e ∷ request) d settles =
    let rest = settles_rest m s e request settles in
    let least = (deficiency m (adding e s)).least request rest in
    let after : ℕ = length (late_list m (adding e s)) in
    ⊎_elim
    (λ some.
    let step = lowers m s e (length (e ∷ request)) after d (deficiency m (adding e s)) some in
    let is : after ≡ length request = omega (arith, step) in (
      some,
      each_innovative m (adding e s) request
          (subst (IsDeficiency m (adding e s)) is (deficiency m (adding e s))) rest,
    ))
    (λ none.
    let step = same m s e (length (e ∷ request)) after d (deficiency m (adding e s)) none in
    absurd (omega (arith, step, least)))
    (innovative_or_not m s e)

pub innovative_settle : (m : Matrix) (s : Set) (request : List ℕ)
    → IsDeficiency m s (length request) → AreInnovative m s request → Settles m s request
innovative_settle m s [] d each =
    subst (Settles m s) (empty_of d.enough.0 d.enough.2) d.enough.1
innovative_settle m s (e ∷ request) d each =
    let after : ℕ = length (late_list m (adding e s)) in
    let step = lowers m s e (length (e ∷ request)) after d (deficiency m (adding e s)) each.0 in
    let is : after ≡ length request = omega (arith, step) in
    settles_more m s e request (innovative_settle m (adding e s) request
    (subst (IsDeficiency m (adding e s)) is (deficiency m (adding e s))) each.1)

-- ---- what settles holds as many as the deficiency that do

-- a position that no null word holds isn't needed
settles_without : (m : Matrix) (s : Set) (e : ℕ) (request : List ℕ) → (¬ IsInnovative m s e)
    → Settles m (adding e s) request → Settles m s request
settles_without m s e request none settles word null =
    let is = together_null m s request word null in
    let lacks : is_in word e ≡ false = false_from_ne_true _ (λ holds. none (word, is, holds)) in
    settles word (null_together m (adding e s) request word (adding_null m s e word is lacks)
    (together_lacks m s request word null))

pub fewest_among : (m : Matrix) (s : Set) (request : List ℕ) → Settles m s request
    → (part : List ℕ) × IsDeficiency m s (length part) × Settles m s part
    × ((c : ℕ) → is_in part c ≡ true → is_in request c ≡ true)
fewest_among m s [] settles =
    ([], needs_none m s (none_left m s settles), settles, λ c e. e)
fewest_among m s (e ∷ request) settles =
    let again = fewest_among m (adding e s) request (settles_rest m s e request settles) in
    let before : ℕ = length (late_list m s) in
    ⊎_elim
    (λ some.
    let step = lowers m s e before (length again.0) (deficiency m s) again.1 some in (
      e ∷ again.0,
      subst (IsDeficiency m s) step (deficiency m s),
      settles_more m s e again.0 again.2,
      λ c f. ⊎_elim (λ g. or_first (e == c) _ g) (λ g. or_second (e == c) _ (again.3 c g))
          (or_cases (e == c) _ f),
    ))
    (λ none.
    let step = same m s e before (length again.0) (deficiency m s) again.1 none in (
      again.0,
      subst (IsDeficiency m s) step (deficiency m s),
      settles_without m s e again.0 none again.2,
      λ c f. or_second (e == c) _ (again.3 c f),
    ))
    (innovative_or_not m s e)
