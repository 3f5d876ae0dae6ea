-- A system whose equations are filled in one by one.
use Rattle.std.proofs.Common.{◌≡◌, ℕ, ◌<◌, List, [], ◌∷◌, ◌++◌, length, All, ap, ◌∙◌}
use Rattle.std.proofs.lemmas.List.{set-set, get_or-set_same}
use Rattle.gauss.specs.Equations.{Equation, System}
use Rattle.gauss.specs.Filling.{equation_at, no_equation, with_equation, with_unknown}
use Rattle.fec_session.specs.Residual.{with_unknowns}

-- of two equations put in one place the later stays
pub put_twice : (s : System) (r : ℕ) (e f : Equation) → with_equation (with_equation s r e) r f
    ≡ with_equation s r f
put_twice s r e f = ap (λ (es : List Equation). record {
  unknowns = s.unknowns;
  len = s.len;
  equations = es;
}) (set-set s.equations r e f)

-- the equation that was put
pub put_is : (s : System) (r : ℕ) (e : Equation) → r < length s.equations
    → equation_at (with_equation s r e) r ≡ e
put_is s r e lt = get_or-set_same s.equations r e (no_equation s.len) lt

-- one unknown more
pub more_unknown : (s now new : System) (r : ℕ) (us : List ℕ) (u : ℕ) → r < length s.equations
    → now ≡ with_equation s r (with_unknowns us (equation_at s r))
    → new ≡ with_equation now r (with_unknown u (equation_at now r))
    → new ≡ with_equation s r (with_unknowns (us ++ u ∷ []) (equation_at s r))
more_unknown s now new r us u lt now_is new_is =
    let e : Equation = with_unknowns us (equation_at s r) in
    new_is ∙ ap (λ (t : System). with_equation t r (with_unknown u (equation_at t r))) now_is
    ∙ put_twice s r e (with_unknown u (equation_at (with_equation s r e) r))
    ∙ ap (λ (f : Equation). with_equation s r (with_unknown u f)) (put_is s r e lt)

-- the unknowns that were put
pub unknowns_are : (s now : System) (r : ℕ) (us : List ℕ) → r < length s.equations
    → now ≡ with_equation s r (with_unknowns us (equation_at s r))
    → (equation_at now r).unknowns ≡ us
unknowns_are s now r us lt now_is = ap (λ (t : System). (equation_at t r).unknowns) now_is
    ∙ ap (λ (e : Equation). e.unknowns) (put_is s r (with_unknowns us (equation_at s r)) lt)

-- all of a list lie below the same number
pub all_below_same : (us vs : List ℕ) (p q : ℕ) → us ≡ vs → p ≡ q → All (λ u. u < q) vs
    → All (λ u. u < p) us
all_below_same us vs p q e f all = rw (e, f) all
