use Rattle.std.proofs.Common.{◌≡◌, ◌∙◌, ℕ, sym, subst}
use Rattle.std.specs.Prelude.{Option, Some, MatchOption}
use Rattle.clash_proof.specs.Conflicts.{Differs, IsConflict}
use Rattle.clash_proof.proofs.Fitted.{conflict_fits_none}
use Rattle.clash_proof.proofs.finding.find.Goals as goal

pub returns-in-Some : goal.returns-in-Some
returns-in-Some c entries stands =
    let is : c.args.ev.now.conflict ≡ Some (c.in-Some.first, c.in-Some.second) =
    sym c.conflict.ensures ∙ c.in-Some.is in (
      conflict_fits_none c.args.code.now c.args.ev.now.len entries
          (c.in-Some.first, c.in-Some.second)
          (subst (λ (o : Option (ℕ × ℕ)).
          MatchOption o ((i j : ℕ) → ¬ Differs entries i j) (IsConflict entries)) is
          stands.conflict),
      is,
    )
