use Rattle.std.proofs.Common.{ℕ, List, subst}
use Rattle.std.specs.Prelude.{Option, MatchOption}
use Rattle.null_witness.specs.ReducedWords.{IsFirstReducedWord}
use Rattle.clash_proof.specs.Proofs.{ContradictedBy, IsClosedBy}
use Rattle.clash_proof.specs.Transposed.{NoneOf}
use Rattle.clash_proof.proofs.Fitted.{rows_fit_none, some_fits}
use Rattle.clash_proof.proofs.finding.find_rows.Goals as goal

pub returns-in-Some : goal.returns-in-Some
returns-in-Some c entries stands =
    let closed = IsClosedBy c.args.code.now c.args.ev.now in
    let kind = ContradictedBy c.args.code.now c.args.ev.now in
    let first = subst (λ (o : Option (List ℕ)).
    MatchOption o (NoneOf closed kind) (IsFirstReducedWord closed kind)) c.in-Some.is
    c.in_ok-rows.ensures in (
      rows_fit_none c.args.code.now c.k.ensures.code.shape c.args.ev.now c.symbol_len.ensures.kept
          c.requires.n entries stands c.requires.none c.in-Some.rows first.reduced.one
          first.of_kind,
      (c.requires.none, first),
    )

pub returns : goal.returns
returns c entries stands =
    let closed = IsClosedBy c.args.code.now c.args.ev.now in
    let kind = ContradictedBy c.args.code.now c.args.ev.now in
    some_fits c.args.code.now c.k.ensures.code.shape c.args.ev.now c.symbol_len.ensures.kept
    c.requires.n entries stands c.requires.none
    (subst (λ (o : Option (List ℕ)).
    MatchOption o (NoneOf closed kind) (IsFirstReducedWord closed kind)) c.in-None.is
    c.in_ok-rows.ensures)
