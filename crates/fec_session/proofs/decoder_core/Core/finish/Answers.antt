use Rattle.std.proofs.Common.{[], length, true≢false, refl, sym, ap, ◌∙◌, subst}
use Rattle.peeling.specs.Lookups.{HasAllSource}
use Rattle.fec_session.specs.Block.{Block}
use Rattle.fec_session.specs.Determines.{Determines}
use Rattle.fec_session.specs.declared.outcome.Outcome.TheVariants as outcome
use Rattle.fec_session.proofs.Sources.{source_length}
use Rattle.fec_session.proofs.Verdicts.{none_fits, peeled_source, none_solves, source_held, two_fit}
use Rattle.fec_session.proofs.Verdicts.{values_long, solved_source}
use Rattle.fec_session.proofs.decoder_core.Core.finish.Goals as goal

pub returns-then-clashed-clause-verdict : goal.returns-then-clashed-clause-verdict
returns-then-clashed-clause-verdict c arrivals st = none_fits c.args.self arrivals st
    (sym c.clashed.ensures ∙ c.if-clashed.true)

pub returns-then-has_all_source-clause-verdict : goal.returns-then-has_all_source-clause-verdict
returns-then-has_all_source-clause-verdict c arrivals st =
    let d = c.args.self in
    let all : HasAllSource d = c.has_all_source.ensures.0 c.if-has_all_source.true in
    let given : Determines d.matrix d.len arrivals (outcome.Block _) = (
      peeled_source d c.code.ensures.decoder arrivals st (sym c.clashed.ensures
          ∙ c.if-clashed.false) all,
      (λ peeled. (source_held d arrivals st).0 all, λ held. refl),
    ) in
    subst (λ (b : Block). Determines d.matrix d.len arrivals (outcome.Block b))
    (sym c.peeled.ensures) given

pub returns-then-has_all_source-clause-holds : goal.returns-then-has_all_source-clause-holds
returns-then-has_all_source-clause-holds c =
    ap (λ (b : Block). length b.source) c.peeled.ensures ∙ source_length c.args.self []

pub solved-requires : goal.solved-requires
solved-requires c =
    let solved = rw c.in-Ok-Solved.field-0-is at c.in-Ok-Solved.ensures in record {
      columns_are = solved.0;
      count = solved.1.count ∙ sym (ap length solved.0);
      long = values_long c.args.self c.in-Ok-Solved.values solved.1;
    }

pub returns-in-Ok-Clash-clause-verdict : goal.returns-in-Ok-Clash-clause-verdict
returns-in-Ok-Clash-clause-verdict c arrivals st =
    none_solves c.args.self c.code.ensures.decoder arrivals st (sym c.clashed.ensures
    ∙ c.if-clashed.false) (rw c.in-Ok-Clash.field-0-is at c.in-Ok-Clash.ensures)

pub returns-in-Ok-Solved-clause-verdict : goal.returns-in-Ok-Solved-clause-verdict
returns-in-Ok-Solved-clause-verdict c arrivals st =
    let d = c.args.self in
    let solved = rw c.in-Ok-Solved.field-0-is at c.in-Ok-Solved.ensures in
    let given : Determines d.matrix d.len arrivals (outcome.Block _) = (
      solved_source d c.code.ensures.decoder arrivals st (sym c.clashed.ensures
          ∙ c.if-clashed.false) c.in-Ok-Solved.values solved.1,
      (
        λ peeled. absurd (true≢false (sym peeled)),
        λ held. absurd (true≢false (sym
            (c.has_all_source.ensures.1 ((source_held d arrivals st).1 held))
            ∙ c.if-has_all_source.false)),
      ),
    ) in
    subst (λ (b : Block). Determines d.matrix d.len arrivals (outcome.Block b))
    (sym c.solved.ensures) given

pub returns-in-Ok-Solved-clause-holds : goal.returns-in-Ok-Solved-clause-holds
returns-in-Ok-Solved-clause-holds c =
    ap (λ (b : Block). length b.source) c.solved.ensures
    ∙ source_length c.args.self c.in-Ok-Solved.values

pub returns-in-Ok-Open-clause-verdict : goal.returns-in-Ok-Open-clause-verdict
returns-in-Ok-Open-clause-verdict c arrivals st =
    let several = rw c.in-Ok-Open.field-0-is at c.in-Ok-Open.ensures in
    let two = two_fit c.args.self c.code.ensures.decoder arrivals st (sym c.clashed.ensures
    ∙ c.if-clashed.false) several.0 several.1 in
    (two.0, rw several.2 two.1)
