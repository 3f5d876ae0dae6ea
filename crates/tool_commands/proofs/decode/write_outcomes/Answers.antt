use Rattle.std.proofs.Common.{inl, refl, sym, ◌∙◌}
use Rattle.tool_commands.specs.Outcomes.{if_done, object_of}
use Rattle.tool_base.specs.declared.causes.Refusal.TheVariants.{Memory}
use Rattle.tool_base.proofs.Endings.{ends_cut, ends_refused, ends_reported}
use Rattle.tool_commands.proofs.Verdicts.{no_write_fault}
use Rattle.tool_commands.proofs.decode.write_outcomes.Goals as goal

pub returns-in_default : goal.returns-in_default
returns-in_default g c = record {
  ends = ends_refused _ _ _ _ _ c.refuse.result Memory c.refuse.ensures.status refl
      c.refuse.ensures.told;
}

pub returns-in-Err : goal.returns-in-Err
returns-in-Err g c =
    let (n, short, written) = c.in-Err.ensures.cut in
    record {
      ends = ends_cut _ _ _ _ _ _ _ c.tell.ensures.status (inl (record {
        rose = c.in-Err.ensures.cause.failed;
        out = _;
        is_front = (
          _,
          _,
          (sym c.outcome_status-status.ensures ∙ c.in-Err.ensures.done, refl, refl),
          n,
          short,
          refl,
        );
        written = written;
        told = c.tell.ensures.told;
      }));
    }

pub returns : goal.returns
returns g c =
    let status = c.outcome_status-status.result in
    let outcomes = c.args.finished.now.outcomes in
    let put = c.put_decode_report-reported in
    record {
      ends = ends_reported _ _ _ _ _ _ c.conclude.result put.result status
          (if_done status (object_of outcomes c.args.header.now.oti.length)) _
          (inl (sym c.outcome_status-status.ensures, refl, refl))
          (λ same. no_write_fault outcomes (sym c.outcome_status-status.ensures ∙ same))
          c.in-Ok-write_if_done.ensures.written put.ensures.written put.ensures.cut
          put.ensures.cause c.conclude.ensures.whole c.conclude.ensures.failed
          c.conclude.ensures.other;
    }
