use Rattle.std.proofs.Common.{◌∙◌, List, [], ℕ, inr, sym, ap, subst}
use Rattle.sparse_rows.specs.Matrix.{Matrix}
use Rattle.fec_session.specs.Session.{ComeOut}
use Rattle.fec_session.specs.declared.outcome.Outcome.{Outcome}
use Rattle.tool_base.specs.declared.status.Status.{Status}
use Rattle.tool_commands.specs.DecodeRun.{DecodeDue, Decodes}
use Rattle.object_file.specs.Reception.{LacksMemory, RefusesDecode}
use Rattle.tool_commands.specs.Outcomes.{decode_report, object_of}
use Rattle.tool_commands.specs.Ready.{CoresDue, IsMemory}
use Rattle.fec_base.specs.Outside.{Hearing, Stream, hearing, stream}
use Rattle.object_file.specs.Told.{StandsAt}
use Rattle.tool_base.specs.declared.causes.Refusal.{Refusal}
use Rattle.tool_commands.proofs.Determining.{decodes}
use Rattle.tool_base.proofs.Endings.{ends_more, ends_refused}
use Rattle.tool_commands.proofs.decode.decode.Goals as goal

pub finish-requires-clause-counted : goal.finish-requires-clause-counted
finish-requires-clause-counted g c = c.in-Ok.ensures.received.cores.counted

pub finish-requires-clause-sized : goal.finish-requires-clause-sized
finish-requires-clause-sized g c =
    let cores = c.in-Ok.ensures.received.cores in
    λ b d lt. ap (λ (m : Matrix). m.k) (cores.matrix b d lt) ∙ cores.sources b lt

pub returns-in-Ok-clause-decodes : goal.returns-in-Ok-clause-decodes
returns-in-Ok-clause-decodes g c =
    let left = g.S.Source.left in
    let told = g.W.Watch.told in
    let r = c.in-Ok.received in
    let received = c.in-Ok.ensures.received in
    let back = sym (ap told c.finish.ensures.watch) in
    let input : Stream = stream (left c.args.input.now) (g.S.Source.faults c.args.input.now) in
    let now : Stream = stream (left c.receive.new.input) (g.S.Source.faults c.receive.new.input) in
    let watch : Hearing = hearing (told c.args.watch) (g.W.Watch.faults c.args.watch) in
    let watch_now : Hearing = hearing (told c.finish.result.watch)
    (g.W.Watch.faults c.finish.result.watch) in
    let whole : (outcomes : List Outcome) → ComeOut r.receiver.cores outcomes
    → Decodes c.args.draws c.args.early c.args.most input.bytes now.bytes watch.told watch_now.told
    outcomes (object_of outcomes r.header.oti.length) (decode_report outcomes r.packets) =
    λ outcomes out. subst (λ t. Decodes c.args.draws c.args.early c.args.most input.bytes now.bytes
    watch.told t outcomes (object_of outcomes r.header.oti.length)
    (decode_report outcomes r.packets)) back
    (decodes c.args.draws c.args.early c.args.most input.bytes now.bytes watch.told
    (told r.receiver.watch) r.header r.receiver.cores r.packets received outcomes out) in
    let lacks : LacksMemory c.args.draws c.args.early c.args.most input now watch watch_now =
    inr (
      r.header,
      received.code,
      received.packets,
      received.mid,
      received.opens,
      subst (λ t. StandsAt r.header received.code c.args.early c.args.most received.mid now.bytes
          watch.told t received.packets []) back received.stands,
      received.over,
    ) in
    let more : (s : Status) (out text : List ℕ)
    → CoresDue r.receiver.cores r.header.oti.length r.packets s out text
    → DecodeDue c.args.draws c.args.early c.args.most input now watch watch_now s out text =
    λ s out text (outcomes, come, due). (
      record {
        outcomes = outcomes;
        object = object_of outcomes r.header.oti.length;
        text = decode_report outcomes r.packets;
        decodes = whole outcomes come;
        status = due.0;
      },
      due.1,
      due.2,
    ) in
    let causes : (refusal : Refusal) → IsMemory refusal
    → RefusesDecode c.args.draws c.args.early c.args.most input now watch watch_now refusal =
    λ refusal is. subst (RefusesDecode c.args.draws c.args.early c.args.most input now watch
    watch_now) (sym is) lacks in
    ends_more (CoresDue r.receiver.cores r.header.oti.length r.packets) _ IsMemory _ _ _ _ _
    c.finish.result.status more causes c.finish.ensures.ends

pub returns-in-Err-clause-decodes : goal.returns-in-Err-clause-decodes
returns-in-Err-clause-decodes g c = ends_refused _ _ _ _ _ c.refuse.result c.in-Err.refusal
    c.refuse.ensures.status c.in-Err.ensures.refusal c.refuse.ensures.told
