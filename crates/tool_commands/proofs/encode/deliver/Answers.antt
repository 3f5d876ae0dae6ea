use Rattle.std.proofs.Common.{◌≡◌, All, Err, OnErr, OnOk, length, sum_by, refl, sym, ap, ap₂, ◌∙◌}
use Rattle.std.proofs.Common.{subst, subst₂, inl, ◌<◌}
use Rattle.std.specs.Io.KnownBytes.{Appends}
use Rattle.fec_base.specs.Bytes.{AppendsFront}
use Rattle.tool_base.specs.declared.status.Status.TheVariants.{Done}
use Rattle.object_file.specs.File.{encode_report}
use Rattle.object_file.specs.Made.{AreCodewords}
use Rattle.object_file.proofs.Codewords.{words_total}
use Rattle.tool_base.proofs.Endings.{ends_cut, ends_memory, ends_reported}
use Rattle.tool_commands.proofs.encode.deliver.Goals as goal

pub returns-in-Err-Memory-clause-ends : goal.returns-in-Err-Memory-clause-ends
returns-in-Err-Memory-clause-ends g c words are =
    let seen = subst₂ (λ codes bytes. AreCodewords c.args.made.header codes bytes words)
    (sym c.deref.ensures.value) (sym c.deref-2.ensures.value) are in
    let (part, rest, written, is) = c.in-Err-Memory.ensures.memory words seen
    (ap Err c.in-Err-Memory.field-0-is) in
    ends_memory _ _ _ _ _ _ _ c.refuse.ensures.status part _ ((rest, is), refl) written
    c.refuse.ensures.told

pub returns-in-Err-Output-clause-ends : goal.returns-in-Err-Output-clause-ends
returns-in-Err-Output-clause-ends g c words are =
    let seen = subst₂ (λ codes bytes. AreCodewords c.args.made.header codes bytes words)
    (sym c.deref.ensures.value) (sym c.deref-2.ensures.value) are in
    let (n, short, written) = c.in-Err-Output.ensures.cut words seen
    (ap Err c.in-Err-Output.field-0-is) in
    ends_cut _ _ _ _ _ _ _ c.tell.ensures.status (inl (record {
      rose = c.in-Err-Output.ensures.cause (ap Err c.in-Err-Output.field-0-is);
      out = _;
      is_front = (_, _, (refl, refl), n, short, refl);
      written = written;
      told = c.tell.ensures.told;
    }))

pub returns-clause-ends : goal.returns-clause-ends
returns-clause-ends g c words are =
    let h = c.args.made.header in
    let held = g.R.Sink.held in
    let put = c.put_encode_report-reported in
    let seen = subst₂ (λ codes bytes. AreCodewords h codes bytes words) (sym c.deref.ensures.value)
    (sym c.deref-2.ensures.value) are in
    let blocks : c.count.result ≡ length words = c.count.ensures.value ∙ ap length c.plan.ensures
    ∙ sym are.counted in
    let symbols : c.total_symbols.result ≡ sum_by length words = c.total_symbols.ensures.value
    ∙ words_total h c.args.made.codes.items c.args.made.object.items c.requires.ready words
    are in
    let text = ap₂ encode_report blocks symbols in
    ends_reported _ _ _ _ _ _ c.conclude.result put.result Done _ _ (refl, refl) (λ same. cc)
    (c.in-Ok.ensures.written words seen)
    (subst (λ t. OnOk put.result (Appends (held c.args.report.now) (held put.new.report) t)) text
    put.ensures.written)
    (subst (λ t. OnErr put.result (AppendsFront (held c.args.report.now) (held put.new.report) t))
    text put.ensures.cut)
    put.ensures.cause c.conclude.ensures.whole c.conclude.ensures.failed c.conclude.ensures.other

pub returns-in-Err-Memory-clause-bytes : goal.returns-in-Err-Memory-clause-bytes
returns-in-Err-Memory-clause-bytes g c = subst (All (λ byte. byte < 256)) c.deref-2.ensures.value
    c.write_file.ensures.bytes

pub returns-in-Err-Output-clause-bytes : goal.returns-in-Err-Output-clause-bytes
returns-in-Err-Output-clause-bytes g c = subst (All (λ byte. byte < 256)) c.deref-2.ensures.value
    c.write_file.ensures.bytes

pub returns-clause-bytes : goal.returns-clause-bytes
returns-clause-bytes g c = subst (All (λ byte. byte < 256)) c.deref-2.ensures.value
    c.write_file.ensures.bytes
