use Rattle.std.proofs.Common.{Err, [], ap, inl, refl}
use Rattle.std.specs.Io.KnownBytes.{Appends}
use Rattle.std.proofs.KnownBytes.{Appends-nil}
use Rattle.fec_base.specs.Bytes.{AppendsFront}
use Rattle.fec_base.specs.Parts.{AppendsPart}
use Rattle.tool_base.proofs.Endings.{ends_cut, ends_done, ends_memory, ends_refused}
use Rattle.tool_commands.proofs.PerfRuns.{tried_of}
use Rattle.tool_commands.proofs.perf.perf.Goals as goal

pub returns-in-Err-clause-ends : goal.returns-in-Err-clause-ends
returns-in-Err-clause-ends g c = ends_refused _ _ _ _ _ c.refuse.result c.in-Err.refusal
    c.refuse.ensures.status c.in-Err.ensures.refusal c.refuse.ensures.told

pub returns-in-Ok-write_runs-clause-ends : goal.returns-in-Ok-write_runs-clause-ends
returns-in-Ok-write_runs-clause-ends g c =
    let held = g.K.Sink.held in
    let (t, whole) = tried_of c.args.options.now c.in-Ok.built.code c.in-Ok.built.draws
    c.codec_word-name.result.now
    (Appends (held c.args.output.now) (held c.write_runs.new.output))
    c.codec_word-name.ensures.value c.in-Ok.ensures.small c.in-Ok.ensures.built c.k.ensures.code
    c.in-Ok-write_runs.ensures.whole in
    ends_done _ _ _ _ _ _ _ refl _ [] (inl (t, refl, refl)) whole
    (Appends-nil (g.R.Sink.held c.args.report.now))

pub returns-in-Err-Memory-clause-ends : goal.returns-in-Err-Memory-clause-ends
returns-in-Err-Memory-clause-ends g c =
    let held = g.K.Sink.held in
    let (t, (part, rest, written, is)) = tried_of c.args.options.now c.in-Ok.built.code
    c.in-Ok.built.draws c.codec_word-name.result.now
    (AppendsPart (held c.args.output.now) (held c.write_runs.new.output))
    c.codec_word-name.ensures.value c.in-Ok.ensures.small c.in-Ok.ensures.built c.k.ensures.code
    (c.in-Err-Memory.ensures.part (ap Err c.in-Err-Memory.field-0-is)) in
    ends_memory _ _ _ _ _ _ _ c.refuse-in-Err-Memory.ensures.status part _
    (inl (t, (rest, is), refl)) written c.refuse-in-Err-Memory.ensures.told

pub returns-in-Err-Output-clause-ends : goal.returns-in-Err-Output-clause-ends
returns-in-Err-Output-clause-ends g c =
    let held = g.K.Sink.held in
    let (t, (n, short, written)) = tried_of c.args.options.now c.in-Ok.built.code
    c.in-Ok.built.draws c.codec_word-name.result.now
    (AppendsFront (held c.args.output.now) (held c.write_runs.new.output))
    c.codec_word-name.ensures.value c.in-Ok.ensures.small c.in-Ok.ensures.built c.k.ensures.code
    (c.in-Err-Output.ensures.cut (ap Err c.in-Err-Output.field-0-is)) in
    ends_cut _ _ _ _ _ _ _ c.tell.ensures.status (inl (record {
      rose = c.in-Err-Output.ensures.cause (ap Err c.in-Err-Output.field-0-is);
      out = _;
      is_front = (_, [], (t, refl, refl), n, short, refl);
      written = written;
      told = c.tell.ensures.told;
    }))
