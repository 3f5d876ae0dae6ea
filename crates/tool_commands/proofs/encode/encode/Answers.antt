use Rattle.fec_base.specs.Outside.{stream}
use Rattle.tool_base.specs.Ending.{FrontOf}
use Rattle.tool_commands.specs.Ready.{FileDue}
use Rattle.tool_commands.proofs.Delivered.{due_of, whole_of}
use Rattle.tool_commands.proofs.Encoding.{made_ready, made_file}
use Rattle.tool_base.proofs.Endings.{ends_map, ends_refused}
use Rattle.tool_commands.proofs.encode.encode.Goals as goal

pub deliver-requires-clause-ready : goal.deliver-requires-clause-ready
deliver-requires-clause-ready g c =
    let found = c.in-Ok.ensures.object in
    made_ready c.args.options.now (g.S.Source.left c.args.input.now)
    (g.S.Source.left c.read_and_make.new.input) found.0 found.1 c.in-Ok.made found.2

pub returns-in-Ok : goal.returns-in-Ok
returns-in-Ok g c =
    let left = g.S.Source.left in
    let found = c.in-Ok.ensures.object in
    let made = c.in-Ok.made in
    let file = made_file c.args.options.now (left c.args.input.now) (left c.read_and_make.new.input)
    found.0 found.1 made found.2 c.deliver.ensures.bytes in
    let input = stream (left c.args.input.now) (g.S.Source.faults c.args.input.now) in
    let now = stream (left c.read_and_make.new.input)
    (g.S.Source.faults c.read_and_make.new.input) in
    record {
      ends = ends_map (FileDue made.header file.0) _ (FrontOf (FileDue made.header file.0)) _ _
          _ _ _
          c.deliver.result
          (due_of c.args.options.now input now made.header file.0 found.0 found.1 file.2)
          (λ out (whole, text, due, n, short, is). (
            whole,
            text,
            whole_of c.args.options.now input now made.header file.0 found.0 found.1 file.2
                whole text
                due,
            n,
            short,
            is,
          ))
          (c.deliver.ensures.ends file.0 file.1);
      taken = c.read_and_make.ensures.taken;
    }

pub returns-in-Err : goal.returns-in-Err
returns-in-Err g c = record {
  ends = ends_refused _ _ _ _ _ c.refuse.result c.in-Err.refusal c.refuse.ensures.status
      c.in-Err.ensures.refusal c.refuse.ensures.told;
  taken = c.read_and_make.ensures.taken;
}
