use Rattle.std.proofs.lemmas.Result.{err_from_is_err_and}
use Rattle.packet_file.specs.Header.{header_bytes}
use Rattle.object_file.specs.File.{packets}
use Rattle.object_file.proofs.Written.{header_cut, rest_cut, rest_part, last_cut, all_written}
use Rattle.object_file.proofs.write.write_file.Goals as goal

pub returns-in_err-write_header-clause-cut : goal.returns-in_err-write_header-clause-cut
returns-in_err-write_header-clause-cut g c words _ _ =
    header_cut (g.K.Sink.held c.args.sink.now) (g.K.Sink.held c.write_header.new.sink)
    (header_bytes c.args.header.now) (packets c.args.header.now words)
    c.in_err-write_header.ensures.cut

pub returns-in_err-put_blocks-clause-cut : goal.returns-in_err-put_blocks-clause-cut
returns-in_err-put_blocks-clause-cut g c words are failed =
    let held = g.K.Sink.held in
    let p = err_from_is_err_and c.from_residual-in_err-put_blocks.result
    c.from_residual-in_err-put_blocks.ensures.1 in
    rest_cut (held c.args.sink.now) (held c.write_header.new.sink) (held c.put_blocks.new.sink)
    c.args.staging.now.bytes (header_bytes c.args.header.now)
    (packets c.args.header.now words) c.requires.empty c.in_ok-write_header.ensures.written
    (c.in_err-put_blocks.ensures.cut words are (cc (p.1, p.2, failed)))

pub returns-in_err-put_blocks-clause-memory : goal.returns-in_err-put_blocks-clause-memory
returns-in_err-put_blocks-clause-memory g c words are failed =
    let held = g.K.Sink.held in
    let p = err_from_is_err_and c.from_residual-in_err-put_blocks.result
    c.from_residual-in_err-put_blocks.ensures.1 in
    rest_part (held c.args.sink.now) (held c.write_header.new.sink) (held c.put_blocks.new.sink)
    c.args.staging.now.bytes (header_bytes c.args.header.now)
    (packets c.args.header.now words) c.requires.empty c.in_ok-write_header.ensures.written
    c.put_blocks.new.staging.bytes (c.in_err-put_blocks.ensures.memory words are
    (cc (p.1, p.2, failed)))

pub returns-in_err-flush-clause-cut : goal.returns-in_err-flush-clause-cut
returns-in_err-flush-clause-cut g c words are _ =
    let held = g.K.Sink.held in
    last_cut (held c.args.sink.now) (held c.write_header.new.sink) (held c.put_blocks.new.sink)
    c.args.staging.now.bytes (header_bytes c.args.header.now)
    (packets c.args.header.now words) c.requires.empty c.in_ok-write_header.ensures.written
    (held c.flush.new.sink) c.put_blocks.new.staging.bytes (c.in_ok-put_blocks.ensures.passed words
    are) c.in_err-flush.ensures.cut

pub returns-clause-written : goal.returns-clause-written
returns-clause-written g c words are =
    let held = g.K.Sink.held in
    all_written (held c.args.sink.now) (held c.write_header.new.sink) (held c.put_blocks.new.sink)
    c.args.staging.now.bytes (header_bytes c.args.header.now)
    (packets c.args.header.now words) c.requires.empty c.in_ok-write_header.ensures.written
    (held c.flush.new.sink) c.put_blocks.new.staging.bytes (c.in_ok-put_blocks.ensures.passed words
    are) c.in_ok-flush.ensures.appended
