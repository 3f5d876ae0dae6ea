use Rattle.std.proofs.Common.{◌≤◌, ◌++◌, vec_len, sym, subst, arith, rules, length-append}
use Rattle.std.specs.Io.KnownBytes.{Consumes}
use Rattle.std.proofs.KnownBytes.{Consumes-trans}
use Rattle.object_file.proofs.ObjectRead.{refuses_long}
use Rattle.object_file.proofs.object.read_object.Goals as goal

pub returns-in_err-take_piece-clause-taken : goal.returns-in_err-take_piece-clause-taken
returns-in_err-take_piece-clause-taken g c =
    let left = g.S.Source.left in
    let object = c.loop-input.object in
    let guard : vec_len object ≤ 268435456 = search rules in
    let last = c.in_err-take_piece.ensures.taken in (
      object.items ++ last.0,
      Consumes-trans (left c.args.input.now) (left c.loop-input.input)
          (left c.take_piece.new.input) object.items last.0 c.loop-input.invariant.taken last.1,
      omega (
        arith,
        guard,
        object.ok.0,
        length-append object.items last.0,
        last.2,
        c.take_piece.ensures.len_stays,
        c.loop-input.invariant.whole,
      ),
    )

pub returns-then-branch-lt-PIECE_LEN-clause-taken :
    goal.returns-then-branch-lt-PIECE_LEN-clause-taken
returns-then-branch-lt-PIECE_LEN-clause-taken g c =
    let left = g.S.Source.left in
    let before = c.loop-input.object.items in
    let object = c.take_piece.new.object in
    let guard : vec_len c.loop-input.object ≤ 268435456 = search rules in
    let last = c.in_ok-take_piece.ensures.bytes in (
      object.items,
      subst (Consumes (left c.args.input.now) (left c.take_piece.new.input)) (sym last.behind)
          (Consumes-trans (left c.args.input.now) (left c.loop-input.input)
          (left c.take_piece.new.input) before last.bytes c.loop-input.invariant.taken last.taken),
      omega (
        arith,
        guard,
        object.ok.0,
        c.in_ok-take_piece.ensures.len,
        c.in_ok-take_piece.ensures.bound,
        c.take_piece.ensures.len_stays,
        c.loop-input.invariant.whole,
      ),
    )

pub returns-then-branch-lt-PIECE_LEN-clause-refusal :
    goal.returns-then-branch-lt-PIECE_LEN-clause-refusal
returns-then-branch-lt-PIECE_LEN-clause-refusal g c =
    let left = g.S.Source.left in
    let faults = g.S.Source.faults in
    let before = c.loop-input.object.items in
    let object = c.take_piece.new.object in
    let last = c.in_ok-take_piece.ensures.bytes in
    let taken = subst (Consumes (left c.args.input.now) (left c.take_piece.new.input))
    (sym last.behind)
    (Consumes-trans (left c.args.input.now) (left c.loop-input.input) (left c.take_piece.new.input)
    before last.bytes c.loop-input.invariant.taken last.taken) in
    refuses_long c.check_length.result (left c.args.input.now) (left c.take_piece.new.input)
    (faults c.args.input.now) (faults c.take_piece.new.input) (vec_len object) object.items
    c.check_length.ensures.err (omega (arith, object.ok.0)) taken
