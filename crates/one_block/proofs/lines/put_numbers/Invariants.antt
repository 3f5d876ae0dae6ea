use Rattle.std.proofs.Common.{◌≤◌, take}
use Rattle.std.specs.Io.KnownBytes.{Appends}
use Rattle.one_block.specs.Lines.{spaced}
use Rattle.one_block.proofs.lines.put_numbers.Given as goal

-- the first numbers are printed, and the count of faults never fell
abbrev pub invariant-loop-number : goal.invariant-loop-number
invariant-loop-number g l = record {
  written : Appends (g.S.Sink.held l.initial.out) (g.S.Sink.held l.out)
      (spaced g.I.Integer.text (take l.number-index l.numbers));
  later : g.S.Sink.faults l.initial.out ≤ g.S.Sink.faults l.out;
}
