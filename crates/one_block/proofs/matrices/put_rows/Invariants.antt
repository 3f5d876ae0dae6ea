use Rattle.std.proofs.Common.{take}
use Rattle.std.specs.Io.KnownBytes.{Appends}
use Rattle.one_block.specs.Lines.{row_lines}
use Rattle.one_block.proofs.matrices.put_rows.Given as goal

abbrev pub invariant-loop-r : goal.invariant-loop-r
invariant-loop-r g l = Appends (g.S.Sink.held l.initial.out) (g.S.Sink.held l.out)
    (row_lines (take l.r l.code.rows))
