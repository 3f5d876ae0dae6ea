use Rattle.std.proofs.Common.{◌≡◌, ◌*◌, ◌≤◌, map, sum, take}
use Rattle.packet_file.specs.Header.{symbols_by}
use Rattle.packet_file.proofs.header.sum_symbols.Given as goal

abbrev pub invariant-loop-i : goal.invariant-loop-i
invariant-loop-i l = record {
  counted : l.total ≡ sum (map (symbols_by l.codec l.oti) (take l.i l.plan));
  few : l.total ≤ l.i * 65536;
}
