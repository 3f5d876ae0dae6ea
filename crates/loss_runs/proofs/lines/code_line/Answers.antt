use Rattle.std.proofs.Common.{append_assoc, sym}
use Rattle.loss_runs.proofs.lines.code_line.Goals as goal

pub returns : goal.returns
returns c = simp append_assoc (rw (
  sym c.k-k.ensures.value,
  sym c.n-n.ensures.value,
  sym c.entries-entries.ensures,
) c.format.ensures.ok)
