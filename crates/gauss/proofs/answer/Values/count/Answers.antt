use Rattle.std.proofs.Common.{length, sym, ap, ◌∙◌}
use Rattle.std.proofs.lemmas.List.FromFn.{length-map-range_with_len}
use Rattle.gauss.proofs.Read.{symbol_in}
use Rattle.gauss.proofs.answer.Values.count.Goals as goal

pub returns-clause-value : goal.returns-clause-value
returns-clause-value c = let i = c.self.inside in sym (sym (ap length c.self.view_is)
    ∙ length-map-range_with_len (symbol_in i.len i.bytes.items) 0 i.count)
