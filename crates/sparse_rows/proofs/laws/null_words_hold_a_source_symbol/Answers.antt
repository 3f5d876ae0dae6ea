use Rattle.sparse_rows.proofs.Null.{null_source}
use Rattle.sparse_rows.proofs.laws.null_words_hold_a_source_symbol.Goals as goal

pub returns : goal.returns
returns c m s word shape = null_source m shape s word
