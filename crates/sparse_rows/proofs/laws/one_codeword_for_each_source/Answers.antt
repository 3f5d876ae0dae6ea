use Rattle.sparse_rows.proofs.Encode.{extend, source_has, source_one}
use Rattle.sparse_rows.proofs.laws.one_codeword_for_each_source.Goals as goal

pub returns-clause-some : goal.returns-clause-some
returns-clause-some c m len source shape long symbols =
    (extend len m.rows source, source_has m shape len source long symbols)

pub returns-clause-one : goal.returns-clause-one
returns-clause-one c m len source word other shape = source_one m shape len source word other
