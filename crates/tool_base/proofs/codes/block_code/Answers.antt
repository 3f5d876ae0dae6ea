use Rattle.tool_base.proofs.HeaderSeeds.{seed_within}
use Rattle.tool_base.proofs.codes.block_code.Goals as goal

pub code_by-requires-clause-seed : goal.code_by-requires-clause-seed
code_by-requires-clause-seed c other = seed_within c.codec.result c.oti-oti.result.now
    (rw (c.codec.ensures, c.oti-oti.ensures.value) c.oti-oti.ensures.header.fields) other
