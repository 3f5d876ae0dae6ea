use Rattle.std.proofs.Common.{◌+◌, ◌-◌, ◌∙◌, arith}
use Rattle.symbol_arena.proofs.Ranges.{put_copy}
use Rattle.symbol_arena.proofs.block.copy_run.Goals as goal

pub returns : goal.returns
returns c = c.copy_within.ensures.after ∙ put_copy c.args.all.now c.args.src c.args.dst c.args.len
    (c.args.src + c.args.len - c.args.src) (omega arith) c.requires.dst c.requires.src
