use Rattle.gauss.proofs.MaskBits.{put_others, put_own}
use Rattle.gauss.proofs.masks.put_bit.Goals as goal

pub returns-clause-own : goal.returns-clause-own
returns-clause-own c j lt = put_own c.args.stride c.args.masks.now c.args.c c.args.i c.requires.bit
    c.requires.unknown j

pub returns-clause-others : goal.returns-clause-others
returns-clause-others c j d lt ne = put_others c.args.stride c.args.masks.now c.args.c c.args.i
    c.requires.bit c.requires.unknown j d lt ne
