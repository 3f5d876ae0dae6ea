use Rattle.std.proofs.Common.{◌+◌, ◌*◌, ◌/◌, arith, get_or-set_other}
use Rattle.gauss.proofs.Words.{flipped_bits, same_bits, apart}
use Rattle.gauss.proofs.packed.flip.Goals as goal

pub returns-clause-row : goal.returns-clause-row
returns-clause-row c d = flipped_bits c.args.width c.args.words.now c.args.r c.args.c d
    c.requires.row c.requires.bit

pub returns-clause-others : goal.returns-clause-others
returns-clause-others c j d ne = same_bits c.args.width _ c.args.words.now j j (λ q lt.
    get_or-set_other c.args.words.now (c.args.r * c.args.width + c.args.c / 64)
    (j * c.args.width + q) _ 0 (λ e. let where_is = apart c.args.width j c.args.r q ne lt in
    absurd (omega (arith, where_is, e, c.requires.bit)))) d

pub returns-clause-words : goal.returns-clause-words
returns-clause-words c j q ne lt = get_or-set_other c.args.words.now
    (c.args.r * c.args.width + c.args.c / 64) (j * c.args.width + q) _ 0
    (λ e. let where_is = apart c.args.width j c.args.r q ne lt in
    absurd (omega (arith, where_is, e, c.requires.bit)))
