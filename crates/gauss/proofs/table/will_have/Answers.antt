use Rattle.std.proofs.Common.{sym, ap, ap₂, ◌∙◌, arith}
use Rattle.std.proofs.Math.Bool.{xor as bool_xor}
use Rattle.gauss.specs.Packed.{bits_of}
use Rattle.gauss.proofs.table.will_have.Goals as goal

pub returns-clause-yes : goal.returns-clause-yes
unfolding bool_xor
returns-clause-yes c h = (
  omega (arith, c.if-lead-group.false),
  ap₂ bool_xor (sym c.has.ensures)
      (sym (c.has-2.ensures ∙ ap (λ b. bits_of c.args.group.width c.args.table.now b c.args.unknown)
      c.byte_of-byte.ensures.value)) ∙ h,
)

pub returns-clause-no : goal.returns-clause-no
unfolding bool_xor
returns-clause-no c h le = ap₂ bool_xor (sym c.has.ensures)
    (sym (c.has-2.ensures ∙ ap (λ b. bits_of c.args.group.width c.args.table.now b c.args.unknown)
    c.byte_of-byte.ensures.value)) ∙ h
