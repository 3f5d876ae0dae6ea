use Rattle.std.proofs.Common.{arith, sym, ◌∙◌, ◌<◌, take, ◌+◌}
use Rattle.std.specs.Str.Parse.{digits_value}
use Rattle.loss_patterns.proofs.Digits.{one_more, too_large}
use Rattle.loss_patterns.proofs.numbers.read_number.Goals as goal

pub returns-then-number-high-clause-value : goal.returns-then-number-high-clause-value
returns-then-number-high-clause-value c =
    let i = c.loop-digit.digit-index in
    let is = one_more c.args.text.now i c.loop-digit.number (sym c.is_numeral.ensures
    ∙ c.if-not-is_numeral.false) c.loop-digit-test.true c.loop-digit.invariant.value in
    let over : c.args.high < digits_value 10 (take (i + 1) c.args.text.now) = omega arith in
    too_large c.args.text.now (i + 1) c.args.low c.args.high over

pub loop-digit-preserved : goal.loop-digit-preserved
loop-digit-preserved c = record {
  value = one_more c.args.text.now c.loop-digit.digit-index c.loop-digit.number
      (sym c.is_numeral.ensures ∙ c.if-not-is_numeral.false) c.loop-digit-test.true
      c.loop-digit.invariant.value;
  bound = c.if-number-high.false;
}
