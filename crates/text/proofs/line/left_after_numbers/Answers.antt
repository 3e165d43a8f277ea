use Rattle.std.proofs.Common.{arith, ◌∙◌}
use Rattle.text.proofs.Numbers.{numbers_short, numbers_more, numbers_end}
use Rattle.text.proofs.line.left_after_numbers.Goals as goal

pub returns-in_err-checked_sub : goal.returns-in_err-checked_sub
returns-in_err-checked_sub g c =
    c.from_residual.ensures
    ∙ numbers_short g.N.Decimal.number _ _ _ _ c.loop-number.invariant.1 _ c.number-item.is c.loop-number-test.true (omega (arith, c.width.ensures, c.in_err-checked_sub.ensures))

pub returns-in_err-left : goal.returns-in_err-left
returns-in_err-left g c =
    c.from_residual-in_err-left.ensures
    ∙ numbers_short g.N.Decimal.number _ _ _ _ c.loop-number.invariant.1 _ c.number-item.is c.loop-number-test.true (omega (arith, c.width.ensures, c.in_ok-checked_sub.ensures, c.in_err-left.ensures))

pub loop-number-preserved : goal.loop-number-preserved
loop-number-preserved g c = (
  omega arith,
  numbers_more g.N.Decimal.number _ _ _ _ c.loop-number.invariant.1 _ c.number-item.is c.loop-number-test.true _
      (omega (arith, c.width.ensures, c.in_ok-checked_sub.ensures, c.in_ok-left.ensures))
      (omega (arith, c.width.ensures, c.in_ok-checked_sub.ensures, c.in_ok-left.ensures)),
)

pub returns : goal.returns
returns g c = numbers_end g.N.Decimal.number _ _ _ _ c.loop-number.invariant.1 c.loop-number-test.false
