use Rattle.std.proofs.Common.{arith, sym}
use Rattle.text.specs.Decimal.{width_small, width_power}
use Rattle.text.proofs.decimal.U64Decimal.width.Goals as goal

pub returns-in-Some : goal.returns-in-Some
returns-in-Some c = sym (width_power _ _ c.in-Some.ensures.power_le c.in-Some.ensures.next_power_gt)

pub returns-in-None : goal.returns-in-None
returns-in-None c = sym (width_small _ (omega (arith, c.in-None.ensures.none)))

pub returns-then-self-lt10 : goal.returns-then-self-lt10
returns-then-self-lt10 c = sym (width_small _ (omega arith))
