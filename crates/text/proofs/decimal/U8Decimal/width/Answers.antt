use Rattle.std.proofs.Common.{arith, sym}
use Rattle.text.specs.Decimal.{width_small, width_power}
use Rattle.text.proofs.decimal.U8Decimal.width.Goals as goal

pub returns-in-0-to-9 : goal.returns-in-0-to-9
returns-in-0-to-9 c = sym (width_small _ (omega arith))

pub returns-in-10-to-99 : goal.returns-in-10-to-99
returns-in-10-to-99 c = sym (width_power 1 _ (omega arith) (omega arith))

pub returns-in_default : goal.returns-in_default
returns-in_default c = sym (width_power 2 _ (omega arith) (omega arith))
