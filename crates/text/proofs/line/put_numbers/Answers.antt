use Rattle.std.proofs.Common.{arith}
use Rattle.text.proofs.Numbers.{number_room, number_put, numbers_put}
use Rattle.text.proofs.line.put_numbers.Goals as goal

pub put_spaced-place-requires : goal.put_spaced-place-requires
put_spaced-place-requires g c =
    number_room g.N.Decimal.number _ _ _ c.requires _ _ _ c.loop-number.invariant.1 _ c.number-item.is c.loop-number-test.true

pub loop-number-preserved : goal.loop-number-preserved
loop-number-preserved g c = (
  omega arith,
  number_put g.N.Decimal.number _ _ _ c.requires _ _ _ c.loop-number.invariant.1 _ c.number-item.is c.loop-number-test.true _ _ c.put_spaced-place.ensures,
)

pub returns : goal.returns
returns g c = numbers_put g.N.Decimal.number _ _ _ c.requires _ _ _ c.loop-number.invariant.1 c.loop-number-test.false
