use Rattle.std.proofs.Common.{◌≡◌, ℕ, ◌<◌, ◌≤◌, length, length-set, ap, arith}
use Rattle.text.specs.Decimal.{decimal, decimal_small, decimal_two, decimal_three}
use Rattle.text.specs.Put.{put_by, put_set, put_set_two, put_set_three}
use Rattle.text.proofs.decimal.U8Decimal.put.Goals as goal

one : (n : ℕ) → n < 10 → length (decimal n) ≡ 1
one n h = ap length (decimal_small n h)

two : (n : ℕ) → 10 ≤ n → n < 100 → length (decimal n) ≡ 2
two n h k = ap length (decimal_two n h k)

three : (n : ℕ) → 100 ≤ n → n < 1000 → length (decimal n) ≡ 3
three n h k = ap length (decimal_three n h k)

pub bounds-out-at : goal.bounds-out-at
bounds-out-at c = omega (arith, one c.args.self)

pub returns-then-self-lt10 : goal.returns-then-self-lt10
returns-then-self-lt10 c = put_by (decimal_small _ c.if-self-lt10.true) (put_set _ _ _ (omega (arith, one c.args.self)))

pub bounds-out-at-then-self-lt100 : goal.bounds-out-at-then-self-lt100
bounds-out-at-then-self-lt100 c = omega (arith, two c.args.self)

pub bounds-out-at-then-self-lt100-2 : goal.bounds-out-at-then-self-lt100-2
bounds-out-at-then-self-lt100-2 c = simp length-set (omega (arith, two c.args.self))

pub returns-then-self-lt100 : goal.returns-then-self-lt100
returns-then-self-lt100 c =
    put_by (decimal_two _ c.if-self-lt10.false c.if-self-lt100.true) (put_set_two _ _ _ _ (omega (arith, two c.args.self)))

pub bounds-out-at-2 : goal.bounds-out-at-2
bounds-out-at-2 c = omega (arith, three c.args.self)

pub bounds-out-at-3 : goal.bounds-out-at-3
bounds-out-at-3 c = simp length-set (omega (arith, three c.args.self))

pub bounds-out-at-4 : goal.bounds-out-at-4
bounds-out-at-4 c = simp length-set (omega (arith, three c.args.self))

pub returns : goal.returns
returns c =
    put_by (decimal_three _ c.if-self-lt100.false (omega (arith, c.ranges.self))) (put_set_three _ _ _ _ _ (omega (arith, three c.args.self)))
