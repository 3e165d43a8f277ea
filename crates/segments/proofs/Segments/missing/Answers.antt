use native.Mathlib.Omega.{arith}
use Rattle.segments.proofs.Parts.{bit, count_low, count_high}
use Rattle.segments.proofs.Segments.missing.Goals as goal

pub overflow_sub-result : goal.overflow_sub-result
overflow_sub-result c = rw (bit c.args.count 64 (omega arith)) (omega (arith, count_low c.args.self (omega arith) c.args.count (omega arith)))

pub returns-then-count-lt64 : goal.returns-then-count-lt64
returns-then-count-lt64 c = rw (bit c.args.count 64 (omega arith)) (omega (arith, count_low c.args.self (omega arith) c.args.count (omega arith)))

pub overflow_sub-result-2 : goal.overflow_sub-result-2
overflow_sub-result-2 c =
    rw (bit c.min-past.result 8 (omega arith))
    (omega (arith, count_high c.args.self (omega arith) c.args.count c.min-past.result (omega arith) c.min-past.ensures))

pub returns : goal.returns
returns c =
    rw (bit c.min-past.result 8 (omega arith))
    (omega (arith, count_high c.args.self (omega arith) c.args.count c.min-past.result (omega arith) c.min-past.ensures))
