use native.Mathlib.Omega.{arith}
use Rattle.segments.specs.Digits.{lowest_set}
use Rattle.segments.proofs.Runs.{none_past_69, gap_low, gap_over, gap_none, gap_high, gap_high_none}
use Rattle.segments.proofs.Segments.gap.Goals as goal

pub returns-then-zeros-lt64 : goal.returns-then-zeros-lt64
returns-then-zeros-lt64 c = gap_low c.args.self (omega arith) c.args.n _ (omega arith) (omega arith) (lowest_set 64 _) (omega arith)

pub returns-then-above-lt8 : goal.returns-then-above-lt8
returns-then-above-lt8 c =
    gap_over c.args.self (omega arith) c.args.n _ (omega arith) (omega arith) (lowest_set 64 _) (omega arith) _ (lowest_set 8 _) (omega arith)

pub returns-then-n-le64 : goal.returns-then-n-le64
returns-then-n-le64 c =
    gap_none c.args.self (omega arith) c.args.n _ (omega arith) (omega arith) (lowest_set 64 _) (omega arith) _ (lowest_set 8 _) (omega arith)

pub returns-then-above-lt8-2 : goal.returns-then-above-lt8-2
returns-then-above-lt8-2 c = gap_high c.args.self (omega arith) c.args.n _ (omega arith) (omega arith) (lowest_set 8 _) (omega arith)

pub returns-else-above-lt8-2 : goal.returns-else-above-lt8-2
returns-else-above-lt8-2 c = gap_high_none c.args.self (omega arith) c.args.n _ (omega arith) (omega arith) (lowest_set 8 _) (omega arith)

pub returns-else-n-le69 : goal.returns-else-n-le69
returns-else-n-le69 c = none_past_69 c.args.self c.args.n (omega arith)
