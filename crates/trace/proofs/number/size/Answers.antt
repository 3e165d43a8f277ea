use Prim.Native.Nat.{◌/◌}
use native.Mathlib.Omega.{arith}
use Rattle.trace.specs.NumberLaws.{size_short, size_long, size_of}
use borrow.Author.Rules.{rules}
use Rattle.trace.proofs.number.size.Goals as goal

pub returns-then-n-lt128 : goal.returns-then-n-lt128
returns-then-n-lt128 c = (size_of c.args.n (size_short 4 c.args.n c.if-n-lt128.true), search rules)

pub returns-then-n-lt16384 : goal.returns-then-n-lt16384
returns-then-n-lt16384 c = (size_of c.args.n (size_long 3 c.args.n c.if-n-lt128.false (size_short 3 (c.args.n / 128) (omega arith))), search rules)

pub returns-then-n-lt2097152 : goal.returns-then-n-lt2097152
returns-then-n-lt2097152 c = (
  size_of c.args.n
      (size_long 3 c.args.n c.if-n-lt128.false
      (size_long 2 (c.args.n / 128) (omega arith) (size_short 2 (c.args.n / 128 / 128) (omega arith)))),
  search rules,
)

pub returns-then-n-lt268435456 : goal.returns-then-n-lt268435456
returns-then-n-lt268435456 c = (
  size_of c.args.n
      (size_long 3 c.args.n c.if-n-lt128.false
      (size_long 2 (c.args.n / 128) (omega arith)
      (size_long 1 (c.args.n / 128 / 128) (omega arith) (size_short 1 (c.args.n / 128 / 128 / 128) (omega arith))))),
  search rules,
)

pub returns : goal.returns
returns c = (
  size_of c.args.n
      (size_long 3 c.args.n c.if-n-lt128.false
      (size_long 2 (c.args.n / 128) (omega arith)
      (size_long 1 (c.args.n / 128 / 128) (omega arith)
      (size_long 0 (c.args.n / 128 / 128 / 128) (omega arith)
      (size_short 0 (c.args.n / 128 / 128 / 128 / 128) (omega arith)))))),
  search rules,
)
