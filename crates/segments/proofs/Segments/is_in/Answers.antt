use native.Mathlib.Omega.{arith}
use mathlib.Core.Path.{sym}
use Rattle.segments.specs.Digits.{digit}
use Rattle.segments.proofs.Parts.{in_low, in_high}
use Rattle.segments.proofs.Segments.is_in.Goals as goal

-- a digit of low or of high is the digit of the whole
pub returns-in-1-to-64 : goal.returns-in-1-to-64
unfolding digit
returns-in-1-to-64 c = sym (in_low c.args.self (omega arith) c.args.n (omega arith) (omega arith))

pub returns-in-65-to-69 : goal.returns-in-65-to-69
unfolding digit
returns-in-65-to-69 c = sym (in_high c.args.self (omega arith) c.args.n (omega arith) (omega arith))
