use Prim.Native.Nat.{◌-◌}
use mathlib.Core.Path.{◌≡◌}
use lib.ListN.{length, drop}
use lib.Seq.{paste}
use Rattle.trace.specs.Numbers.{number_bytes, group_bytes}
use Rattle.trace.specs.NumberLaws.{Held}
use Rattle.trace.proofs.number.put.Given as goal

abbrev pub invariant-loop-rest : goal.invariant-loop-rest
invariant-loop-rest l = Held (4 - l.i) l.rest × (drop l.i (number_bytes l.n) ≡ group_bytes (4 - l.i) l.rest) × (length l.out ≡ length l.initial.out) × (l.out ≡ paste l.initial.out l.at (number_bytes l.n) l.i)

abbrev pub decreases-loop-rest : goal.decreases-loop-rest
decreases-loop-rest l = l.rest
