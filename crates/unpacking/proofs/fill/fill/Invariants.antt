use Prim.Native.Nat.{◌-◌}
use lib.ListN.{length}
use Rattle.unpacking.proofs.Turns.{Filled}
use Rattle.unpacking.proofs.fill.fill.Given as goal

abbrev pub invariant-loop-group : goal.invariant-loop-group
invariant-loop-group l = Filled l.frame l.initial.out l.out l.kept l.count l.at

abbrev pub decreases-loop-group : goal.decreases-loop-group
decreases-loop-group l = length l.frame - l.at
