use mathlib.Core.Path.{◌≡◌}
use lib.Seq.{paste}
use Rattle.packing.specs.Packing.{padding}
use Rattle.packing.proofs.write.pad.Given as goal

abbrev pub invariant-loop-j : goal.invariant-loop-j
invariant-loop-j l = l.out ≡ paste l.initial.out l.at (padding l.gap) l.j
