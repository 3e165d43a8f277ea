use Prim.Native.Nat.{◌-◌}
use lib.ListN.{length}
use Rattle.run.proofs.Walks.{Walking}
use Rattle.run.proofs.piece.take_records.Given as goal

abbrev pub invariant-loop-receiver : goal.invariant-loop-receiver
invariant-loop-receiver l = Walking l.window l.records l.initial.receiver l.initial.store l.initial.lines l.put l.receiver l.store l.lines l.at l.end l.good

abbrev pub decreases-loop-receiver : goal.decreases-loop-receiver
decreases-loop-receiver l = length l.window - l.at
