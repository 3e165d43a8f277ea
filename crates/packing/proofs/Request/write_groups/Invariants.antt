use Rattle.packing.specs.Packing.{request_of}
use Rattle.packing.proofs.Turns.{Written}
use Rattle.packing.proofs.Request.write_groups.Given as goal

abbrev pub invariant-loop-i : goal.invariant-loop-i
invariant-loop-i l = Written (request_of l.self) l.initial.out l.out l.i l.at l.from l.taken
