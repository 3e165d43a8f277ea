use native.Mathlib.Omega.{arith}
use Rattle.packing.specs.Shapes.{pad_turn}
use Rattle.packing.proofs.write.pad.Goals as goal

pub loop-j-preserved : goal.loop-j-preserved
loop-j-preserved c = pad_turn c.loop-j.out c.args.out.now c.args.at c.args.gap c.loop-j.j _ c.loop-j.invariant (omega arith) (omega arith) c.pad_byte.ensures
