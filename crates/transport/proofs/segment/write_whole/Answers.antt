use mathlib.Core.Path.{refl}
use native.Mathlib.Omega.{arith}
use Rattle.frame.specs.Lengths.{frame_length}
use Rattle.transport.proofs.Laid.{full, laid}
use Rattle.transport.proofs.segment.write_whole.Goals as goal

pub returns : goal.returns
unfolding frame_length
returns c =
    laid _ _ _ _ c.args.message.now _ c.args.key c.args.n.0 c.args.from 60 _ (omega arith) (omega arith)
    refl c.front-head.ensures c.copy.ensures c.copy_sixty.ensures (full _ (omega arith))
