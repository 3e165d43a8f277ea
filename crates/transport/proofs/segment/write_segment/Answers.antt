use native.Mathlib.Omega.{arith}
use Rattle.transport.proofs.Laid.{laid}
use Rattle.transport.proofs.segment.write_segment.Goals as goal

pub returns : goal.returns
returns c =
    laid _ _ _ _ c.args.message.now _ c.args.key c.args.n.0 c.args.from c.args.due _ (omega arith) (omega arith)
    c.fill.ensures.0 c.front-head.ensures c.copy.ensures c.copy-2.ensures c.fill.ensures.1
