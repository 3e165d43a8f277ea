use Rattle.trace.proofs.Ends.{ends_inside}
use Rattle.trace.proofs.record.length.Goals as goal

pub bytes-requires : goal.bytes-requires
bytes-requires c = ends_inside c.args.s.now c.args.at c.read.ensures c.in_ok-len.was
