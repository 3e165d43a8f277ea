use Rattle.trace.specs.Placing.{put_copied}
use Rattle.trace.proofs.Pieces.{frame_put}
use Rattle.trace.proofs.record.put_frame.Goals as goal

pub returns : goal.returns
returns c =
    frame_put c.args.out.now c.args.at c.args.identifier c.args.s.now c.requires.1 c.put-after_kind.ensures c.put-after_identifier.ensures c.put-start.ensures
    (put_copied _ _ c.args.s.now c.copy.ensures)
