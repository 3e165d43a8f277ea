use Rattle.report.proofs.Groups.{printed, printing_room, printing_on}
use Rattle.report.proofs.group.put_groups.Goals as goal

pub put_group-next-requires : goal.put_group-next-requires
put_group-next-requires c =
    printing_room _ _ _ _ _ _ _ c.loop-group.invariant c.requires _ _ c.in-Some.ensures.steps.2

pub loop-group-preserved : goal.loop-group-preserved
loop-group-preserved c =
    printing_on _ _ _ _ _ _ _ c.loop-group.invariant c.requires _ _ c.in-Some.ensures.steps.2 _ _ c.put_group-next.ensures

pub returns : goal.returns
returns c = printed _ _ _ _ _ _ _ c.loop-group.invariant c.in-None.ensures.steps.2.0
