use Rattle.std.proofs.Common.{◌≡◌, ◌-◌, length}
use Rattle.multi_pg.specs.Groups.{judgement_of, groups_read}
use Rattle.multi_pg.specs.Places.{read_on}
use Rattle.multi_pg.proofs.read.judge.Given as goal

abbrev pub invariant-loop-group : goal.invariant-loop-group
invariant-loop-group l = judgement_of (read_on l.frame l.at) ≡ judgement_of (groups_read l.frame)

abbrev pub decreases-loop-group : goal.decreases-loop-group
decreases-loop-group l = length l.frame - l.at
