use Rattle.std.proofs.Common.{◌≡◌, length}
use Rattle.reader.specs.Runs.{groups_left}
use Rattle.text.specs.Line.{left_by}
use Rattle.report.specs.Lines.{group_lines}
use Rattle.report.proofs.group.left_after_groups.Given as goal

abbrev pub invariant-loop-group : goal.invariant-loop-group
invariant-loop-group l =
    left_by l.left (length (group_lines l.route (groups_left l.group-iterator))) ≡ left_by l.room (length (group_lines l.route (groups_left l.groups)))
