use Rattle.reader.specs.Runs.{groups_left}
use Rattle.text.specs.Put.{Going}
use Rattle.report.specs.Lines.{group_lines}
use Rattle.report.proofs.group.put_groups.Given as goal

abbrev pub invariant-loop-group : goal.invariant-loop-group
invariant-loop-group l =
    Going l.initial.out l.at (group_lines l.route (groups_left l.groups)) l.out l.next (group_lines l.route (groups_left l.group-iterator))
