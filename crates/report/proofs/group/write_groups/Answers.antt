use Rattle.std.proofs.Common.{List, length, ◌+◌, ◌-◌, ◌≤◌, sym, ap, subst, ◌∙◌}
use Rattle.multi_pg.specs.declared.Group.{Group}
use Rattle.multi_pg.specs.Groups.{groups_of}
use Rattle.text.specs.Line.{left_by, placed_put, left_cut, left_room}
use Rattle.text.specs.Put.{PutAt}
use Rattle.report.specs.Lines.{group_lines}
use Rattle.report.proofs.group.write_groups.Goals as goal

pub returns-in_err-left_after_groups : goal.returns-in_err-left_after_groups
returns-in_err-left_after_groups c =
    rw c.from_residual-in_err-left_after_groups.ensures
    (left_cut _ _ (group_lines c.args.route (groups_of c.args.frame.now)) _ c.in_ok-room.ensures
    (ap (λ (gs : List Group). left_by c.in_ok-room.room (length (group_lines c.args.route gs))) (sym c.over-groups.ensures.groups)
    ∙ sym c.left_after_groups.ensures ∙ c.in_err-left_after_groups.was))

pub put_groups-requires : goal.put_groups-requires
put_groups-requires c =
    left_room c.args.out.now c.args.at (group_lines c.args.route _) _ c.in_ok-room.ensures _ (sym c.left_after_groups.ensures ∙ c.in_ok-left_after_groups.was)

pub returns : goal.returns
returns c =
    let o = c.args.out.now in
    let at = c.args.at in
    let room = left_room o at (group_lines c.args.route _) _ c.in_ok-room.ensures _ (sym c.left_after_groups.ensures ∙ c.in_ok-left_after_groups.was) in
    placed_put o at (group_lines c.args.route (groups_of c.args.frame.now))
    (subst (λ (gs : List Group). at + length (group_lines c.args.route gs) ≤ length o) c.over-groups.ensures.groups room) _ _
    (subst (λ (gs : List Group). PutAt o at (group_lines c.args.route gs) c.put_groups.result c.put_groups.new.out) c.over-groups.ensures.groups c.put_groups.ensures)
