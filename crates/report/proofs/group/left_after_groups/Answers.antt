use Rattle.std.proofs.Common.{List, length, sym, ap, ◌∙◌}
use Rattle.multi_pg.specs.declared.Group.{Group}
use Rattle.reader.specs.Runs.{groups_left}
use Rattle.text.specs.Line.{left_by, left_first, left_rest, left_none}
use Rattle.report.specs.Lines.{group_line, group_lines}
use Rattle.report.proofs.group.left_after_groups.Goals as goal

pub returns-in_err-left : goal.returns-in_err-left
unfolding group_lines
returns-in_err-left c =
    let left = c.loop-group.left in
    let line = group_line c.args.route in
    c.from_residual.ensures
    ∙ left_first left (line c.in-Some.group) (group_lines c.args.route (groups_left c.next.new.self)) (sym c.left_after_group.ensures ∙ c.in_err-left.was)
    ∙ ap (λ (gs : List Group). left_by left (length (group_lines c.args.route gs))) (sym c.in-Some.ensures.steps.2)
    ∙ c.loop-group.invariant

pub loop-group-preserved : goal.loop-group-preserved
unfolding group_lines
loop-group-preserved c =
    let left = c.loop-group.left in
    let line = group_line c.args.route in
    left_rest left (line c.in-Some.group) (group_lines c.args.route (groups_left c.next.new.self)) _ (sym c.left_after_group.ensures ∙ c.in_ok-left.was)
    ∙ ap (λ (gs : List Group). left_by left (length (group_lines c.args.route gs))) (sym c.in-Some.ensures.steps.2)
    ∙ c.loop-group.invariant

pub returns : goal.returns
unfolding group_lines
returns c =
    let left = c.loop-group.left in
    left_none left
    ∙ ap (λ (gs : List Group). left_by left (length (group_lines c.args.route gs))) (sym c.in-None.ensures.steps.2.0)
    ∙ c.loop-group.invariant
