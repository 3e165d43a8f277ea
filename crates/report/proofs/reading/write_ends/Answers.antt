use Rattle.std.proofs.Common.{sym, ◌∙◌}
use Rattle.text.specs.Line.{placed_put, left_cut, left_room}
use Rattle.report.specs.Lines.{ends_lines}
use Rattle.report.proofs.reading.write_ends.Goals as goal

pub returns-in_err-left_after_ends : goal.returns-in_err-left_after_ends
returns-in_err-left_after_ends c =
    rw c.from_residual-in_err-left_after_ends.ensures
    (left_cut _ _ (ends_lines c.args.ends) _ c.in_ok-room.ensures (sym c.left_after_ends.ensures ∙ c.in_err-left_after_ends.was))

pub put_ends-requires : goal.put_ends-requires
put_ends-requires c =
    left_room _ _ (ends_lines c.args.ends) _ c.in_ok-room.ensures _ (sym c.left_after_ends.ensures ∙ c.in_ok-left_after_ends.was)

pub returns : goal.returns
returns c =
    placed_put _ _ _
    (left_room _ _ (ends_lines c.args.ends) _ c.in_ok-room.ensures _ (sym c.left_after_ends.ensures ∙ c.in_ok-left_after_ends.was)) _ _ c.put_ends.ensures
