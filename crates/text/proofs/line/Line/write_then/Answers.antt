use mathlib.Core.Path.{sym, ◌∙◌}
use Rattle.text.specs.Line.{bytes_of, first_short, second_short, first_room, second_room, placed_both}
use Rattle.text.proofs.line.Line.write_then.Goals as goal

pub returns-in_err-left : goal.returns-in_err-left
returns-in_err-left c =
    rw c.from_residual-in_err-left.ensures
    (first_short _ _ (bytes_of c.args.self) (bytes_of c.args.next) _ c.in_ok-checked_sub.ensures (sym c.left_after.ensures ∙ c.in_err-left.was))

pub returns-in_err-left_after : goal.returns-in_err-left_after
returns-in_err-left_after c =
    rw c.from_residual-in_err-left_after.ensures
    (second_short _ _ (bytes_of c.args.self) (bytes_of c.args.next) _ c.in_ok-checked_sub.ensures _ (sym c.left_after.ensures ∙ c.in_ok-left.was)
    (sym c.left_after-2.ensures ∙ c.in_err-left_after.was))

pub put-behind-requires : goal.put-behind-requires
put-behind-requires c =
    first_room _ _ (bytes_of c.args.self) (bytes_of c.args.next) _ c.in_ok-checked_sub.ensures _ (sym c.left_after.ensures ∙ c.in_ok-left.was)

pub put-requires : goal.put-requires
put-requires c =
    second_room _ _ (bytes_of c.args.self) (bytes_of c.args.next) _ c.in_ok-checked_sub.ensures _ (sym c.left_after.ensures ∙ c.in_ok-left.was) _
    (sym c.left_after-2.ensures ∙ c.in_ok-left_after.was) _ _ c.put-behind.ensures

pub returns : goal.returns
returns c =
    placed_both _ _ (bytes_of c.args.self) (bytes_of c.args.next) _ c.in_ok-checked_sub.ensures _ (sym c.left_after.ensures ∙ c.in_ok-left.was) _
    (sym c.left_after-2.ensures ∙ c.in_ok-left_after.was) _ _ c.put-behind.ensures _ _ c.put.ensures
