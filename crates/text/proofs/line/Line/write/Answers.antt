use Rattle.std.proofs.Common.{arith, sym, ◌∙◌}
use Rattle.text.specs.Line.{bytes_of, left_cut, left_room, placed_put}
use Rattle.text.proofs.line.Line.write.Goals as goal

pub returns-in_err-left_after : goal.returns-in_err-left_after
returns-in_err-left_after c =
    rw c.from_residual-in_err-left_after.ensures
    (left_cut _ _ (bytes_of c.args.self) _ (omega (arith, c.in_ok-checked_sub.ensures), omega (arith, c.in_ok-checked_sub.ensures)) (sym c.left_after.ensures ∙ c.in_err-left_after.was))

pub put-requires : goal.put-requires
put-requires c = left_room _ _ (bytes_of c.args.self) _ (omega (arith, c.in_ok-checked_sub.ensures), omega (arith, c.in_ok-checked_sub.ensures)) _ (sym c.left_after.ensures ∙ c.in_ok-left_after.was)

pub returns : goal.returns
returns c =
    placed_put _ _ _ (left_room _ _ (bytes_of c.args.self) _ (omega (arith, c.in_ok-checked_sub.ensures), omega (arith, c.in_ok-checked_sub.ensures)) _ (sym c.left_after.ensures ∙ c.in_ok-left_after.was)) _ _
    c.put.ensures
