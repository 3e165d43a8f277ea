use Rattle.std.proofs.Common.{arith, sym, ◌∙◌}
use Rattle.text.proofs.Parts.{own_left, line_cut, fields_cut, line_left}
use Rattle.text.proofs.line.Line.left_after.Goals as goal

pub returns-in_err-behind : goal.returns-in_err-behind
returns-in_err-behind c =
    let l = c.args.self in
    c.from_residual.ensures ∙ line_cut l.word.now l.fields.now l.octets.now _ (omega (arith, c.in_err-behind.ensures))

pub returns-in_err-left : goal.returns-in_err-left
returns-in_err-left c =
    let l = c.args.self in
    c.from_residual-in_err-left.ensures
    ∙ fields_cut l.word.now l.fields.now l.octets.now _ _ c.in_ok-behind.ensures (own_left _ l.fields.now ∙ sym c.left_after_numbers.ensures ∙ c.in_err-left.was)

pub returns : goal.returns
returns c =
    let l = c.args.self in
    c.left_after_numbers-2.ensures
    ∙ sym (own_left c.in_ok-left.left l.octets.now)
    ∙ line_left l.word.now l.fields.now l.octets.now _ _ c.in_ok-behind.ensures _ (own_left _ l.fields.now ∙ sym c.left_after_numbers.ensures ∙ c.in_ok-left.was)
