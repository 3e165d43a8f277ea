use Rattle.std.proofs.Common.{◌∙◌}
use Rattle.std.proofs.lemmas.Result.{err_from_is_err_and}
use Rattle.trace.proofs.Groups.{cut_first, only, first_of}
use Rattle.trace.proofs.number.read.Goals as goal

pub returns-in_err-b : goal.returns-in_err-b
returns-in_err-b c =
    let p = err_from_is_err_and c.from_residual.result c.from_residual.ensures.1 in
    rw (p.1, p.2, c.in_err-b.ensures.1) (cut_first c.args.s.now c.args.at c.in_err-b.ensures.0)

pub returns-then-b-lt128 : goal.returns-then-b-lt128
returns-then-b-lt128 c =
    only c.args.s.now c.args.at c.in_ok-b.b c.in_ok-b.ensures.0 c.in_ok-b.ensures.1 c.if-b-lt128.true

pub returns : goal.returns
returns c =
    c.later_groups.ensures
    ∙ first_of c.args.s.now c.args.at c.in_ok-b.b c.in_ok-b.ensures.0 c.in_ok-b.ensures.1 c.if-b-lt128.false
