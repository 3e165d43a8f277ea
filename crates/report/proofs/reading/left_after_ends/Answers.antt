use Rattle.std.proofs.Common.{arith, sym, ◌∙◌}
use Rattle.text.specs.Walk.{count_cut, count_on, count_out}
use Rattle.report.proofs.Ends.{slot_lines, none, no_ends, more_ends}
use Rattle.report.specs.Lines.{ends_lines}
use Rattle.report.proofs.reading.left_after_ends.Goals as goal

pub returns-in_err-left : goal.returns-in_err-left
returns-in_err-left c =
    c.from_residual.ensures
    ∙ count_cut ends_lines slot_lines no_ends more_ends _ _ _ _ c.loop-i.invariant.2 none
    (omega (arith, c.loop-i-test.true, c.loop-i.invariant.1)) (sym c.left_after_end.ensures ∙ c.in_err-left.was)

pub loop-i-preserved : goal.loop-i-preserved
loop-i-preserved c = (
  omega arith,
  c.loop-i.invariant.1,
  count_on ends_lines slot_lines no_ends more_ends _ _ _ _ c.loop-i.invariant.2 none
      (omega (arith, c.loop-i-test.true, c.loop-i.invariant.1)) _
      (sym c.left_after_end.ensures ∙ c.in_ok-left.was),
)

pub returns : goal.returns
returns c = count_out ends_lines slot_lines no_ends more_ends c.args.ends _ _ c.loop-i.i c.loop-i.invariant.2
    (omega (arith, c.loop-i-test.false, c.loop-i.invariant.1))
