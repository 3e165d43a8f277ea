use Rattle.text.specs.Walk.{walk_room, walk_on, walk_out}
use Rattle.report.proofs.Ends.{slot_lines, none, no_ends, more_ends}
use native.Mathlib.Omega.{arith}
use Rattle.text.specs.Put.{going_start}
use Rattle.report.specs.Lines.{ends_lines}
use borrow.Author.Rules.{rules}
use Rattle.report.proofs.reading.put_ends.Goals as goal

pub loop-i-init : goal.loop-i-init
loop-i-init c = (omega arith, search rules, going_start _ _ _)

pub put_end-next-requires : goal.put_end-next-requires
put_end-next-requires c =
    walk_room ends_lines slot_lines no_ends more_ends _ _ _ c.requires _ _ _ c.loop-i.invariant.2 none (omega (arith, c.loop-i-test.true, c.loop-i.invariant.1))

pub loop-i-preserved : goal.loop-i-preserved
loop-i-preserved c = (
  omega arith,
  c.loop-i.invariant.1,
  walk_on ends_lines slot_lines no_ends more_ends _ _ _ c.requires _ _ _ c.loop-i.invariant.2 none
      (omega (arith, c.loop-i-test.true, c.loop-i.invariant.1)) _ _ c.put_end-next.ensures,
)

pub shape_of-out : goal.shape_of-out
shape_of-out c = c.loop-i.invariant.2.same

pub returns : goal.returns
returns c =
    walk_out ends_lines slot_lines no_ends more_ends _ _ c.args.ends c.requires _ _ c.loop-i.i c.loop-i.invariant.2 (omega (arith, c.loop-i-test.false, c.loop-i.invariant.1))
