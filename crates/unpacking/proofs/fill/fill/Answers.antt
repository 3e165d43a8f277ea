use Rattle.std.proofs.Common.{rules, sym, subst, ap, ◌∙◌}
use Rattle.std.specs.Prelude.{Ok}
use Rattle.unpacking.proofs.Turns.{Filled, filled_none, filled_turn, filled_end, filled_fault}
use Rattle.unpacking.proofs.fill.fill.Goals as goal

pub loop-group-init : goal.loop-group-init
loop-group-init c =
    filled_none c.args.frame.now c.args.out.now _ c.requires.0 c.requires.1 (search rules)

pub loop-group-preserved : goal.loop-group-preserved
loop-group-preserved c =
    subst (Filled c.args.frame.now c.args.out.now _ _ _) (sym c.end-at.ensures)
    (filled_turn c.args.frame.now c.args.out.now c.loop-group.out c.loop-group.kept c.loop-group.count c.loop-group.at c.requires.0 c.loop-group.invariant
    c.in-Ok-Some.group (sym c.step.ensures ∙ c.in-Ok-Some.is ∙ ap Ok c.in-Ok-Some.field-0-is) _ _ c.keep.ensures c.write.ensures)

pub returns-in-Ok-None : goal.returns-in-Ok-None
returns-in-Ok-None c =
    filled_end c.args.frame.now c.args.out.now c.loop-group.out c.loop-group.kept c.loop-group.count c.loop-group.at c.requires.0 c.loop-group.invariant
    (sym c.step.ensures ∙ c.in-Ok-None.is ∙ ap Ok c.in-Ok-None.field-0-is)

pub returns-in-Err : goal.returns-in-Err
returns-in-Err c =
    filled_fault c.args.frame.now c.args.out.now c.loop-group.out c.loop-group.kept c.loop-group.count c.loop-group.at c.requires.0 c.loop-group.invariant
    c.in-Err.refusal _ (sym c.step.ensures ∙ c.in-Err.is) c.put_back.ensures
