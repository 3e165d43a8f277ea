use Rattle.std.proofs.Common.{rules, ◌≡◌, ℕ, sym, ap, ◌∙◌}
use Rattle.std.specs.Prelude.{Ok, Err}
use Rattle.multi_pg.specs.Groups.{judgement_of}
use Rattle.multi_pg.specs.Places.{read_on, read_all, read_end, read_fault, judged_on}
use Rattle.multi_pg.proofs.read.judge.Goals as goal

pub loop-group-init : goal.loop-group-init
loop-group-init c = ap judgement_of (sym (read_all c.args.frame.now))

pub returns-in_err-group : goal.returns-in_err-group
returns-in_err-group c =
    let e : c.from_residual.result ≡ Err c.in_err-group.field-0.0 = search rules in
    e ∙ sym (ap judgement_of (read_fault c.args.frame.now c.loop-group.at _ (sym c.step.ensures ∙ c.in_err-group.was))) ∙ c.loop-group.invariant

pub loop-group-preserved : goal.loop-group-preserved
loop-group-preserved c =
    ap (λ (to : ℕ). judgement_of (read_on c.args.frame.now to)) c.end-at.ensures
    ∙ sym (judged_on c.args.frame.now c.loop-group.at c.in-Some.group (sym c.step.ensures ∙ c.in_ok-group.was ∙ ap Ok c.in-Some.is))
    ∙ c.loop-group.invariant

pub returns : goal.returns
returns c =
    sym (ap judgement_of (read_end c.args.frame.now c.loop-group.at (sym c.step.ensures ∙ c.in_ok-group.was ∙ ap Ok c.in_default.is))) ∙ c.loop-group.invariant
