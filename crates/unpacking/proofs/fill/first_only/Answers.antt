use Rattle.std.proofs.Common.{rules, arith, ◌≡◌, ℕ, sym, ap, ◌∙◌}
use Rattle.std.specs.Prelude.{Result, Ok, Err}
use Rattle.frame.specs.declared.refusal.Refusal.{Refusal}
use Rattle.unpacking.proofs.Turns.{one_row, no_row, bad_row}
use Rattle.unpacking.proofs.fill.first_only.Goals as goal

pub returns-in_err-group : goal.returns-in_err-group
returns-in_err-group c =
    let e : c.from_residual.result ≡ Err c.in_err-group.field-0.0 = search rules in
    ap (λ (x : Result ℕ Refusal). (x, c.args.out.now)) e ∙ bad_row c.args.frame.now c.args.out.now _ (sym c.step.ensures ∙ c.in_err-group.was)

pub returns-in_default : goal.returns-in_default
returns-in_default c =
    no_row c.args.frame.now c.args.out.now (sym c.step.ensures ∙ c.in_ok-group.was ∙ ap Ok c.in_default.is)

pub returns : goal.returns
returns c =
    one_row c.args.frame.now c.args.out.now c.in-Some.group _ (omega (arith, c.requires.2)) c.requires.0
    (sym c.step.ensures ∙ c.in_ok-group.was ∙ ap Ok c.in-Some.is) c.write.ensures
