use Rattle.std.specs.Prelude.{Result, ⊤}
use mathlib.Core.Path.{refl}
use Rattle.engine.proofs.Cases.{by_case}
use Rattle.engine.specs.InBytes.{groups_answer}
use Rattle.engine.proofs.call.groups.Goals as goal
use Rattle.frame.specs.declared.refusal.Refusal.{Refusal}

pub returns-in-Ok : goal.returns-in-Ok
returns-in-Ok c = by_case (λ (z : Result ⊤ Refusal). groups_answer z c.args.route) _ _ _ _ c.judge.ensures c.in-Ok.is refl

pub returns-in-Err : goal.returns-in-Err
returns-in-Err c = by_case (λ (z : Result ⊤ Refusal). groups_answer z c.args.route) _ _ _ _ c.judge.ensures c.in-Err.is refl
