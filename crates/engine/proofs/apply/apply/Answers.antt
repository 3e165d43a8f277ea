use Rattle.std.specs.Prelude.{Option, ℕ}
use mathlib.Core.Path.{subst}
use Rattle.session.specs.Steps.{MeetsOpen}
use Rattle.slots.specs.Slots.{state_in}
use Rattle.record_bytes.specs.Layout.{slots_at}
use Rattle.engine.proofs.Cases.{within}
use Rattle.engine.proofs.Writes.{applied_at, applied_none}
use Rattle.engine.proofs.apply.apply.Goals as goal

pub put_change-requires : goal.put_change-requires
put_change-requires c = let a = c.args in let p = c.requires in (
  within _ _ _ p.1 c.in-Some.is,
  p.0,
  subst (λ (z : Option ℕ). MeetsOpen a.step.change (state_in z (slots_at a.buffer.now))) c.in-Some.is p.2,
)

pub returns-in-Some : goal.returns-in-Some
returns-in-Some c = let a = c.args in
    applied_at a.buffer.now c.requires.0 a.f a.step _ _ c.in-Some.is
    c.put_change.ensures

pub returns-in-None : goal.returns-in-None
returns-in-None c = let a = c.args in applied_none a.buffer.now c.requires.0 a.f a.step c.in-None.is
