use Rattle.std.specs.Prelude.{Option, Some}
use mathlib.Core.Path.{refl, ap}
use Rattle.laws.specs.Choice.{then, else}
use borrow.Author.Tests.{eq-eqb, ne_eqb}
use Rattle.record_bytes.proofs.slot.slot_at.Goals as goal
use Rattle.session.specs.declared.Session.{Session}

pub returns-then-piece-eq1 : goal.returns-then-piece-eq1
returns-then-piece-eq1 c = (then _ _ _ _ (eq-eqb _ _ c.if-piece-eq1.true) (ap Some c.session_at.ensures))

pub returns : goal.returns
returns c = (else _ _ _ _ (ne_eqb _ _ c.if-piece-eq1.false) refl)
