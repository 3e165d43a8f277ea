use mathlib.Core.Path.{refl}
use Rattle.laws.specs.Choice.{then, else}
use borrow.Author.Tests.{eq-eqb, ne_eqb}
use Rattle.record_bytes.proofs.slot.kind_at.Goals as goal

pub returns-then-byte-eq2 : goal.returns-then-byte-eq2
returns-then-byte-eq2 c = then _ _ _ _ (eq-eqb _ _ c.if-byte-eq2.true) refl

pub returns : goal.returns
returns c = else _ _ _ _ (ne_eqb _ _ c.if-byte-eq2.false) refl
