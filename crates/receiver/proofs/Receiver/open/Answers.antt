use Rattle.std.specs.Prelude.{Result, ⊤}
use mathlib.Core.Path.{◌≡◌, refl, sym, ◌∙◌}
use Rattle.laws.specs.Choice.{then, else}
use Rattle.receiver.specs.Bounds.{opened}
use Rattle.receiver.specs.declared.Opened.{Opened}
use Rattle.receiver.specs.declared.Receiver.{Receiver}
use Rattle.receiver.proofs.Receiver.open.Goals as goal
use Rattle.frame.specs.declared.refusal.Refusal.{Refusal}

answering : (r : Receiver) (a b : Result ⊤ Refusal) → a ≡ b → ◌≡◌ {A = Opened} (record { receiver = r; answer = a }) (record { receiver = r; answer = b })
answering r a b e = rw e

pub returns-then-values_ok : goal.returns-then-values_ok
unfolding opened
returns-then-values_ok c = answering _ _ _ (then _ _ _ _ (sym c.values_ok.ensures ∙ c.if-values_ok.true) refl)

pub returns : goal.returns
unfolding opened
returns c = answering _ _ _ (else _ _ _ _ (sym c.values_ok.ensures ∙ c.if-values_ok.false) refl)
