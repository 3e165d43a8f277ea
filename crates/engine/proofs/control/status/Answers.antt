use Rattle.std.specs.Prelude.{Option, ℕ}
use mathlib.Core.Path.{ap, ◌∙◌}
use Prim.Native.Nat.{ℕ}
use Rattle.record_bytes.specs.Layout.{record_at}
use Rattle.engine.proofs.Steps.{same_stepped, meets}
use Rattle.session.specs.Decisions.{status_to}
use Rattle.session.specs.Steps.{status_meets}
use Rattle.receiver.specs.Calls.{slot_of, status_step}
use Rattle.engine.proofs.control.status.Goals as goal
use Rattle.session.specs.declared.Session.{Session}

pub apply-requires : goal.apply-requires
apply-requires c = (
  c.requires,
  c.slot_for-f.ensures.1,
  meets _ _ _ _ c.status-step.ensures c.state_in-x.ensures (status_meets _ _ _ _),
)

pub returns : goal.returns
unfolding status_step
returns c =
    let a = c.args in
    let b = a.buffer.now in
    let x = c.state_in-x.result in
    let f = c.slot_for-f.result in
    same_stepped b (λ (g : Option ℕ) (y : Option Session). status_to y (slot_of g) a.st (record_at b).last) f _ x _
    c.slot_for-f.ensures.0
    c.state_in-x.ensures
    (c.status-step.ensures
    ∙ ap (λ (n : ℕ). status_to x n a.st c.word_at.result) c.slot_of.ensures
    ∙ ap (status_to x (slot_of f) a.st) c.word_at.ensures)
    _
    c.apply.ensures
