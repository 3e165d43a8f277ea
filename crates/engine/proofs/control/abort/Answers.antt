use Rattle.std.specs.Prelude.{Option, ℕ}
use Rattle.engine.proofs.Steps.{same_stepped, meets}
use Rattle.session.specs.Decisions.{abort_to}
use Rattle.session.specs.Steps.{abort_meets}
use Rattle.receiver.specs.Calls.{abort_step}
use Rattle.engine.proofs.control.abort.Goals as goal
use Rattle.session.specs.declared.Session.{Session}

pub apply-requires : goal.apply-requires
apply-requires c = (
  c.requires,
  c.slot_for-f.ensures.1,
  meets _ _ _ _ c.abort-step.ensures c.state_in-x.ensures (abort_meets _ _),
)

pub returns : goal.returns
unfolding abort_step
returns c = let a = c.args in
    same_stepped a.buffer.now (λ (g : Option ℕ) (y : Option Session). abort_to y a.pgn) c.slot_for-f.result
    _ c.state_in-x.result _
    c.slot_for-f.ensures.0
    c.state_in-x.ensures
    c.abort-step.ensures
    _
    c.apply.ensures
