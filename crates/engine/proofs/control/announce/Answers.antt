use Rattle.std.specs.Prelude.{Option, ℕ, is_some}
use mathlib.Core.Path.{ap, ◌∙◌}
use mathlib.Core.Bool.{Bool}
use Rattle.record_bytes.specs.Layout.{record_at}
use Rattle.engine.proofs.Steps.{same_stepped, meets}
use Rattle.session.specs.Decisions.{announced_to}
use Rattle.session.specs.Steps.{announce_meets}
use Rattle.receiver.specs.Calls.{announce_step}
use Rattle.engine.proofs.control.announce.Goals as goal
use Rattle.session.specs.declared.Session.{Session}

pub apply-requires : goal.apply-requires
apply-requires c = (
  c.requires,
  c.slot_for-f.ensures.1,
  meets _ _ _ _ c.announce-step.ensures c.state_in-x.ensures (announce_meets _ _ _ _ _),
)

pub returns : goal.returns
unfolding announce_step
returns c = let a = c.args in
    let f = c.slot_for-f.result in
    let x = c.state_in-x.result in
    same_stepped a.buffer.now (λ (g : Option ℕ) (y : Option Session). announced_to y (is_some g) a.k a.a (record_at a.buffer.now).last) f _ x _
    c.slot_for-f.ensures.0
    c.state_in-x.ensures
    (c.announce-step.ensures
    ∙ ap (λ (t : Bool). announced_to x t a.k a.a c.word_at.result) c.is_some.ensures
    ∙ ap (announced_to x (is_some f) a.k a.a) c.word_at.ensures)
    _
    c.apply.ensures
