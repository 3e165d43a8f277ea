use Rattle.std.specs.Prelude.{Result, Ok}
use mathlib.Core.Path.{ap, ◌∙◌}
use Rattle.transport.specs.declared.Key.{Key}
use Rattle.transport.specs.Heads.{key_of}
use Rattle.receiver.specs.Calls.{announce_step, status_step, abort_step, on_control, control_step}
use Rattle.engine.proofs.Cases.{by_case}
use Rattle.record_bytes.specs.Layout.{record_at}
use Rattle.engine.specs.InBytes.{stepped_in}
use Rattle.engine.proofs.Writes.{unchanged}
use Rattle.engine.proofs.control.control.Goals as goal
use Rattle.frame.specs.declared.refusal.Refusal.{Refusal}
use Rattle.transport.specs.declared.control.Control.{Control}

pub returns-in-Ok-Announce : goal.returns-in-Ok-Announce
unfolding control_step
returns-in-Ok-Announce c =
    let a = c.args in
    by_case (λ (z : Result Control Refusal). stepped_in a.buffer.now (on_control z (record_at a.buffer.now) (key_of a.route a.bytes.now))) _ _ _ _ c.read_control.ensures
    (c.in-Ok-Announce.is ∙ ap Ok c.in-Ok-Announce.field-0-is) (c.announce.ensures ∙ ap
    (λ (k : Key). stepped_in a.buffer.now (announce_step (record_at a.buffer.now) k c.in-Ok-Announce.a))
    c.key_of-k.ensures)

pub returns-in-Ok-EndOfMessage : goal.returns-in-Ok-EndOfMessage
unfolding control_step
returns-in-Ok-EndOfMessage c =
    let a = c.args in
    by_case (λ (z : Result Control Refusal). stepped_in a.buffer.now (on_control z (record_at a.buffer.now) (key_of a.route a.bytes.now))) _ _ _ _ c.read_control.ensures
    (c.in-Ok-EndOfMessage.is ∙ ap Ok c.in-Ok-EndOfMessage.field-0-is) (c.status.ensures ∙ ap
    (λ (k : Key). stepped_in a.buffer.now (status_step (record_at a.buffer.now) k c.in-Ok-EndOfMessage.st))
    c.key_of-k.ensures)

pub returns-in-Ok-Abort : goal.returns-in-Ok-Abort
unfolding control_step
returns-in-Ok-Abort c =
    let a = c.args in
    by_case (λ (z : Result Control Refusal). stepped_in a.buffer.now (on_control z (record_at a.buffer.now) (key_of a.route a.bytes.now))) _ _ _ _ c.read_control.ensures
    (c.in-Ok-Abort.is ∙ ap Ok c.in-Ok-Abort.field-0-is) (c.abort.ensures ∙ ap
    (λ (k : Key). stepped_in a.buffer.now (abort_step (record_at a.buffer.now) k c.in-Ok-Abort.pgn))
    c.key_of-k.ensures)

pub returns-in-Err : goal.returns-in-Err
unfolding control_step
returns-in-Err c = let a = c.args in
    by_case (λ (z : Result Control Refusal). stepped_in a.buffer.now (on_control z (record_at a.buffer.now) (key_of a.route a.bytes.now))) _ _ _ _ c.read_control.ensures
    c.in-Err.is (unchanged a.buffer.now c.requires _)
