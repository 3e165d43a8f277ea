use mathlib.Core.Path.{refl, subst}
use lib.ListN.{get_or}
use Rattle.session.specs.declared.Change.{Change}
use Rattle.session.specs.Steps.{MeetsOpen}
use Rattle.slots.specs.Slots.{free_slot}
use Rattle.receiver.specs.Calls.{applied}
use Rattle.record_bytes.specs.Layout.{slots_at, record_at}
use Rattle.record_bytes.specs.Keeping.{put_in}
use Rattle.engine.proofs.Cases.{by_case}
use Rattle.engine.proofs.Writes.{wrote_none, wrote_open, wrote_forward, wrote_free}
use Rattle.engine.proofs.apply.put_change.Goals as goal
use Rattle.session.specs.declared.Session.{Session}
use Rattle.progress.specs.declared.Progress.{Progress}

pub returns-in-Stays : goal.returns-in-Stays
returns-in-Stays c = let a = c.args in let p = c.requires in
    by_case (λ (z : Change Session Progress). put_in a.buffer.now (applied (record_at a.buffer.now) a.i z)) _ _ _ _ refl c.in-Stays.is
    (wrote_none a.buffer.now p.1 a.i p.0 _ refl)

pub returns-in-Opens : goal.returns-in-Opens
returns-in-Opens c = let a = c.args in let p = c.requires in
    by_case (λ (z : Change Session Progress). put_in a.buffer.now (applied (record_at a.buffer.now) a.i z)) _ _ _ _ refl c.in-Opens.is
    (wrote_open a.buffer.now p.1 a.i p.0 _ _ c.put_slot.ensures)

pub returns-in-Moves : goal.returns-in-Moves
returns-in-Moves c = let a = c.args in let p = c.requires in
    by_case (λ (z : Change Session Progress). put_in a.buffer.now (applied (record_at a.buffer.now) a.i z)) _ _ _ _ refl c.in-Moves.is
    (wrote_forward a.buffer.now p.1 a.i p.0 _ _
    (subst (λ (z : Change Session Progress). MeetsOpen z (get_or (slots_at a.buffer.now) a.i free_slot)) c.in-Moves.is p.2)
    c.put_progress.ensures)

pub returns-in-Ends : goal.returns-in-Ends
returns-in-Ends c = let a = c.args in let p = c.requires in
    by_case (λ (z : Change Session Progress). put_in a.buffer.now (applied (record_at a.buffer.now) a.i z)) _ _ _ _ refl c.in-Ends.is
    (wrote_free a.buffer.now p.1 a.i p.0 _
    (subst (λ (z : Change Session Progress). MeetsOpen z (get_or (slots_at a.buffer.now) a.i free_slot)) c.in-Ends.is p.2)
    c.put_slot-in-Ends.ensures)
