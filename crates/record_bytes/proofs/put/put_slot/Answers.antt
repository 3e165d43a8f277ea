use Rattle.std.specs.Prelude.{Option}
use Prim.Native.Nat.{ℕ}
use native.Mathlib.Omega.{arith}
use mathlib.Core.Path.{sym, ap, ap₂, ◌∙◌}
use lib.Seq.{paste}
use Rattle.record_bytes.specs.Places.{slot_length, slot_place, announced_length, progress_place}
use Rattle.record_bytes.specs.Layout.{announced_bytes, progress_bytes, session_bytes, state_bytes}
use Rattle.words.specs.Laws.{next_field}
use Rattle.record_bytes.proofs.put.put_slot.Goals as goal
use Rattle.session.specs.declared.Session.{Session}

pub returns-in-None : goal.returns-in-None
returns-in-None c =
    let a = c.args in
    c.copy.ensures
    ∙ ap₂ (λ (k : ℕ) (s : Option Session). paste a.out.now k (state_bytes s) slot_length) c.slot_place-at.ensures (sym c.in-None.is)

pub returns-in-Some : goal.returns-in-Some
unfolding session_bytes
returns-in-Some c =
    let a = c.args in
    let d = a.out.now in
    let at = slot_place a.i in
    let o = c.in-Some.o in
    let front = announced_bytes o.announced in
    next_field d at front (progress_place a.i) (progress_bytes o.progress)
    (c.put_announced.ensures ∙ ap (λ (k : ℕ). paste d k front announced_length) c.slot_place-at.ensures)
    c.put_progress.ensures (omega arith) (omega arith)
    ∙ ap (λ (s : Option Session). paste d at (state_bytes s) slot_length) (sym c.in-Some.is)
