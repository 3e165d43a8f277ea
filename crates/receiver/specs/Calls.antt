-- What a call does to the record and the store, and what it answers: 01, "Life of a session" and "Numbered refusals". The slot of the
-- frame's key is found, its session decides, and the change is applied to that slot.
use Rattle.std.specs.Prelude.{ℕ, ◌+◌, ◌-◌, ◌*◌, List, map, Bool, cond, ◌&&◌, length, get_or, set, replicate, eqb, Err, None, Ok, Option, Result, Some, ⊤, is_some}
use Rattle.std.proofs.Math.Seq.{paste}
use Rattle.frame.specs.Judge.{judged}
use Rattle.frame.specs.declared.judge.Route.{Route}
use Rattle.frame.specs.declared.judge.Content.TheVariants as verdict
use Rattle.frame.specs.declared.refusal.Refusal.{Refusal}
use Rattle.frame.specs.declared.refusal.Refusal.TheVariants.{OutOfBounds}
use Rattle.multi_pg.specs.Groups.{GroupsRead, good, bad, groups_read}
use Rattle.transport.specs.declared.Key.{Key}
use Rattle.transport.specs.declared.announcement.Announcement.{Announcement}
use Rattle.transport.specs.declared.eoms.Status.{Status}
use Rattle.transport.specs.declared.control.Control.TheVariants as control
use Rattle.transport.specs.declared.segment.Segment.{Segment}
use Rattle.transport.specs.Control.{control_of}
use Rattle.transport.specs.Heads.{key_of}
use Rattle.transport.specs.Segments.{data_at, data_frame_of}
use Rattle.answer.specs.declared.Answer.{Answer}
use Rattle.answer.specs.declared.Answer.TheVariants.{Groups, Refused}
use Rattle.progress.specs.declared.Progress.{Progress}
use Rattle.progress.specs.declared.wait.IdleLimits.{IdleLimits}
use Rattle.session.specs.declared.Session.{Session}
use Rattle.session.specs.declared.Change.{Change}
use Rattle.session.specs.declared.Change.TheVariants.{Stays, Opens, Moves, Ends}
use Rattle.session.specs.declared.Step.{Step}
use Rattle.session.specs.Segments.{due_of}
use Rattle.session.specs.Decisions.{announced_to, segment_to, status_to, abort_to, after, end_at}
use Rattle.slots.specs.Slots.{slot_for, state_in, free_slot, on_found, on_state}
use Rattle.receiver.specs.declared.Receiver.{Receiver}
use Rattle.receiver.specs.Bounds.{in_bounds}
use Rattle.answer.specs.declared.Ending.{Ending}
use Rattle.frame.specs.declared.judge.Content.{Content}
use Rattle.transport.specs.declared.control.Control.{Control}

-- the record after a frame, and the answer
pub record Stepped : Type 0 where
  pub next : Receiver
  pub answer : Answer

-- the record after a reading, the answer, and the ending of each slot
pub record Elapsed : Type 0 where
  pub next : Receiver
  pub answer : Result ⊤ Refusal
  pub ends : List (Option Ending)

abbrev pub answered : Receiver → Answer → Stepped
answered r a = record { next = r; answer = a }

-- a refusal that changes nothing
abbrev pub refused : Receiver → Refusal → Stepped
refused r n = answered r (Refused n)

abbrev pub with_slot : Receiver → ℕ → Option Session → Receiver
with_slot r i st =
    record { own = r.own; limits = r.limits; last = r.last; slots = set r.slots i st }

-- ---- a change, applied to the slot that was found

abbrev pub applied : Receiver → ℕ → Change Session Progress → Receiver
applied r i Stays = r
applied r i (Opens s) = with_slot r i (after (get_or r.slots i free_slot) (Opens s))
applied r i (Moves p) = with_slot r i (after (get_or r.slots i free_slot) (Moves p))
applied r i Ends = with_slot r i (after (get_or r.slots i free_slot) Ends)

abbrev pub apply : Receiver → Option ℕ → Step → Stepped
apply r f st = answered (on_found f (λ i. applied r i st.change) r) st.answer

-- the slot's number, for the place of a message's bytes
abbrev pub slot_of : Option ℕ → ℕ
slot_of f = on_found f (λ i. i) 0

-- ---- control frames: the slot of the key is found, and its session decides

unfoldable pub announce_step : Receiver → Key → Announcement → Stepped
announce_step r k a =
    let f : Option ℕ = slot_for k r.slots in
    apply r f (announced_to (state_in f r.slots) (is_some f) k a r.last)

unfoldable pub status_step : Receiver → Key → Status → Stepped
status_step r k st =
    let f : Option ℕ = slot_for k r.slots in
    apply r f (status_to (state_in f r.slots) (slot_of f) st r.last)

unfoldable pub abort_step : Receiver → Key → ℕ → Stepped
abort_step r k pgn =
    let f : Option ℕ = slot_for k r.slots in
    apply r f (abort_to (state_in f r.slots) pgn)

abbrev pub on_control : Result Control Refusal → Receiver → Key → Stepped
on_control (Ok (control.Announce a)) r k = announce_step r k a
on_control (Ok (control.EndOfMessage st)) r k = status_step r k st
on_control (Ok (control.Abort pgn)) r k = abort_step r k pgn
on_control (Err n) r k = refused r n

unfoldable pub control_step : Receiver → Route → List ℕ → Stepped
control_step r route d = on_control (control_of d) r (key_of route d)

-- ---- segments: a step, and the store after it

abbrev pub Outcome : Type 0
Outcome = Stepped × List ℕ

-- the data due goes to its place in the slot, and no other byte of the store changes
abbrev pub stored : ℕ → Session → ℕ → List ℕ → List ℕ → List ℕ
stored i s n d m = paste m (4096 * i + 60 * (n - 1)) (data_at d) (due_of s.announced.total.0 n)

-- a segment that moves its session on is one that was taken
abbrev pub stored_by : Change Session Progress → Option ℕ → Option Session → ℕ → List ℕ → List ℕ → List ℕ
stored_by (Moves p) f x n d m = on_found f (λ i. on_state x (λ s. stored i s n d m) m) m
stored_by Stays f x n d m = m
stored_by (Opens s) f x n d m = m
stored_by Ends f x n d m = m

unfoldable pub segment_step : Receiver → Key → Segment → List ℕ → List ℕ → Outcome
segment_step r k sg d m =
    let f : Option ℕ = slot_for k r.slots in
    let x : Option Session = state_in f r.slots in
    let st : Step = segment_to x sg r.last in
    (apply r f st, stored_by st.change f x sg.number.0 d m)

abbrev pub on_data : Result Segment Refusal → Receiver → Key → List ℕ → List ℕ → Outcome
on_data (Ok sg) r k d m = segment_step r k sg d m
on_data (Err n) r k d m = (refused r n, m)

-- ---- a frame: 23, then 2, 1, 3, then 9 and the rest by kind

-- the record is in bounds and the store is 32,768 bytes long
abbrev pub is_ready : Receiver → List ℕ → Bool
is_ready r m = eqb (length m) 32768 && in_bounds r

abbrev pub groups_step : GroupsRead → Route → Receiver → Stepped
groups_step (good gs) route r = answered r (Groups route)
groups_step (bad n) route r = refused r n

abbrev pub on_verdict : Result Content Refusal → Receiver → List ℕ → List ℕ → Outcome
on_verdict (Ok (verdict.MultiPg route)) r d m = (groups_step (groups_read d) route r, m)
on_verdict (Ok (verdict.Control route)) r d m = (control_step r route d, m)
on_verdict (Ok (verdict.Data route)) r d m = on_data (data_frame_of d) r (key_of route d) d m
on_verdict (Err n) r d m = (refused r n, m)

unfoldable pub frame_all : Receiver → ℕ → List ℕ → List ℕ → Outcome
frame_all r id d m =
    cond (is_ready r m) (on_verdict (judged r.own id (length d)) r d m) (refused r OutOfBounds, m)

abbrev pub frame_step : Receiver → ℕ → List ℕ → List ℕ → Stepped
frame_step r id d m = (frame_all r id d m).0

abbrev pub frame_store : Receiver → ℕ → List ℕ → List ℕ → List ℕ
frame_store r id d m = (frame_all r id d m).1

-- ---- a reading

-- an ending closes the session
abbrev pub after_end : Option Ending → Option Session → Option Session
after_end None x = x
after_end (Some e) x = after x Ends

abbrev pub end_of : IdleLimits → ℕ → Option Session → Option Ending
end_of limits t None = None
end_of limits t (Some s) = end_at limits t s

abbrev pub expired : IdleLimits → ℕ → Option Session → Option Session
expired limits t x = after_end (end_of limits t x) x

abbrev pub stays : Option Ending
stays = None

-- each session judged, then the reading kept as the last
abbrev pub reading_kept : Receiver → ℕ → Elapsed
reading_kept r t =
    record {
      next = record { own = r.own; limits = r.limits; last = t; slots = map (expired r.limits t) r.slots };
      answer = (Ok tt);
      ends = map (end_of r.limits t) r.slots;
    }

-- of the store a reading looks only at the length
unfoldable pub reading_step : Receiver → ℕ → List ℕ → Elapsed
reading_step r t m =
    cond (is_ready r m) (reading_kept r t)
    (record { next = r; answer = Err OutOfBounds; ends = replicate 8 stays })
