-- What a call does to the sender's record and to the output, and what it answers: 02, E2. The transfer is found, it decides, and its change
-- is applied to it alone.
use Rattle.std.specs.Prelude.{ℕ, ◌+◌, ◌-◌, ◌*◌, ◌≤◌, Bool, true, false, cond, not, List, ◌++◌, eqb, length, drop, Err, None, Ok, Option, Result, Some, ⊤, is_some}
use Rattle.frame.specs.Judge.{judged}
use Rattle.frame.specs.declared.Address.{Address}
use Rattle.frame.specs.declared.SessionNumber.{SessionNumber}
use Rattle.frame.specs.declared.judge.Route.{Route}
use Rattle.frame.specs.declared.judge.Content.TheVariants as verdict
use Rattle.frame.specs.declared.refusal.Refusal.TheVariants.{OutOfBounds, NotTaken}
use Rattle.transport.specs.declared.Key.{Key}
use Rattle.transport.specs.Heads.{session_key_of}
use Rattle.transport.specs.Responses.{response_of}
use Rattle.answer.specs.Answers.{Wire}
use Rattle.session.specs.Segments.{due_of}
use Rattle.slots.specs.Slots.{on_found}
use Rattle.slots.specs.Bounds.{opening_ok}
use Rattle.session.specs.declared.Change.{Change}
use Rattle.transfer.specs.declared.Transfer.{Transfer}
use Rattle.transfer.specs.declared.Course.{Course}
use Rattle.transfer.specs.declared.Reply.{Reply}
use Rattle.transfer.specs.declared.Reply.TheVariants as reply
use Rattle.transfer.specs.declared.Step.{Step}
use Rattle.transfer.specs.Decisions.{announced_to, asked_to, hears}
use Rattle.transfer.specs.Sends.{sends}
use Rattle.sender_bytes.specs.Layout.{Sender, sender_at, own_at, changed, with_transfer, opened_in}
use Rattle.sender.specs.declared.Sent.{Sent}
use Rattle.sender.specs.Transfers.{key_place, slot_for, state_in, ready_in}
use Rattle.frame.specs.declared.judge.Content.{Content}
use Rattle.frame.specs.declared.refusal.Refusal.{Refusal}

-- ---- the opening

-- 23 where the buffer is of another length, or the opening values are out of bounds
abbrev pub accepted : Bool → Result ⊤ Refusal
accepted true = (Ok tt)
accepted false = Err OutOfBounds

unfoldable pub open_in : Address → ℕ → ℕ → List ℕ → Result ⊤ Refusal × List ℕ
open_in own limit reading b =
    cond (opened_in own limit reading b).0 (accepted (opening_ok own limit), (opened_in own limit reading b).1)
    (Err OutOfBounds, (opened_in own limit reading b).1)

-- ---- which transfer a call is for, and what becomes of it

pub record Decides : Type 0 where
  pub place : Option ℕ
  pub step : Step

abbrev pub key_in : List ℕ → Address → SessionNumber → Key
key_in b da session = record { sa = own_at b; da = da; session = session }

abbrev pub announces : Sender → Key → ℕ → ℕ → Decides
announces s k pgn n =
    let f : Option ℕ = slot_for k s.transfers in
    record { place = f; step = announced_to (state_in f s.transfers) (is_some f) k pgn n s.last }

abbrev pub asks : Sender → Key → ℕ → Decides
asks s k n =
    let f : Option ℕ = key_place k s.transfers in
    record { place = f; step = asked_to (state_in f s.transfers) n s.last }

abbrev pub hears_from : Sender → Route → List ℕ → Decides
hears_from s route d =
    let f : Option ℕ = key_place (session_key_of route d) s.transfers in
    record { place = f; step = hears (state_in f s.transfers) (response_of route d) s.last }

-- the record after it, and the same of its bytes
abbrev pub applied : Sender → Option ℕ → Change Transfer Course → Sender
applied s f c = on_found f (λ i. with_transfer s i c) s

abbrev pub applied_in : List ℕ → Option ℕ → Change Transfer Course → List ℕ
applied_in b f c = on_found f (λ i. changed b i c) b

abbrev pub decided_in : List ℕ → Decides → Reply × List ℕ
decided_in b d = (d.step.reply, applied_in b d.place d.step.change)

-- ---- what goes out, laid into the output; the bytes after it stay

abbrev pub quietly : Reply → Sent
quietly r = record { reply = r; frame = None }

abbrev pub sent_by : Option Wire → Reply → List ℕ → Sent × List ℕ
sent_by None r out = (quietly r, out)
sent_by (Some w) r out = (record { reply = r; frame = Some (record { id = w.0; len = length w.1 }) }, w.1 ++ drop (length w.1) out)

abbrev pub sent_in : Key → List ℕ → Reply → List ℕ → Sent × List ℕ
sent_in k m r out = sent_by (sends k m r) r out

-- what an announcement answers
abbrev pub Announces : Reply → Type 0
Announces (reply.Announced o) = Unit {0}
Announces (reply.Segment n) = ⊥
Announces (reply.Status o) = ⊥
Announces reply.NothingDue = ⊥
Announces reply.Granted = ⊥
Announces (reply.Acknowledged k) = ⊥
Announces (reply.Aborted k) = ⊥
Announces (reply.Ended e) = ⊥
Announces (reply.Refused n) = Unit {0}

-- what a transfer answers that is asked for its next frame: a segment is one of the message
abbrev pub Sendable : List ℕ → Reply → Type 0
Sendable m (reply.Announced o) = ⊥
Sendable m (reply.Segment n) = (1 ≤ n.0) × (60 * (n.0 - 1) + due_of (length m) n.0 ≤ length m) × (length m ≤ 4096)
Sendable m (reply.Status o) = Unit {0}
Sendable m reply.NothingDue = Unit {0}
Sendable m reply.Granted = ⊥
Sendable m (reply.Acknowledged k) = ⊥
Sendable m (reply.Aborted k) = ⊥
Sendable m (reply.Ended e) = ⊥
Sendable m (reply.Refused n) = Unit {0}

-- ---- the calls on bytes: 23 for a record out of bounds, and for an output not of 64 bytes

abbrev pub Called : Type 0
Called = Sent × (List ℕ × List ℕ)

abbrev pub given_in : List ℕ → Key → List ℕ → List ℕ → Decides → Called
given_in b k m out d =
    let s : Sent × List ℕ = sent_in k m d.step.reply out in (s.0, ((decided_in b d).1, s.1))

abbrev pub outside : List ℕ → List ℕ → Called
outside b out = (quietly (reply.Refused OutOfBounds), (b, out))

unfoldable pub announce_in : List ℕ → Address → SessionNumber → ℕ → List ℕ → List ℕ → Called
announce_in b da session pgn m out =
    cond (not (ready_in b)) (outside b out)
    (cond (not (eqb (length out) 64)) (outside b out)
    (given_in b (key_in b da session) m out (announces (sender_at b) (key_in b da session) pgn (length m))))

unfoldable pub ask_in : List ℕ → Address → SessionNumber → List ℕ → List ℕ → Called
ask_in b da session m out =
    cond (not (ready_in b)) (outside b out)
    (cond (not (eqb (length out) 64)) (outside b out)
    (given_in b (key_in b da session) m out (asks (sender_at b) (key_in b da session) (length m))))

-- a frame at a sender with no receiver beside it: 23, 2, 1, 3 also for what is no control frame, then by its route
abbrev pub on_verdict : Result Content Refusal → List ℕ → List ℕ → Reply × List ℕ
on_verdict (Ok (verdict.Control route)) b d = decided_in b (hears_from (sender_at b) route d)
on_verdict (Ok (verdict.MultiPg route)) b d = (reply.Refused NotTaken, b)
on_verdict (Ok (verdict.Data route)) b d = (reply.Refused NotTaken, b)
on_verdict (Err n) b d = (reply.Refused n, b)

unfoldable pub hear_in : List ℕ → ℕ → List ℕ → Reply × List ℕ
hear_in b id d =
    cond (not (ready_in b)) (reply.Refused OutOfBounds, b) (on_verdict (judged (own_at b) id (length d)) b d)
