-- What a call, a frame or a reading makes of one transfer, and what is answered: 02, E2. One that is not open is Closed.
use Rattle.std.specs.Prelude.{ℕ, ◌+◌, ◌-◌, ◌<◌, Bool, true, false, cond, not, ◌&&◌, ◌||◌, eqb, ltb, Err, None, Ok, Option, Result, Some}
use Rattle.frame.specs.Pgn.{pgn_ok}
use Rattle.frame.specs.declared.refusal.Refusal.{Refusal}
use Rattle.frame.specs.declared.refusal.Refusal.TheVariants.{NotTaken, PgnForm, MessageLength, KeyOpen, TransfersFull, KeyNotOpen, GrantRange, Silence}
use Rattle.transport.specs.declared.Key.{Key}
use Rattle.transport.specs.declared.cts.Cts.{Cts}
use Rattle.transport.specs.declared.cts.CtsRead.{CtsRead}
use Rattle.transport.specs.declared.eoma.Eoma.{Eoma}
use Rattle.transport.specs.declared.response.ResponseRead.TheVariants as response
use Rattle.transport.specs.Kinds.{is_rts}
use Rattle.answer.specs.declared.Ending.{Ending}
use Rattle.session.specs.Ends.{is_idle}
use Rattle.transfer.specs.declared.Offer.{Offer}
use Rattle.transfer.specs.declared.Course.{Course}
use Rattle.transfer.specs.declared.Transfer.{Transfer}
use Rattle.session.specs.declared.Change.{Change}
use Rattle.session.specs.declared.Change.TheVariants.{Stays, Opens, Moves, Ends}
use Rattle.transfer.specs.declared.Reply.{Reply}
use Rattle.transfer.specs.declared.Reply.TheVariants as reply
use Rattle.transfer.specs.declared.Step.{Step}
use Rattle.transfer.specs.Transfers.{offer_kind, offer_segments, transfer_of}
use Rattle.transfer.specs.Bounds.{destination_ok, length_ok}
use Rattle.transport.specs.declared.response.ResponseRead.{ResponseRead}

-- ---- what is known of a key after a change

abbrev pub moved : Option Transfer → Course → Option Transfer
moved None c = None
moved (Some t) c = Some (record { offer = t.offer; course = c })

abbrev pub after : Option Transfer → Change Transfer Course → Option Transfer
after x Stays = x
after x (Opens t) = Some t
after x (Moves c) = moved x c
after x Ends = None

-- ---- steps

-- a refusal by which nothing changes
abbrev pub refused : Refusal → Step
refused n = record { change = Stays; reply = reply.Refused n }

abbrev pub moves : Course → Reply → Step
moves c r = record { change = Moves c; reply = r }

abbrev pub ends : Reply → Step
ends r = record { change = Ends; reply = r }

-- a refusal that ends the transfer
abbrev pub ending_of : Offer → Refusal → Ending
ending_of o n = record { key = o.key; kind = offer_kind o; refusal = n; pgn = o.pgn }

abbrev pub ended : Offer → Refusal → Step
ended o n = ends (reply.Ended (ending_of o n))

-- ---- an announcement: 3, 8, 26, 14, 25; `room`: a transfer is free

abbrev pub for_key : Option Transfer → Bool → Offer → ℕ → Step
for_key (Some t) room o last = refused KeyOpen
for_key None room o last =
    cond (not room) (refused TransfersFull) (record { change = Opens (transfer_of o last); reply = reply.Announced o })

abbrev pub offer_of : Key → ℕ → ℕ → Offer
offer_of k pgn n = record { key = k; total = record { 0 = n }; pgn = pgn }

unfoldable pub announced_to : Option Transfer → Bool → Key → ℕ → ℕ → ℕ → Step
announced_to x room k pgn n last =
    cond (not (destination_ok k)) (refused NotTaken)
    (cond (not (pgn_ok pgn)) (refused PgnForm)
    (cond (not (length_ok n)) (refused MessageLength)
    (for_key x room (offer_of k pgn n) last)))

-- ---- the next frame

-- once the next segment has gone out: an EOMS is owed where it spends a grant and the last segment has gone out by then
abbrev pub completes : Transfer → Bool
completes t = t.course.complete || eqb t.course.next.0 (offer_segments t.offer)

abbrev pub after_segment : Transfer → ℕ → Course
after_segment t last =
    record {
      next = record { 0 = t.course.next.0 + 1 };
      granted = t.course.granted;
      complete = completes t;
      reported = t.course.reported;
      owed = eqb t.course.next.0 t.course.granted.0 && completes t;
      mark = last;
    }

abbrev pub after_status : Course → ℕ → Course
after_status c last =
    record { next = c.next; granted = c.granted; complete = c.complete; reported = true; owed = false; mark = last }

-- an RTS waits for its EOMA, a BAM has ended
abbrev pub status_goes : Transfer → ℕ → Step
status_goes t last =
    cond (is_rts (offer_kind t.offer)) (moves (after_status t.course last) (reply.Status t.offer))
    (ends (reply.Status t.offer))

-- an EOMS that is owed, else the next segment if it is granted, else nothing
unfoldable pub next_frame : Transfer → ℕ → Step
next_frame t last =
    cond t.course.owed (status_goes t last)
    (cond (ltb t.course.granted.0 t.course.next.0) (record { change = Stays; reply = reply.NothingDue })
    (moves (after_segment t last) (reply.Segment t.course.next)))

-- ---- asked for it with a message of n bytes: 16, 26

abbrev pub if_open : Option Transfer → (Transfer → Step) → Step
if_open None f = refused KeyNotOpen
if_open (Some t) f = f t

abbrev pub asked_of : Transfer → ℕ → ℕ → Step
asked_of t n last = cond (not (eqb t.offer.total.0 n)) (refused MessageLength) (next_frame t last)

unfoldable pub asked_to : Option Transfer → ℕ → ℕ → Step
asked_to x n last = if_open x (λ t. asked_of t n last)

-- the number of the next segment is one of three bytes
abbrev pub NextFits : Option Transfer → Type 0
NextFits None = Unit {0}
NextFits (Some t) = t.course.next.0 < 16777216

-- ---- a CTS

-- one for segments replaces the grant before it, and no EOMS is owed
abbrev pub granted_by : Course → Cts → ℕ → Course
granted_by c f last =
    record {
      next = f.next;
      granted = record { 0 = f.next.0 + f.count - 1 };
      complete = c.complete;
      reported = c.reported;
      owed = false;
      mark = last;
    }

-- one for none drops what is left of the grant (001, 6.6.2.4)
abbrev pub stopped : Course → Bool → ℕ → Course
stopped c owed last =
    record {
      next = c.next;
      granted = record { 0 = c.next.0 - 1 };
      complete = c.complete;
      reported = c.reported;
      owed = owed;
      mark = last;
    }

-- 27: a segment that the message does not have
abbrev pub bad_grant : ℕ → Cts → Bool
bad_grant segments f = eqb f.next.0 0 || ltb (segments + 1) (f.next.0 + f.count)

-- request code 1, once the last segment has gone out, asks for the EOMS again (6.6.3.2.5); else a count of 0 is for none
unfoldable pub cts_open : Transfer → CtsRead → ℕ → Step
cts_open t f last =
    cond (t.course.complete && eqb f.request 1) (moves (stopped t.course true last) reply.Granted)
    (cond (eqb f.cts.count 0) (moves (stopped t.course t.course.owed last) reply.Granted)
    (cond (bad_grant (offer_segments t.offer) f.cts) (ended t.offer GrantRange)
    (moves (granted_by t.course f.cts last) reply.Granted)))

-- ---- an EOMA: 16 before our first EOMS, or with other totals

abbrev pub as_sent : Transfer → Eoma → Bool
as_sent t f =
    t.course.reported && eqb f.total.0 t.offer.total.0 && eqb f.segments.0 (offer_segments t.offer)

unfoldable pub eoma_open : Transfer → Eoma → Step
eoma_open t f = cond (as_sent t f) (ends (reply.Acknowledged t.offer.key)) (refused KeyNotOpen)

-- ---- a responder's frame for what is known of its key; 16 where no transfer of its PGN is open

abbrev pub of_pgn : Option Transfer → ℕ → Option Transfer
of_pgn None pgn = None
of_pgn (Some t) pgn = cond (eqb t.offer.pgn pgn) (Some t) None

abbrev pub cts_to : Option Transfer → CtsRead → ℕ → Step
cts_to x f last = if_open x (λ t. cts_open t f last)

abbrev pub eoma_to : Option Transfer → Eoma → Step
eoma_to x f = if_open x (λ t. eoma_open t f)

abbrev pub abort_to : Option Transfer → Step
abort_to x = if_open x (λ t. ends (reply.Aborted t.offer.key))

unfoldable pub hears : Option Transfer → Result ResponseRead Refusal → ℕ → Step
hears x (Ok (response.Cts f)) last = cts_to (of_pgn x f.cts.pgn) f last
hears x (Ok (response.Eoma f)) last = eoma_to (of_pgn x f.pgn) f
hears x (Ok (response.Abort f)) last = abort_to (of_pgn x f.pgn)
hears x (Err n) last = refused n

-- ---- a reading: the transfer stays, or ends with 22

abbrev pub end_at : ℕ → ℕ → Transfer → Option Ending
end_at limit t x = cond (is_idle limit x.course.mark t) (Some (ending_of x.offer Silence)) None
