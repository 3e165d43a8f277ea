-- What a frame or a reading makes of one session, and what is answered: 01, "Life of a session", as 02 changes it. A session that is not
-- open is Closed.
use Rattle.std.specs.Prelude.{ℕ, Bool, cond, not, ◌&&◌, ◌==◌, nat_lt, Err, None, Ok, Option, Result, Some, ⊤}
use Rattle.frame.specs.declared.refusal.Refusal.{Refusal}
use Rattle.frame.specs.declared.refusal.Refusal.TheVariants.{AnnouncementForm, KeyOpen, SlotsFull, KeyNotOpen, FormatIndicator, StatusMismatch, RequestsSpent, Silence}
use Rattle.transport.specs.Kinds.{is_rts}
use Rattle.transport.specs.declared.Key.{Key}
use Rattle.transport.specs.declared.announcement.Announcement.{Announcement}
use Rattle.transport.specs.declared.eoms.Status.{Status}
use Rattle.transport.specs.declared.segment.Segment.{Segment}
use Rattle.answer.specs.declared.Answer.{Answer}
use Rattle.answer.specs.declared.Answer.TheVariants as answer
use Rattle.answer.specs.declared.Ending.{Ending}
use Rattle.answer.specs.declared.Message.{Message}
use Rattle.progress.specs.declared.Progress.{Progress}
use Rattle.progress.specs.Forward.{cts_due, advanced_by}
use Rattle.progress.specs.Requests.{requested_by}
use Rattle.progress.specs.Waits.{limit_in}
use Rattle.progress.specs.declared.wait.IdleLimits.{IdleLimits}
use Rattle.session.specs.declared.Session.{Session}
use Rattle.session.specs.declared.Change.{Change}
use Rattle.session.specs.declared.Change.TheVariants.{Stays, Opens, Moves, Ends}
use Rattle.session.specs.declared.Step.{Step}
use Rattle.session.specs.declared.segment.Judged.{Judged}
use Rattle.session.specs.declared.segment.Judged.TheVariants as judged
use Rattle.session.specs.Announcements.{misdirected, form_of, session_of, first_cts}
use Rattle.session.specs.Segments.{judged_of, next_cts}
use Rattle.session.specs.Ends.{status_matches, all_in, request_cts, is_idle}

-- ---- what is known of a key after a change

abbrev pub moved : Option Session → Progress → Option Session
moved None p = None
moved (Some s) p = Some (record { announced = s.announced; progress = p })

abbrev pub after : Option Session → Change Session Progress → Option Session
after x Stays = x
after x (Opens s) = Some s
after x (Moves p) = moved x p
after x Ends = None

-- ---- steps

-- an answer by which nothing changes
abbrev pub stays : Answer → Step
stays a = record { change = Stays; answer = a }

abbrev pub refused : Refusal → Step
refused n = stays (answer.Refused n)

-- by the open session, if there is one; else 16
abbrev pub if_open : Option Session → (Session → Step) → Step
if_open None f = refused KeyNotOpen
if_open (Some s) f = f s

-- ---- a refusal that ends the session

abbrev pub ending_of : Session → Refusal → Ending
ending_of s n = record { key = s.announced.key; kind = s.announced.kind; refusal = n; pgn = s.announced.pgn }

abbrev pub ended : Session → Refusal → Step
ended s n = record { change = Ends; answer = answer.Ended (ending_of s n) }

-- ---- an announcement; `room`: there is a slot for the key

-- to the right destination, and refused: an RTS is answered by Abort
abbrev pub rejection : Key → Announcement → Refusal → Answer
rejection k a n =
    cond (is_rts a.kind) (answer.RefusedRts (record { key = k; refusal = n; pgn = a.pgn })) (answer.Refused n)

-- an RTS is answered by CTS
abbrev pub opening : Key → Announcement → ℕ → Step
opening k a last =
    record {
      change = Opens (session_of k a last);
      answer = cond (is_rts a.kind) (answer.Grant (first_cts k a)) (answer.Opened k);
    }

abbrev pub accepted_if : Bool → Refusal → Key → Announcement → ℕ → Step
accepted_if admitted n k a last = cond admitted (opening k a last) (stays (rejection k a n))

-- 02, E1: an RTS of the PGN announced is the open session's own once more, and the last one counts (001, 6.6.3.1)
abbrev pub is_restart : Session → Announcement → Bool
is_restart s a = is_rts a.kind && a.pgn == s.announced.pgn

-- an open key takes a restart, whether or not there is a slot free, and is 14 to all else; a closed one is 15 where there is no slot
abbrev pub for_key : Option Session → Bool → Key → Announcement → ℕ → Step
for_key (Some s) room k a last = accepted_if (is_restart s a) KeyOpen k a last
for_key None room k a last = accepted_if room SlotsFull k a last

abbrev pub on_form : Result ⊤ Refusal → Option Session → Bool → Key → Announcement → ℕ → Step
on_form (Ok tt) x room k a last = for_key x room k a last
on_form (Err n) x room k a last = stays (rejection k a n)

-- 11 with nothing sent for a wrong destination; 11, 12, 13, 8; then by the key's session
unfoldable pub announced_to : Option Session → Bool → Key → Announcement → ℕ → Step
announced_to x room k a last =
    cond (misdirected k.da a.kind) (refused AnnouncementForm) (on_form (form_of a) x room k a last)

-- ---- a segment

abbrev pub taken : Session → ℕ → ℕ → Step
taken s n last =
    record {
      change = Moves (advanced_by s.progress s.announced n last);
      answer = cond (cts_due s.progress s.announced n) (answer.Grant (next_cts s.announced n))
          (answer.Taken (record { key = s.announced.key; number = record { 0 = n } }));
    }

abbrev pub on_judged : Judged → Session → ℕ → ℕ → Step
on_judged (judged.Refused x) s n last = refused x
on_judged (judged.Ends x) s n last = ended s x
on_judged judged.Takes s n last = taken s n last

abbrev pub segment_open : Session → ℕ → ℕ → ℕ → Step
segment_open s n room last = on_judged (judged_of s n room) s n last

-- 17, 16, then the open session's judgement
unfoldable pub segment_to : Option Session → Segment → ℕ → Step
segment_to x sg last =
    cond (not (sg.format == 0)) (refused FormatIndicator)
    (if_open x (λ s. segment_open s sg.number.0 sg.room last))

-- ---- the end; the data of a session is in a slot

abbrev pub message_of : ℕ → Session → Message
message_of slot s =
    record {
      key = s.announced.key;
      kind = s.announced.kind;
      total = s.announced.total;
      segments = s.announced.segments;
      pgn = s.announced.pgn;
      slot = slot;
    }

-- the message is handed over, and the slot is free
abbrev pub hands_over : ℕ → Session → Step
hands_over slot s = record { change = Ends; answer = answer.HandedOver (message_of slot s) }

-- 02, E6: the first missing run is asked for by CTS
abbrev pub asks : Session → ℕ → Step
asks s last =
    record {
      change = Moves (requested_by s.progress s.announced last);
      answer = answer.Grant (request_cts s);
    }

-- segments are missing: each RTS session allows five requests
abbrev pub lacks : Session → ℕ → Step
lacks s last =
    cond (is_rts s.announced.kind) (cond (nat_lt s.progress.requests 5) (asks s last) (ended s RequestsSpent))
    (ended s StatusMismatch)

abbrev pub status_open : Session → ℕ → Status → ℕ → Step
status_open s slot st last =
    cond (status_matches s st) (cond (all_in s) (hands_over slot s) (lacks s last)) (ended s StatusMismatch)

unfoldable pub status_to : Option Session → ℕ → Status → ℕ → Step
status_to x slot st last = if_open x (λ s. status_open s slot st last)

-- one of another PGN is 16
abbrev pub abort_open : Session → ℕ → Step
abort_open s pgn =
    cond (pgn == s.announced.pgn) (record { change = Ends; answer = answer.Aborted s.announced.key })
    (refused KeyNotOpen)

unfoldable pub abort_to : Option Session → ℕ → Step
abort_to x pgn = if_open x (λ s. abort_open s pgn)

-- ---- a reading: the session stays, or ends with 22

abbrev pub is_silent : IdleLimits → ℕ → Session → Bool
is_silent limits t s = is_idle (limit_in limits s.progress.wait) s.progress.mark t

abbrev pub end_at : IdleLimits → ℕ → Session → Option Ending
end_at limits t s = cond (is_silent limits t s) (Some (ending_of s Silence)) None
