-- What every decision does, by its change and the number of its answer: 01, "Numbered refusals". The laws about calls are laws about these
-- cases. Nothing here but the three definitions needs to be believed.
use Rattle.std.specs.Prelude.{◌≡◌, ℕ, Bool, true, false, cond, not, ◌||◌, ◌⊎◌, ◌==◌, nat_lt, refl, Err, None, Ok, Option, Result, Some, ⊤}
use Rattle.std.proofs.Common.{inl, inr}
use Rattle.frame.specs.Refusals.{number_of}
use Rattle.frame.specs.declared.refusal.Refusal.{Refusal}
use Rattle.frame.specs.declared.refusal.Refusal.TheVariants.{AnnouncementForm, KeyOpen, SlotsFull, KeyNotOpen, FormatIndicator, AlreadyTaken, OutOfSequence, SegmentCut, StatusMismatch, RequestsSpent}
use Rattle.transport.specs.Kinds.{is_rts}
use Rattle.transport.specs.declared.Key.{Key}
use Rattle.transport.specs.declared.announcement.Announcement.{Announcement}
use Rattle.transport.specs.declared.eoms.Status.{Status}
use Rattle.transport.specs.declared.segment.Segment.{Segment}
use Rattle.answer.specs.declared.Answer.{Answer}
use Rattle.answer.specs.declared.Answer.TheVariants as answer
use Rattle.answer.specs.Answers.{answer_number}
use Rattle.progress.specs.Forward.{cts_due, advanced_by}
use Rattle.session.specs.declared.Session.{Session}
use Rattle.session.specs.declared.Change.TheVariants.{Stays, Moves, Ends}
use Rattle.session.specs.declared.Step.{Step}
use Rattle.session.specs.declared.segment.Judged.{Judged}
use Rattle.session.specs.declared.segment.Judged.TheVariants as judged
use Rattle.session.specs.Announcements.{misdirected, form_of}
use Rattle.session.specs.Segments.{due_of, already_in, out_of_turn, judged_of, next_cts}
use Rattle.session.specs.Decisions.{stays, ended, if_open, rejection, accepted_if, is_restart, for_key, on_form, announced_to, on_judged, segment_open, segment_to, message_of, status_to, abort_to}
use Rattle.session.specs.Cases.{by_status}

-- numbers of refusals that end no session and have nothing to do with bounds
abbrev pub mild : ℕ → Bool
mild n = not (n == 19 || n == 21 || n == 23)

-- a decision refuses nothing, or changes nothing, or ends the open session with 19 or 21
pub data Effect (x : Option Session) (st : Step) : Type 0 where
  accepts : answer_number st.answer ≡ 0 → Effect x st
  keeps : st.change ≡ Stays → mild (answer_number st.answer) ≡ true → Effect x st
  ends : (s : Session) (n : Refusal) → x ≡ Some s → (number_of n ≡ 19) ⊎ (number_of n ≡ 21) → st ≡ ended s n → Effect x st

-- an answer that hands over gives the message of the open session
abbrev pub Hands : Option Session → ℕ → Answer → Type 0
Hands (Some s) slot (answer.HandedOver m) = m ≡ message_of slot s
Hands None slot (answer.HandedOver m) = ⊥
Hands x slot (answer.Groups route) = Unit {0}
Hands x slot (answer.Opened k) = Unit {0}
Hands x slot (answer.Taken t) = Unit {0}
Hands x slot (answer.Grant c) = Unit {0}
Hands x slot (answer.Aborted k) = Unit {0}
Hands x slot (answer.Ended e) = Unit {0}
Hands x slot (answer.RefusedRts j) = Unit {0}
Hands x slot (answer.Refused n) = Unit {0}

pub refuses : (x : Option Session) (a : Answer) → mild (answer_number a) ≡ true → Effect x (stays a)
refuses x a e = keeps refl e

-- only 19 ends a session at a segment
segment_open_lem : (s : Session) (n room last : ℕ) → Effect (Some s) (on_judged (judged_of s n room) s n last)
unfolding judged_of
segment_open_lem s n room last =
    go (n == 0 || already_in s n) (out_of_turn s n || nat_lt s.announced.segments.0 n) (nat_lt room (due_of s.announced.total.0 n))
  where
    taken : (t : Bool) → Effect (Some s) (record {
      change = Moves (advanced_by s.progress s.announced n last);
      answer = cond t (answer.Grant (next_cts s.announced n)) (answer.Taken (record { key = s.announced.key; number = record { 0 = n } }));
    })
    taken true = accepts refl
    taken false = accepts refl

    go : (a b c : Bool) → Effect (Some s) (on_judged (cond a (judged.Refused AlreadyTaken) (cond b (judged.Ends OutOfSequence) (cond c (judged.Refused SegmentCut) judged.Takes))) s n last)
    go true b c = refuses (Some s) (answer.Refused AlreadyTaken) refl
    go false true c = ends s OutOfSequence refl (inl refl) refl
    go false false true = refuses (Some s) (answer.Refused SegmentCut) refl
    go false false false = taken (cts_due s.progress s.announced n)

pub segment_effect : (x : Option Session) (sg : Segment) (last : ℕ) → Effect x (segment_to x sg last)
unfolding segment_to
segment_effect x sg last = go x (not (sg.format == 0))
  where
    go : (x : Option Session) (t : Bool) → Effect x (cond t (stays (answer.Refused FormatIndicator)) (if_open x (λ s. segment_open s sg.number.0 sg.room last)))
    go x true = refuses x (answer.Refused FormatIndicator) refl
    go None false = refuses None (answer.Refused KeyNotOpen) refl
    go (Some s) false = segment_open_lem s sg.number.0 sg.room last

pub status_effect : (x : Option Session) (slot : ℕ) (st : Status) (last : ℕ) → Effect x (status_to x slot st last)
unfolding status_to
status_effect None slot st last = refuses None (answer.Refused KeyNotOpen) refl
status_effect (Some s) slot st last =
    by_status (Effect (Some s)) s slot st last (ends s StatusMismatch refl (inr refl) refl) (λ _ _. accepts refl) (λ _ _ _. accepts refl) (ends s RequestsSpent refl (inr refl) refl)

pub abort_effect : (x : Option Session) (pgn : ℕ) → Effect x (abort_to x pgn)
unfolding abort_to
abort_effect None pgn = refuses None (answer.Refused KeyNotOpen) refl
abort_effect (Some s) pgn = go (pgn == s.announced.pgn)
  where
    go : (t : Bool) → Effect (Some s) (cond t (record { change = Ends; answer = answer.Aborted s.announced.key }) (stays (answer.Refused KeyNotOpen)))
    go true = accepts refl
    go false = refuses (Some s) (answer.Refused KeyNotOpen) refl

-- ---- a message handed over: only by an EOMS, and of the open session

either : (x : Option Session) (slot : ℕ) (t : Bool) (a b : Answer) → Hands x slot a → Hands x slot b → Hands x slot (cond t a b)
either x slot true a b p q = p
either x slot false a b p q = q

quiet_reject : (x : Option Session) (slot : ℕ) (k : Key) (a : Announcement) (n : Refusal) → Hands x slot (rejection k a n)
quiet_reject x slot k a n = either x slot (is_rts a.kind) _ _ tt tt

pub announce_hands : (x : Option Session) (room : Bool) (slot : ℕ) (k : Key) (a : Announcement) (last : ℕ) → Hands x slot (announced_to x room k a last).answer
unfolding announced_to
announce_hands x room slot k a last = go (misdirected k.da a.kind) (form_of a)
  where
    accepted : (x : Option Session) (t : Bool) (n : Refusal) → Hands x slot (accepted_if t n k a last).answer
    accepted x true n = either x slot (is_rts a.kind) _ _ tt tt
    accepted x false n = quiet_reject x slot k a n

    for_key_lem : (x : Option Session) (room : Bool) → Hands x slot (for_key x room k a last).answer
    for_key_lem (Some s) room = accepted (Some s) (is_restart s a) KeyOpen
    for_key_lem None room = accepted None room SlotsFull

    go : (t : Bool) (f : Result ⊤ Refusal) → Hands x slot (cond t (stays (answer.Refused AnnouncementForm)) (on_form f x room k a last)).answer
    go true f = tt
    go false (Ok tt) = for_key_lem x room
    go false (Err n) = quiet_reject x slot k a n

pub segment_hands : (x : Option Session) (slot : ℕ) (sg : Segment) (last : ℕ) → Hands x slot (segment_to x sg last).answer
unfolding segment_to
segment_hands x slot sg last = go x (not (sg.format == 0))
  where
    judges : (s : Session) (j : Judged) → Hands (Some s) slot (on_judged j s sg.number.0 last).answer
    judges s (judged.Refused n) = tt
    judges s (judged.Ends n) = tt
    judges s judged.Takes = either (Some s) slot (cts_due s.progress s.announced sg.number.0) _ _ tt tt

    go : (x : Option Session) (t : Bool) → Hands x slot (cond t (stays (answer.Refused FormatIndicator)) (if_open x (λ s. segment_open s sg.number.0 sg.room last))).answer
    go x true = tt
    go None false = tt
    go (Some s) false = judges s (judged_of s sg.number.0 sg.room)

pub status_hands : (x : Option Session) (slot : ℕ) (st : Status) (last : ℕ) → Hands x slot (status_to x slot st last).answer
unfolding status_to
status_hands None slot st last = tt
status_hands (Some s) slot st last = by_status (λ (r : Step). Hands (Some s) slot r.answer) s slot st last tt (λ _ _. refl) (λ _ _ _. tt) tt

pub abort_hands : (x : Option Session) (slot pgn : ℕ) → Hands x slot (abort_to x pgn).answer
unfolding abort_to
abort_hands None slot pgn = tt
abort_hands (Some s) slot pgn = go (pgn == s.announced.pgn)
  where
    go : (t : Bool) → Hands (Some s) slot (cond t (record { change = Ends; answer = answer.Aborted s.announced.key }) (stays (answer.Refused KeyNotOpen))).answer
    go true = tt
    go false = tt
