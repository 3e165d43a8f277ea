-- Which of the two silences each answer starts: 02, E4. Nothing here but the three definitions needs to be believed.
use Rattle.std.specs.Prelude.{◌≡◌, ℕ, Bool, true, false, cond, not, ◌==◌, refl, Err, None, Ok, Option, Result, Some, ⊤}
use Rattle.frame.specs.declared.refusal.Refusal.{Refusal}
use Rattle.frame.specs.declared.refusal.Refusal.TheVariants.{AnnouncementForm, KeyOpen, SlotsFull, FormatIndicator, KeyNotOpen}
use Rattle.transport.specs.Kinds.{is_rts}
use Rattle.transport.specs.declared.Key.{Key}
use Rattle.transport.specs.declared.announcement.Announcement.{Announcement}
use Rattle.transport.specs.declared.eoms.Status.{Status}
use Rattle.transport.specs.declared.segment.Segment.{Segment}
use Rattle.answer.specs.declared.Answer.{Answer}
use Rattle.answer.specs.declared.Answer.TheVariants as answer
use Rattle.progress.specs.declared.Progress.{Progress}
use Rattle.progress.specs.declared.wait.Wait.{Wait}
use Rattle.progress.specs.declared.wait.Wait.TheVariants.{First, Second}
use Rattle.progress.specs.Forward.{cts_due, advanced_by}
use Rattle.progress.specs.Waits.{wait_after}
use Rattle.session.specs.declared.Session.{Session}
use Rattle.session.specs.declared.Change.{Change}
use Rattle.session.specs.declared.Change.TheVariants.{Stays, Opens, Moves, Ends}
use Rattle.session.specs.declared.Step.{Step}
use Rattle.session.specs.declared.segment.Judged.{Judged}
use Rattle.session.specs.declared.segment.Judged.TheVariants as judged
use Rattle.session.specs.Announcements.{misdirected, form_of, session_of, first_cts}
use Rattle.session.specs.Segments.{judged_of, next_cts}
use Rattle.session.specs.Decisions.{stays, refused, if_open, rejection, accepted_if, is_restart, on_form, announced_to, on_judged, segment_open, segment_to, status_to, abort_to}
use Rattle.session.specs.Cases.{by_status}

-- the session of key κ goes on in the wait w, which counts from the last reading
abbrev pub GoesOn : Key → Change Session Progress → Wait → ℕ → Type 0
GoesOn κ (Opens s) w last = (s.announced.key ≡ κ) × ((s.progress.wait ≡ w) × (s.progress.mark ≡ last))
GoesOn κ (Moves p) w last = (p.wait ≡ w) × (p.mark ≡ last)
GoesOn κ Stays w last = ⊥
GoesOn κ Ends w last = ⊥

-- no wait and no mark changes
abbrev pub Untouched : Change Session Progress → Type 0
Untouched Stays = Unit {0}
Untouched Ends = Unit {0}
Untouched (Opens s) = ⊥
Untouched (Moves p) = ⊥

-- a CTS starts the first wait; a BAM, and a segment that brought no CTS, the second; no other answer starts one
abbrev pub Starts : Key → Answer → Change Session Progress → ℕ → Type 0
Starts κ (answer.Grant c) change last = GoesOn κ change First last
Starts κ (answer.Opened k) change last = GoesOn κ change Second last
Starts κ (answer.Taken t) change last = GoesOn κ change Second last
Starts κ (answer.Groups route) change last = Untouched change
Starts κ (answer.HandedOver m) change last = Untouched change
Starts κ (answer.Aborted k) change last = Untouched change
Starts κ (answer.Ended e) change last = Untouched change
Starts κ (answer.RefusedRts j) change last = Untouched change
Starts κ (answer.Refused n) change last = Untouched change

abbrev pub StepStarts : Key → Step → ℕ → Type 0
StepStarts κ st last = Starts κ st.answer st.change last

-- ---- an announcement

rejects : (k : Key) (a : Announcement) (n : Refusal) (last : ℕ) → StepStarts k (stays (rejection k a n)) last
rejects k a n last = go (is_rts a.kind)
  where
    go : (t : Bool) → Starts k (cond t (answer.RefusedRts (record { key = k; refusal = n; pgn = a.pgn })) (answer.Refused n)) Stays last
    go true = tt
    go false = tt

accepted : (t : Bool) (n : Refusal) (k : Key) (a : Announcement) (last : ℕ) → StepStarts k (accepted_if t n k a last) last
accepted false n k a last = rejects k a n last
accepted true n k a last = go (is_rts a.kind) (session_of k a last) refl refl refl
  where
    go : (t : Bool) (s : Session) → s.announced.key ≡ k → s.progress.wait ≡ wait_after t → s.progress.mark ≡ last
        → Starts k (cond t (answer.Grant (first_cts k a)) (answer.Opened k)) (Opens s) last
    go true s κ e m = (κ, (e, m))
    go false s κ e m = (κ, (e, m))

pub announce_starts : (x : Option Session) (room : Bool) (k : Key) (a : Announcement) (last : ℕ) → StepStarts k (announced_to x room k a last) last
unfolding announced_to
announce_starts x room k a last = go (misdirected k.da a.kind) (form_of a) x
  where
    go : (t : Bool) (f : Result ⊤ Refusal) (x : Option Session) → StepStarts k (cond t (refused AnnouncementForm) (on_form f x room k a last)) last
    go true f x = tt
    go false (Err n) x = rejects k a n last
    go false (Ok tt) (Some s) = accepted (is_restart s a) KeyOpen k a last
    go false (Ok tt) None = accepted room SlotsFull k a last

-- ---- a segment: one that is refused starts nothing

pub segment_starts : (x : Option Session) (k : Key) (sg : Segment) (last : ℕ) → StepStarts k (segment_to x sg last) last
unfolding segment_to
segment_starts x k sg last = go (not (sg.format == 0)) x
  where
    takes : (s : Session) (t : Bool) (p : Progress) → p.wait ≡ wait_after t → p.mark ≡ last
        → Starts k (cond t (answer.Grant (next_cts s.announced sg.number.0)) (answer.Taken (record { key = s.announced.key; number = record { 0 = sg.number.0 } }))) (Moves p) last
    takes s true p e m = (e, m)
    takes s false p e m = (e, m)

    judges : (s : Session) (j : Judged) → StepStarts k (on_judged j s sg.number.0 last) last
    judges s (judged.Refused x) = tt
    judges s (judged.Ends x) = tt
    judges s judged.Takes =
        takes s (cts_due s.progress s.announced sg.number.0) (advanced_by s.progress s.announced sg.number.0 last) refl refl

    go : (t : Bool) (x : Option Session) → StepStarts k (cond t (refused FormatIndicator) (if_open x (λ s. segment_open s sg.number.0 sg.room last))) last
    go true x = tt
    go false None = tt
    go false (Some s) = judges s (judged_of s sg.number.0 sg.room)

-- ---- the end

pub status_starts : (x : Option Session) (k : Key) (slot : ℕ) (st : Status) (last : ℕ) → StepStarts k (status_to x slot st last) last
unfolding status_to
status_starts None k slot st last = tt
status_starts (Some s) k slot st last = by_status (λ (r : Step). StepStarts k r last) s slot st last tt (λ _ _. tt) (λ _ _ _. (refl, refl)) tt

pub abort_starts : (x : Option Session) (k : Key) (pgn last : ℕ) → StepStarts k (abort_to x pgn) last
unfolding abort_to
abort_starts None k pgn last = tt
abort_starts (Some s) k pgn last = go (pgn == s.announced.pgn)
  where
    go : (t : Bool) → StepStarts k (cond t (record { change = Ends; answer = answer.Aborted s.announced.key }) (refused KeyNotOpen)) last
    go true = tt
    go false = tt
