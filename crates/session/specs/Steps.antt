-- What the steps of a session leave to whoever applies them: a session moves on or ends only where it is open, and by a segment it moves
-- on only where that is taken.
use Rattle.std.specs.Prelude.{◌≡◌, ℕ, Bool, true, false, cond, not, ◌==◌, ◌≢◌, Err, None, Ok, Option, Result, Some, ⊤}
use Rattle.std.proofs.Math.Path.{refl}
use Rattle.std.proofs.Common.{arith}
use Rattle.frame.specs.declared.refusal.Refusal.{Refusal}
use Rattle.frame.specs.declared.refusal.Refusal.TheVariants.{AnnouncementForm, KeyOpen, SlotsFull, FormatIndicator, KeyNotOpen}
use Rattle.transport.specs.declared.Key.{Key}
use Rattle.transport.specs.declared.announcement.Announcement.{Announcement}
use Rattle.transport.specs.declared.eoms.Status.{Status}
use Rattle.transport.specs.declared.segment.Segment.{Segment}
use Rattle.answer.specs.declared.Answer.TheVariants as answer
use Rattle.progress.specs.declared.Progress.{Progress}
use Rattle.session.specs.declared.Session.{Session}
use Rattle.session.specs.declared.Change.{Change}
use Rattle.session.specs.declared.Change.TheVariants.{Stays, Opens, Moves, Ends}
use Rattle.session.specs.declared.Step.{Step}
use Rattle.session.specs.declared.segment.Judged.{Judged}
use Rattle.session.specs.declared.segment.Judged.TheVariants as judged
use Rattle.session.specs.Announcements.{misdirected, form_of}
use Rattle.session.specs.Segments.{judged_of}
use Rattle.session.specs.Decisions.{refused, accepted_if, is_restart, on_form, on_judged, if_open, segment_open, announced_to, segment_to, status_to, abort_to}
use Rattle.session.specs.Cases.{by_status}

abbrev pub MeetsOpen : Change Session Progress → Option Session → Type 0
MeetsOpen Stays x = Unit {0}
MeetsOpen (Opens s) x = Unit {0}
MeetsOpen (Moves p) (Some s) = Unit {0}
MeetsOpen (Moves p) None = ⊥
MeetsOpen Ends (Some s) = Unit {0}
MeetsOpen Ends None = ⊥

pub announce_meets : (x : Option Session) (room : Bool) (k : Key) (a : Announcement) (last : ℕ) → MeetsOpen (announced_to x room k a last).change x
unfolding announced_to
announce_meets x room k a last = go (misdirected k.da a.kind) (form_of a) x
  where
    accepted : (y : Option Session) (t : Bool) (n : Refusal) → MeetsOpen (accepted_if t n k a last).change y
    accepted y true n = tt
    accepted y false n = tt

    go : (t : Bool) (f : Result ⊤ Refusal) (y : Option Session) → MeetsOpen (cond t (refused AnnouncementForm) (on_form f y room k a last)).change y
    go true f y = tt
    go false (Err n) y = tt
    go false (Ok tt) (Some s) = accepted (Some s) (is_restart s a) KeyOpen
    go false (Ok tt) None = accepted None room SlotsFull

pub status_meets : (x : Option Session) (slot : ℕ) (st : Status) (last : ℕ) → MeetsOpen (status_to x slot st last).change x
unfolding status_to
status_meets None slot st last = tt
status_meets (Some s) slot st last = by_status (λ (r : Step). MeetsOpen r.change (Some s)) s slot st last tt (λ _ _. tt) (λ _ _ _. tt) tt

pub abort_meets : (x : Option Session) (pgn : ℕ) → MeetsOpen (abort_to x pgn).change x
unfolding abort_to
abort_meets None pgn = tt
abort_meets (Some s) pgn = go (pgn == s.announced.pgn)
  where
    go : (t : Bool) → MeetsOpen (cond t (record { change = Ends; answer = answer.Aborted s.announced.key }) (refused KeyNotOpen)).change (Some s)
    go true = tt
    go false = tt

module _ (sg : Segment) (last : ℕ) where
  -- t: the format indicator is not 0
  abbrev by : Bool → Option Session → Step
  by t x = cond t (refused FormatIndicator) (if_open x (λ s. segment_open s sg.number.0 sg.room last))

  pub segment_meets : (x : Option Session) → MeetsOpen (segment_to x sg last).change x
  unfolding segment_to
  segment_meets x = go (not (sg.format == 0)) x
    where
      judges : (j : Judged) (s : Session) → MeetsOpen (on_judged j s sg.number.0 last).change (Some s)
      judges (judged.Refused n) s = tt
      judges (judged.Ends n) s = tt
      judges judged.Takes s = tt

      go : (t : Bool) (y : Option Session) → MeetsOpen (by t y).change y
      go true y = tt
      go false None = tt
      go false (Some s) = judges (judged_of s sg.number.0 sg.room) s

  stays≢moves : (p : Progress) → ◌≢◌ {A = Change Session Progress} Stays (Moves p)
  stays≢moves p e = let z : ◌≡◌ {A = ℕ} 0 1 = cc in omega arith

  ends≢moves : (p : Progress) → ◌≢◌ {A = Change Session Progress} Ends (Moves p)
  ends≢moves p e = let z : ◌≡◌ {A = ℕ} 0 1 = cc in omega arith

  -- a session that moves on by a segment has taken it
  pub moves_takes : (s : Session) (p : Progress) → (segment_to (Some s) sg last).change ≡ Moves p → judged_of s sg.number.0 sg.room ≡ judged.Takes
  unfolding segment_to
  moves_takes s p e = go (not (sg.format == 0)) e
    where
      judges : (j : Judged) → (on_judged j s sg.number.0 last).change ≡ Moves p → j ≡ judged.Takes
      judges (judged.Refused n) q = absurd (stays≢moves p q)
      judges (judged.Ends n) q = absurd (ends≢moves p q)
      judges judged.Takes q = refl

      go : (t : Bool) → (by t (Some s)).change ≡ Moves p → judged_of s sg.number.0 sg.room ≡ judged.Takes
      go true q = absurd (stays≢moves p q)
      go false q = judges (judged_of s sg.number.0 sg.room) q
