-- The numbers of every decision have their place in four bytes, where those of the session have: what is opened or moved, and what is
-- answered. Nothing here but the definitions needs to be believed.
use Rattle.std.specs.Prelude.{ℕ, ◌<◌, min, Bool, true, false, cond, Err, None, Ok, Option, Result, Some, ⊤}
use Rattle.std.proofs.Common.{arith}
use Rattle.frame.specs.declared.refusal.Refusal.{Refusal}
use Rattle.frame.specs.declared.refusal.Refusal.TheVariants.{AnnouncementForm, KeyOpen, SlotsFull}
use Rattle.transport.specs.Kinds.{is_rts}
use Rattle.transport.specs.declared.Key.{Key}
use Rattle.transport.specs.declared.announcement.Announcement.{Announcement}
use Rattle.answer.specs.declared.Answer.{Answer}
use Rattle.answer.specs.declared.Answer.TheVariants as answer
use Rattle.progress.specs.Forward.{grant_of}
use Rattle.session.specs.Announcements.{misdirected, form_of, first_granted, session_of}
use Rattle.session.specs.Decisions.{stays, rejection, accepted_if, is_restart, for_key, on_form, announced_to}
use Rattle.session.specs.Fits.{Small, ProgressSmall, AnswerFits, StepFits, small_if}
use Rattle.session.specs.declared.Session.{Session}

either : (t : Bool) (a b : Answer) → AnswerFits a → AnswerFits b → AnswerFits (cond t a b)
either true a b p q = p
either false a b p q = q

-- ---- an announcement

rejects : (k : Key) (a : Announcement) (n : Refusal) → Small a.pgn → StepFits (stays (rejection k a n))
rejects k a n p = record { change = tt; answer = either (is_rts a.kind) _ _ p tt }

first_small : (a : Announcement) → Small (first_granted a)
unfolding grant_of
first_small a = go (is_rts a.kind)
  where
    go : (t : Bool) → cond t (min (min a.max 16) a.segments.0) 0 < 4294967296
    go true = omega arith
    go false = omega arith

opened_small : (k : Key) (a : Announcement) (last : ℕ) → Small a.segments.0 → Small last → ProgressSmall (session_of k a last).progress
opened_small k a last g l = record {
  next = small_if (is_rts a.kind) 0 1 (omega arith) (omega arith);
  low = omega arith;
  high = omega arith;
  missing = small_if (is_rts a.kind) a.segments.0 0 g (omega arith);
  requests = omega arith;
  granted = first_small a;
  mark = l;
}

module _ (k : Key) (a : Announcement) (last : ℕ) (p : Small a.pgn) (g : Small a.segments.0) (l : Small last) where
  accepted_fits : (t : Bool) (n : Refusal) → StepFits (accepted_if t n k a last)
  accepted_fits false n = rejects k a n p
  accepted_fits true n = record { change = opened_small k a last g l; answer = either (is_rts a.kind) _ _ (omega arith, p) tt }

  for_key_fits : (x : Option Session) (room : Bool) → StepFits (for_key x room k a last)
  for_key_fits (Some s) room = accepted_fits (is_restart s a) KeyOpen
  for_key_fits None room = accepted_fits room SlotsFull

  pub announce_fits : (x : Option Session) (room : Bool) → StepFits (announced_to x room k a last)
  unfolding announced_to
  announce_fits x room = go (misdirected k.da a.kind) (form_of a)
    where
      go : (t : Bool) (f : Result ⊤ Refusal) → StepFits (cond t (stays (answer.Refused AnnouncementForm)) (on_form f x room k a last))
      go true f = record { change = tt; answer = tt }
      go false (Ok tt) = for_key_fits x room
      go false (Err n) = rejects k a n p
