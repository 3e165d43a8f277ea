-- What every decision does, by its change and the number of its answer: 01, "Numbered refusals". The laws about calls are laws about these
-- cases. Nothing here but the three definitions needs to be believed.
use Rattle.std.specs.Prelude.{◌≡◌, ℕ, Bool, true, false, cond, not, ◌==◌, nat_lt, refl, Err, None, Ok, Option, Some}
use Rattle.frame.specs.Refusals.{number_of}
use Rattle.frame.specs.Pgn.{pgn_ok}
use Rattle.frame.specs.declared.refusal.Refusal.{Refusal}
use Rattle.frame.specs.declared.refusal.Refusal.TheVariants.{PgnForm, AnnouncementForm, TooLong, Assurance, KeyOpen, SlotsFull}
use Rattle.transport.specs.Kinds.{is_rts}
use Rattle.transport.specs.declared.Key.{Key}
use Rattle.transport.specs.declared.announcement.Announcement.{Announcement}
use Rattle.answer.specs.declared.Answer.TheVariants as answer
use Rattle.session.specs.declared.Change.TheVariants.{Opens}
use Rattle.session.specs.Announcements.{misdirected, bad_numbers, form_of, session_of, first_cts}
use Rattle.session.specs.Decisions.{stays, rejection, accepted_if, is_restart, for_key, on_form, announced_to}
use Rattle.session.specs.Effects.{mild, Effect, accepts, refuses}
use Rattle.session.specs.declared.Session.{Session}

rejects : (x : Option Session) (k : Key) (a : Announcement) (n : Refusal) → mild (number_of n) ≡ true → Effect x (stays (rejection k a n))
rejects x k a n e = go (is_rts a.kind)
  where
    go : (t : Bool) → Effect x (stays (cond t (answer.RefusedRts (record { key = k; refusal = n; pgn = a.pgn })) (answer.Refused n)))
    go true = refuses x (answer.RefusedRts (record { key = k; refusal = n; pgn = a.pgn })) e
    go false = refuses x (answer.Refused n) e

accepted_effect : (x : Option Session) (t : Bool) (n : Refusal) (k : Key) (a : Announcement) (last : ℕ) → mild (number_of n) ≡ true → Effect x (accepted_if t n k a last)
accepted_effect x false n k a last e = rejects x k a n e
accepted_effect x true n k a last e = go (is_rts a.kind)
  where
    go : (t : Bool) → Effect x (record { change = Opens (session_of k a last); answer = cond t (answer.Grant (first_cts k a)) (answer.Opened k) })
    go true = accepts refl
    go false = accepts refl

for_key_effect : (x : Option Session) (room : Bool) (k : Key) (a : Announcement) (last : ℕ) → Effect x (for_key x room k a last)
for_key_effect (Some s) room k a last = accepted_effect (Some s) (is_restart s a) KeyOpen k a last refl
for_key_effect None room k a last = accepted_effect None room SlotsFull k a last refl

pub announce_effect : (x : Option Session) (room : Bool) (k : Key) (a : Announcement) (last : ℕ) → Effect x (announced_to x room k a last)
unfolding announced_to form_of
announce_effect x room k a last = go (misdirected k.da a.kind) (bad_numbers a) (nat_lt 4096 a.total.0) (not (a.assurance == 0)) (not (pgn_ok a.pgn))
  where
    go : (t b c d e : Bool)
        → Effect x (cond t (stays (answer.Refused AnnouncementForm))
        (on_form (cond b (Err AnnouncementForm)
        (cond c (Err TooLong) (cond d (Err Assurance) (cond e (Err PgnForm) (Ok tt))))) x room k a last))
    go true b c d e = refuses x (answer.Refused AnnouncementForm) refl
    go false true c d e = rejects x k a AnnouncementForm refl
    go false false true d e = rejects x k a TooLong refl
    go false false false true e = rejects x k a Assurance refl
    go false false false false true = rejects x k a PgnForm refl
    go false false false false false = for_key_effect x room k a last
