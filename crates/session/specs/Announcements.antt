-- An announcement judged, and the session that it opens: 01, "Announcement"; 02, E6.
use Rattle.std.specs.Prelude.{ℕ, ◌+◌, ◌/◌, Bool, cond, not, ◌&&◌, ◌||◌, ◌==◌, nat_lt, Err, Ok, Result, ⊤}
use Rattle.frame.specs.Pgn.{pgn_ok}
use Rattle.transport.specs.Kinds.{is_rts}
use Rattle.segments.specs.Model.{none_in}
use Rattle.progress.specs.declared.Announced.{Announced}
use Rattle.progress.specs.Forward.{grant_of}
use Rattle.progress.specs.Waits.{wait_after}
use Rattle.frame.specs.declared.Address.{Address}
use Rattle.frame.specs.declared.refusal.Refusal.{Refusal}
use Rattle.frame.specs.declared.refusal.Refusal.TheVariants.{PgnForm, AnnouncementForm, TooLong, Assurance}
use Rattle.transport.specs.declared.Key.{Key}
use Rattle.transport.specs.declared.Kind.{Kind}
use Rattle.transport.specs.declared.Kind.TheVariants.{Rts, Bam}
use Rattle.transport.specs.declared.announcement.Announcement.{Announcement}
use Rattle.transport.specs.declared.cts.Cts.{Cts}
use Rattle.session.specs.declared.Session.{Session}

-- RTS to 255, or BAM to the own address; a frame that is taken has no other DA
abbrev pub misdirected : Address → Kind → Bool
misdirected da Rts = da.0 == 255
misdirected da Bam = not (da.0 == 255)

-- Total Bytes 0, segments not Total Bytes divided by 60 rounded up, or MAX SGMTS 0 in an RTS
abbrev pub bad_numbers : Announcement → Bool
bad_numbers a =
    (a.total.0 == 0)
    || not (a.segments.0 == (a.total.0 + 59) / 60)
    || (is_rts a.kind && a.max == 0)

-- 11, 12, 13, 8
unfoldable pub form_of : Announcement → Result ⊤ Refusal
form_of a =
    cond (bad_numbers a) (Err AnnouncementForm)
    (cond (nat_lt 4096 a.total.0) (Err TooLong)
    (cond (not (a.assurance == 0)) (Err Assurance)
    (cond (not (pgn_ok a.pgn)) (Err PgnForm)
    (Ok tt))))

-- the last segment of the first grant; a BAM has none
abbrev pub first_granted : Announcement → ℕ
first_granted a = cond (is_rts a.kind) (grant_of a.max a.segments.0) 0

-- of an announcement the assurance type is not kept: there is none
abbrev pub announced_by : Key → Announcement → Announced
announced_by k a =
    record { key = k; kind = a.kind; total = a.total; segments = a.segments; max = a.max; pgn = a.pgn }

-- none taken, and marked with the last reading; an RTS is answered by CTS, a BAM is not. A BAM waits for segment 1; an RTS has a record in
-- place of that, all are missing, and none was asked for
abbrev pub session_of : Key → Announcement → ℕ → Session
session_of k a last =
    record {
      announced = announced_by k a;
      progress = record {
        next = record { 0 = cond (is_rts a.kind) 0 1 };
        taken = none_in;
        missing = cond (is_rts a.kind) a.segments.0 0;
        requests = 0;
        granted = record { 0 = first_granted a };
        mark = last;
        wait = wait_after (is_rts a.kind);
      };
    }

-- the CTS that answers an RTS: from segment 1
abbrev pub first_cts : Key → Announcement → Cts
first_cts k a =
    record { key = k; next = record { 0 = 1 }; count = grant_of a.max a.segments.0; pgn = a.pgn }
