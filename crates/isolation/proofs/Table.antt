-- P8 to P12 of document 01's table, on the definitions of the calls.
use Rattle.std.specs.Prelude.{Ok, Some}
use Prim.Native.Nat.{ℕ, zero, suc, ◌+◌}
use mathlib.Core.Path.{◌≡◌, refl}
use mathlib.Core.List.{List, [], ◌∷◌, ◌++◌}
use lib.ListN.{replicate}
use Rattle.frame.specs.declared.refusal.Refusal.TheVariants.{AnnouncementForm, TooLong, Silence}
use Rattle.frame.specs.Judge.{judged, by_format}
use Rattle.transport.specs.declared.Key.{Key}
use Rattle.transport.specs.declared.Kind.TheVariants.{Rts}
use Rattle.transport.specs.Control.{control_of}
use Rattle.transport.specs.Segments.{data_frame_of}
use Rattle.progress.specs.Forward.{grant_of}
use Rattle.segments.specs.Digits.{digit}
use Rattle.segments.specs.Model.{is_in, none_in, missing_of}
use Rattle.progress.specs.declared.wait.Wait.{Wait}
use Rattle.progress.specs.declared.wait.Wait.TheVariants.{First, Second}
use Rattle.progress.specs.declared.wait.IdleLimits.{IdleLimits}
use Rattle.session.specs.Announcements.{form_of}
use Rattle.session.specs.Decisions.{announced_to, segment_to, ending_of}
use Rattle.session.specs.Segments.{due_of, judged_of}
use Rattle.session.specs.Ends.{elapsed}
use Rattle.session.specs.declared.Session.{Session}
use Rattle.receiver.specs.declared.Receiver.{Receiver}
use Rattle.answer.specs.declared.Answer.{Answer}
use Rattle.answer.specs.declared.Answer.TheVariants.{Groups, Opened, Taken, Grant, HandedOver, Aborted, Ended, RefusedRts, Refused}
use Rattle.slots.specs.Slots.{free_slot}
use Rattle.slots.specs.Bounds.{slots_ok}
use Rattle.receiver.specs.Bounds.{in_bounds, opened}
use Rattle.receiver.specs.Calls.{Outcome, announce_step, control_step, segment_step, frame_all, reading_step, stays}
use Rattle.answer.specs.Answers.{answer_number}

-- own address 33, both limits 1,250, reading 0; the RTS are session 3's, from SA 128, for PGN 65226
pub r : Receiver
r = (opened (record { 0 = 33 }) (record { first = 1250; second = 1250 }) 0).receiver

pub m : List ℕ
m = replicate 32768 0

pub key : Key
key = record { sa = record { 0 = 128 }; da = record { 0 = 33 }; session = record { 0 = 3 } }

-- Total Bytes, segments: MAX 255, no assurance
pub rts : ℕ → ℕ → ℕ → List ℕ
rts low high segments = 0x30 ∷ low ∷ high ∷ 0 ∷ segments ∷ 0 ∷ 0 ∷ 255 ∷ 0 ∷ 0xCA ∷ 0xFE ∷ 0 ∷ []

pub to_rts : List ℕ → Answer
to_rts d = (frame_all r 0x1C4D2180 d m).0.answer

-- ---- the grants of a whole message

pub count_of : Answer → List ℕ
count_of (Groups route) = []
count_of (Opened k) = []
count_of (Taken t) = []
count_of (Grant c) = c.count ∷ []
count_of (HandedOver x) = []
count_of (Aborted k) = []
count_of (Ended e) = []
count_of (RefusedRts j) = []
count_of (Refused n) = []

-- segment n, of 60 bytes
pub dt : ℕ → List ℕ
dt n = 0x30 ∷ n ∷ 0 ∷ 0 ∷ replicate 60 n

-- the counts of the CTS that are sent while c segments come in, from segment n on
pub grants : ℕ → ℕ → Receiver → List ℕ → List ℕ
grants zero n r m = []
grants (suc c) n r m =
    let o : Outcome = frame_all r 0x1C4E2180 (dt n) m in
    let rest : List ℕ = grants c (n + 1) o.0.next o.1 in
    count_of o.0.answer ++ rest

pub all_grants : List ℕ → List ℕ
all_grants d =
    let o : Outcome = frame_all r 0x1C4D2180 d m in
    count_of o.0.answer ++ grants 69 1 o.0.next o.1

-- ---- a clock that runs round: mark 4,294,967,290, in either wait, with the standard's limit for each

pub session : Wait → Session
session wait =
    record {
      announced = record {
        key = key;
        kind = Rts;
        total = record { 0 = 61 };
        segments = record { 0 = 2 };
        max = 255;
        pgn = 65226;
      };
      progress = record { next = record { 0 = 0 }; taken = none_in; missing = 2; requests = 0; granted = record { 0 = 2 }; mark = 4294967290; wait = wait };
    }

pub limits : IdleLimits
limits = record { first = 1250; second = 750 }

pub held : Wait → Receiver
held wait =
    record {
      own = record { 0 = 33 };
      limits = limits;
      last = 4294967290;
      slots = Some (session wait) ∷ replicate 7 free_slot;
    }

abbrev pub StaysAt : Wait → ℕ → Type 0
StaysAt wait t =
    reading_step (held wait) t m
    ≡ record {
      next = record { own = record { 0 = 33 }; limits = limits; last = t; slots = (held wait).slots };
      answer = (Ok tt);
      ends = replicate 8 stays;
    }

-- with 22
abbrev pub EndsAt : Wait → ℕ → Type 0
EndsAt wait t =
    reading_step (held wait) t m
    ≡ record {
      next = record { own = record { 0 = 33 }; limits = limits; last = t; slots = replicate 8 free_slot };
      answer = (Ok tt);
      ends = Some (ending_of (session wait) Silence) ∷ replicate 7 stays;
    }

-- ---- the rows, as one statement

pub record Rows : Type 0 where
  -- 61 bytes, 2 segments: CTS 1, 2
  pub p8 : to_rts (rts 61 0 2) ≡ Grant (record { key = key; next = record { 0 = 1 }; count = 2; pgn = 65226 })
  -- 61 bytes, 1 segment: 11
  pub p9 : to_rts (rts 61 0 1) ≡ RefusedRts (record { key = key; refusal = AnnouncementForm; pgn = 65226 })
  pub p9_number : answer_number (to_rts (rts 61 0 1)) ≡ 11
  -- 4,096 bytes, 69 segments: grants 16, 16, 16, 16, 5
  pub p10 : all_grants (rts 0 16 69) ≡ 16 ∷ 16 ∷ 16 ∷ 16 ∷ 5 ∷ []
  -- 4,097 bytes, 69 segments: 12
  pub p11 : to_rts (rts 1 16 69) ≡ RefusedRts (record { key = key; refusal = TooLong; pgn = 65226 })
  pub p11_number : answer_number (to_rts (rts 1 16 69)) ≡ 12
  -- the first wait: reading 1,243 stays, 1,244 ends; the second: 743 stays, 744 ends
  pub p12_first_stays : StaysAt First 1243
  pub p12_first_ends : EndsAt First 1244
  pub p12_second_stays : StaysAt Second 743
  pub p12_second_ends : EndsAt Second 744

pub rows : Rows
unfolding r m key rts to_rts opened in_bounds slots_ok frame_all judged by_format control_step control_of announce_step form_of announced_to
    grant_of all_grants grants count_of dt data_frame_of segment_step segment_to judged_of is_in missing_of digit due_of session limits held reading_step elapsed
rows =
    record {
      p8 = refl;
      p9 = refl;
      p9_number = refl;
      p10 = refl;
      p11 = refl;
      p11_number = refl;
      p12_first_stays = refl;
      p12_first_ends = refl;
      p12_second_stays = refl;
      p12_second_ends = refl;
    }
