-- Lines P8 to P12 of 01's table, as far as one session decides them.
use Rattle.std.specs.Prelude.{◌≡◌, ℕ, zero, suc, Bool, true, false, List, [], ◌∷◌, refl, Err, Ok}
use Rattle.segments.specs.Digits.{digit}
use Rattle.segments.specs.Model.{is_in}
use Rattle.frame.specs.declared.refusal.Refusal.TheVariants.{AnnouncementForm, TooLong}
use Rattle.transport.specs.declared.Key.{Key}
use Rattle.transport.specs.declared.Kind.TheVariants.{Rts}
use Rattle.transport.specs.declared.announcement.Announcement.{Announcement}
use Rattle.session.specs.declared.Session.{Session}
use Rattle.session.specs.declared.Change.{Change}
use Rattle.session.specs.declared.Change.TheVariants.{Stays, Opens, Moves, Ends}
use Rattle.session.specs.declared.Step.{Step}
use Rattle.answer.specs.declared.Answer.{Answer}
use Rattle.answer.specs.declared.Answer.TheVariants as answer
use Rattle.progress.specs.Forward.{grant_of}
use Rattle.progress.specs.Waits.{limit_in}
use Rattle.progress.specs.declared.wait.Wait.{Wait}
use Rattle.progress.specs.declared.wait.Wait.TheVariants.{First, Second}
use Rattle.progress.specs.declared.wait.IdleLimits.{IdleLimits}
use Rattle.session.specs.Announcements.{form_of, session_of, first_cts}
use Rattle.session.specs.Segments.{due_of, judged_of}
use Rattle.session.specs.Decisions.{segment_open}
use Rattle.session.specs.Ends.{elapsed, is_idle}
use Rattle.progress.specs.declared.Progress.{Progress}

-- an RTS of PGN 65226 with MAX SGMTS 255 and no assurance data
abbrev pub rts_of : ℕ → ℕ → Announcement
rts_of total segments =
    record {
      kind = Rts;
      total = record { 0 = total };
      segments = record { 0 = segments };
      max = 255;
      assurance = 0;
      pgn = 65226;
    }

pub P8-form : form_of (rts_of 61 2) ≡ Ok tt
unfolding form_of
P8-form = refl

pub P8 : (k : Key) → first_cts k (rts_of 61 2) ≡ record { key = k; next = record { 0 = 1 }; count = 2; pgn = 65226 }
unfolding grant_of
P8 k = refl

pub P9 : form_of (rts_of 61 1) ≡ Err AnnouncementForm
unfolding form_of
P9 = refl

-- the counts of the CTS that are sent while segments n on come, k of them, each in a frame of 64 bytes
abbrev counted : Answer → List ℕ → List ℕ
counted (answer.Grant c) l = c.count ∷ l
counted (answer.Groups route) l = l
counted (answer.Opened k) l = l
counted (answer.Taken t) l = l
counted (answer.HandedOver m) l = l
counted (answer.Aborted k) l = l
counted (answer.Ended e) l = l
counted (answer.RefusedRts j) l = l
counted (answer.Refused n) l = l

abbrev onward : Change Session Progress → Session → (Session → List ℕ) → List ℕ
onward (Moves p) s f = f (record { announced = s.announced; progress = p })
onward Stays s f = []
onward (Opens t) s f = []
onward Ends s f = []

unfoldable pub counts : ℕ → ℕ → Session → List ℕ
counts zero n s = []
counts (suc k) n s =
    let st : Step = segment_open s n 60 0 in
    counted st.answer (onward st.change s (counts k (suc n)))

pub P10-form : form_of (rts_of 4096 69) ≡ Ok tt
unfolding form_of
P10-form = refl

pub P10 : (k : Key) → (first_cts k (rts_of 4096 69)).count ∷ counts 69 1 (session_of k (rts_of 4096 69) 0) ≡ 16 ∷ 16 ∷ 16 ∷ 16 ∷ 5 ∷ []
unfolding counts judged_of is_in digit due_of grant_of
P10 k = refl

pub P11 : form_of (rts_of 4097 69) ≡ Err TooLong
unfolding form_of
P11 = refl

-- a wrong segment count is found before the length
pub count_first : form_of (rts_of 4097 68) ≡ Err AnnouncementForm
unfolding form_of
count_first = refl

-- the standard's two limits, 1,250 after a CTS and 750 between segments: each wait has its own
abbrev limits : IdleLimits
limits = record { first = 1250; second = 750 }

abbrev idle_in : Wait → ℕ → Bool
idle_in wait t = is_idle (limit_in limits wait) 4294967290 t

pub P12 : (idle_in First 1243 ≡ false) × ((idle_in First 1244 ≡ true) × ((idle_in Second 743 ≡ false) × (idle_in Second 744 ≡ true)))
unfolding elapsed
P12 = (refl, (refl, (refl, refl)))
