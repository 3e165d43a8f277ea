-- The numbers of every decision have their place in four bytes, where those of the session have: what is opened or moved, and what is
-- answered. Nothing here but the definitions needs to be believed.
use Rattle.std.specs.Prelude.{◌≡◌, ℕ, ◌+◌, ◌-◌, ◌^◌, ◌<◌, ◌≤◌, min, Bool, true, false, cond, not, ◌&&◌, ltb, ◌==◌, nat_eq, nat_lt, refl, None, Option, Some}
use Rattle.std.proofs.Common.{arith, ltb-true}
use mathlib.Mathlib.Data.Bool.Basic.{and_elim_left, and_elim_right}
use Rattle.segments.specs.declared.Segments.{Segments}
use Rattle.segments.specs.Model.{put_in, first_missing}
use Rattle.segments.specs.Laws.{put_fits, first_few}
use Rattle.frame.specs.declared.refusal.Refusal.TheVariants.{KeyNotOpen, FormatIndicator}
use Rattle.transport.specs.Kinds.{is_rts}
use Rattle.transport.specs.declared.eoms.Status.{Status}
use Rattle.transport.specs.declared.segment.Segment.{Segment}
use Rattle.answer.specs.declared.Answer.{Answer}
use Rattle.answer.specs.declared.Answer.TheVariants as answer
use Rattle.progress.specs.declared.Progress.{Progress}
use Rattle.progress.specs.Forward.{grant_of, cts_due, granted_by, advanced_by}
use Rattle.progress.specs.Requests.{asked_count}
use Rattle.progress.specs.Asked.{asked_to_lem}
use Rattle.session.specs.declared.Session.{Session}
use Rattle.session.specs.declared.Change.{Change}
use Rattle.session.specs.declared.Change.TheVariants.{Stays, Opens, Moves, Ends}
use Rattle.session.specs.declared.Step.{Step}
use Rattle.session.specs.declared.segment.Judged.{Judged}
use Rattle.session.specs.declared.segment.Judged.TheVariants as judged
use Rattle.session.specs.Segments.{judged_of, next_cts}
use Rattle.session.specs.Cases.{by_status}
use Rattle.session.specs.Decisions.{stays, if_open, on_judged, segment_open, segment_to, asks, status_to, abort_to}

abbrev pub Small : ℕ → Type 0
Small n = n < 4294967296

-- the numbers of a record's bytes: of 64 bits, of 32, and bytes
pub record ProgressSmall (p : Progress) : Type 0 where
  pub next : Small p.next.0
  pub low : p.taken.low < 2 ^ 64
  pub high : p.taken.high < 2 ^ 8
  pub missing : Small p.missing
  pub requests : p.requests < 256
  pub granted : Small p.granted.0
  pub mark : Small p.mark

pub record SessionSmall (s : Session) : Type 0 where
  pub total : Small s.announced.total.0
  pub segments : Small s.announced.segments.0
  pub pgn : Small s.announced.pgn
  pub progress : ProgressSmall s.progress

abbrev pub StateSmall : Option Session → Type 0
StateSmall None = Unit {0}
StateSmall (Some s) = SessionSmall s

abbrev pub ChangeFits : Change Session Progress → Type 0
ChangeFits Stays = Unit {0}
ChangeFits (Opens s) = ProgressSmall s.progress
ChangeFits (Moves p) = ProgressSmall p
ChangeFits Ends = Unit {0}

abbrev pub AnswerFits : Answer → Type 0
AnswerFits (answer.Groups route) = Unit {0}
AnswerFits (answer.Opened k) = Unit {0}
AnswerFits (answer.Taken t) = Small t.number.0
AnswerFits (answer.Grant c) = Small c.next.0 × Small c.pgn
AnswerFits (answer.HandedOver x) = Small x.total.0 × (Small x.segments.0 × (Small x.pgn × (x.slot < 256)))
AnswerFits (answer.Aborted k) = Unit {0}
AnswerFits (answer.Ended e) = Small e.pgn
AnswerFits (answer.RefusedRts j) = Small j.pgn
AnswerFits (answer.Refused n) = Unit {0}

pub record StepFits (st : Step) : Type 0 where
  pub change : ChangeFits st.change
  pub answer : AnswerFits st.answer

pub small_if : (t : Bool) (a b : ℕ) → Small a → Small b → Small (cond t a b)
small_if true a b p q = p
small_if false a b p q = q

-- ---- a segment

-- where a CTS is due, segments are left
due_left : (s : Session) (n : ℕ) → cts_due s.progress s.announced n ≡ true → n < s.announced.segments.0
due_left s n e =
    let rts : Bool = is_rts s.announced.kind in
    let used : Bool = nat_eq n s.progress.granted.0 in
    let left : Bool = ltb n s.announced.segments.0 in
    ltb-true n s.announced.segments.0 (and_elim_right (rts && used) left (and_elim_left (rts && used && left) (s.progress.requests == 0) e))

-- a grant goes no further than the last segment
next_small : (s : Session) (n : ℕ) → SessionSmall s → Small (granted_by s.progress s.announced n)
unfolding grant_of
next_small s n h = go (cts_due s.progress s.announced n) refl
  where
    go : (t : Bool) → cts_due s.progress s.announced n ≡ t
        → cond t (n + min (min s.announced.max 16) (s.announced.segments.0 - n)) s.progress.granted.0 < 4294967296
    go true e =
        let l : n < s.announced.segments.0 = due_left s n e in
        let w : s.announced.segments.0 < 4294967296 = h.segments in
        omega arith
    go false e = h.progress.granted

taken_small : (t : Bool) (taken : Segments) (n : ℕ) → taken.low < 2 ^ 64 → taken.high < 2 ^ 8
    → ((cond t (put_in taken n) taken).low < 2 ^ 64) × ((cond t (put_in taken n) taken).high < 2 ^ 8)
taken_small true taken n low high = put_fits taken low high n
taken_small false taken n low high = (low, high)

advanced_small : (s : Session) (n last : ℕ) → SessionSmall s → n < 16777216 → Small last → ProgressSmall (advanced_by s.progress s.announced n last)
advanced_small s n last h few l =
    let p : Progress = s.progress in
    let rts : Bool = is_rts s.announced.kind in
    let t = taken_small rts p.taken n h.progress.low h.progress.high in
    let m : s.progress.missing < 4294967296 = h.progress.missing in
    record {
      next = small_if rts p.next.0 (n + 1) h.progress.next (omega arith);
      low = t.0;
      high = t.1;
      missing = small_if rts (p.missing - 1) p.missing (omega arith) m;
      requests = h.progress.requests;
      granted = next_small s n h;
      mark = l;
    }

judges : (s : Session) (n room last : ℕ) → SessionSmall s → n < 16777216 → Small last → StepFits (on_judged (judged_of s n room) s n last)
judges s n room last h few l = go (judged_of s n room)
  where
    -- a CTS is due only where segments are left
    grants : (t : Bool) → cts_due s.progress s.announced n ≡ t
        → AnswerFits (cond t (answer.Grant (next_cts s.announced n)) (answer.Taken (record { key = s.announced.key; number = record { 0 = n } })))
    grants true q = (omega arith, h.pgn)
    grants false q = omega arith

    go : (j : Judged) → StepFits (on_judged j s n last)
    go (judged.Refused x) = record { change = tt; answer = tt }
    go (judged.Ends x) = record { change = tt; answer = h.pgn }
    go judged.Takes = record { change = advanced_small s n last h few l; answer = grants (cts_due s.progress s.announced n) refl }

pub segment_fits : (x : Option Session) (sg : Segment) (last : ℕ) → StateSmall x → sg.number.0 < 16777216 → Small last → StepFits (segment_to x sg last)
unfolding segment_to
segment_fits x sg last h few l = go x h (not (sg.format == 0))
  where
    go : (x : Option Session) → StateSmall x → (t : Bool) → StepFits (cond t (stays (answer.Refused FormatIndicator)) (if_open x (λ s. segment_open s sg.number.0 sg.room last)))
    go x h true = record { change = tt; answer = tt }
    go None h false = record { change = tt; answer = tt }
    go (Some s) h false = judges s sg.number.0 sg.room last h few l

-- ---- the end

-- what is asked for lies in the message
asked_small : (s : Session) (last : ℕ) → SessionSmall s → nat_lt s.progress.requests 5 ≡ true → Small last → StepFits (asks s last)
asked_small s last h few l =
    let taken : Segments = s.progress.taken in
    let segments : ℕ = s.announced.segments.0 in
    let r : s.progress.requests < 5 = ltb-true s.progress.requests 5 few in
    let to : first_missing s.progress.taken s.announced.segments.0 - 1 + asked_count s.progress.taken s.announced.segments.0 s.announced.max ≤ s.announced.segments.0 =
    asked_to_lem taken segments s.announced.max in
    let top : first_missing s.progress.taken s.announced.segments.0 ≤ 70 = first_few taken segments in
    let w : s.announced.segments.0 < 4294967296 = h.segments in
    record {
      change = record {
        next = h.progress.next;
        low = h.progress.low;
        high = h.progress.high;
        missing = h.progress.missing;
        requests = omega arith;
        granted = omega arith;
        mark = l;
      };
      answer = (omega arith, h.pgn);
    }

pub status_fits : (x : Option Session) (slot : ℕ) (st : Status) (last : ℕ) → StateSmall x → slot < 256 → Small last → StepFits (status_to x slot st last)
unfolding status_to
status_fits None slot st last h u l = record { change = tt; answer = tt }
status_fits (Some s) slot st last h u l =
    by_status StepFits s slot st last (record { change = tt; answer = h.pgn }) (λ _ _. record { change = tt; answer = (h.total, (h.segments, (h.pgn, u))) })
    (λ _ _ few. asked_small s last h few l) (record { change = tt; answer = h.pgn })

pub abort_fits : (x : Option Session) (pgn : ℕ) → StepFits (abort_to x pgn)
unfolding abort_to
abort_fits None pgn = record { change = tt; answer = tt }
abort_fits (Some s) pgn = go (pgn == s.announced.pgn)
  where
    go : (t : Bool) → StepFits (cond t (record { change = Ends; answer = answer.Aborted s.announced.key }) (stays (answer.Refused KeyNotOpen)))
    go true = record { change = tt; answer = tt }
    go false = record { change = tt; answer = tt }
