-- What the sender gives, and does with the answers expected. It and Waiting know its rules; the rest sees `transfer_at` shut.
use Rattle.std.specs.Prelude.{None, Option, Some}
use Prim.Native.Nat.{ℕ, ◌+◌, ◌-◌, ◌*◌, ◌≤◌, ◌<◌}
use mathlib.Core.Path.{◌≡◌, refl, sym, ap, ◌∙◌}
use mathlib.Core.Bool.{Bool, true, false, cond, not, ◌&&◌}
use mathlib.Core.List.{List, [], ◌∷◌}
use native.Mathlib.Omega.{arith}
use native.Mathlib.Decide.{ℕ_discrete, dec_lt}
use lib.Dec.{eqb, leb, ltb}
use lib.ListN.{length}
use borrow.Author.Tests.{eq-eqb, ne_eqb, le-ltb, lt-ltb, le-leb, lt-leb}
use Rattle.laws.specs.Choice.{else}
use Rattle.transport.specs.declared.Kind.{Kind}
use Rattle.transport.specs.declared.Kind.TheVariants.{Rts, Bam}
use Rattle.transport.specs.ReadBack.{read_of}
use Rattle.transfer.specs.declared.Course.{Course}
use Rattle.transfer.specs.declared.Transfer.{Transfer}
use Rattle.transfer.specs.declared.Reply.{Reply}
use Rattle.transfer.specs.declared.Reply.TheVariants as reply
use Rattle.session.specs.declared.Change.TheVariants.{Stays}
use Rattle.transfer.specs.declared.Step.{Step}
use Rattle.transfer.specs.Transfers.{transfer_of, announcement_of}
use Rattle.transfer.specs.Decisions.{after, moves, after_segment, ends, next_frame, cts_open, eoma_open, hears}
use Rattle.transfer.specs.Sends.{sends, segment_wire, status_wire}
use Rattle.isolation.specs.Replies.{Wire, cts_frame, eoma_frame}
use Rattle.delivery.specs.Link.{Setting, key_in, queued, refusals, ends_well, answered, frames_due, heard, unless_ended, kept_at, offer}
use Rattle.delivery.specs.Arrival.{Fair, Unended, unsent, NothingIsDue}
use Rattle.delivery.specs.Losses.{to_send}
use Rattle.delivery.proofs.Wires.{few_segments, cts_wire, eoma_wire, on_cts, on_eoma}
use Rattle.delivery.proofs.Expected.{count, Goes, some_segments}

-- ---- the transfer with segments 1 to i gone out, granted to g; e: the EOMS has gone out

course_at : Setting → ℕ → ℕ → ℕ → Bool → Course
course_at s mark i g e =
    record {
      next = record { 0 = i + 1 };
      granted = record { 0 = g };
      complete = eqb i (count s);
      reported = e;
      owed = eqb i (count s) && not e;
      mark = mark;
    }

open_at : Setting → ℕ → ℕ → ℕ → Bool → Transfer
open_at s mark i g e = record { offer = offer s; course = course_at s mark i g e }

-- a broadcast has ended with its EOMS
pub transfer_at : Kind → Setting → ℕ → ℕ → ℕ → Bool → Option Transfer
transfer_at Rts s mark i g e = Some (open_at s mark i g e)
transfer_at Bam s mark i g false = Some (open_at s mark i g false)
transfer_at Bam s mark i g true = None

abbrev pub first_grant : Kind → Setting → ℕ
first_grant Rts s = 0
first_grant Bam s = count s

pub announced_at_lem : (κ : Kind) (s : Setting) → Fair s → Goes κ s.key → (last : ℕ) → Some (transfer_of (offer s) last) ≡ transfer_at κ s last 0 (first_grant κ s) false
unfolding transfer_at open_at course_at
announced_at_lem Rts s fair e last = let l : 1 ≤ count s = some_segments s fair in rw (e, ne_eqb 0 (count s) (λ z. omega arith))
announced_at_lem Bam s fair e last = let l : 1 ≤ count s = some_segments s fair in rw (e, ne_eqb 0 (count s) (λ z. omega arith))

-- ---- an ask: the frames given, the transfer that it leaves, and whether it has ended well

pub record Gives (s : Setting) (x : Option Transfer) (last : ℕ) (fs : List Wire) (y : Option Transfer) (w : Bool) : Type 0 where
  pub frames : frames_due s x last ≡ fs
  pub leaves : after x (answered x last).change ≡ y
  pub ends : ends_well (answered x last) ≡ w

pub by_answer : (s : Setting) (x : Option Transfer) (last : ℕ) (r : Step) → answered x last ≡ r
    → Gives s x last (queued (sends (key_in s) s.message r.reply)) (after x r.change) (ends_well r)
by_answer s x last r e = record {
  frames = ap (λ (q : Step). queued (sends (key_in s) s.message q.reply)) e;
  leaves = ap (λ (q : Step). after x q.change) e;
  ends = ap ends_well e;
}

-- a broadcast ends well with its EOMS
abbrev pub is_bam : Kind → Bool
is_bam Rts = false
is_bam Bam = true

abbrev pub ended_at : Kind → Bool → Bool
ended_at κ e = e && is_bam κ

pub sends_next : (t : Transfer) (last : ℕ) → t.course.owed ≡ false → ltb t.course.granted.0 t.course.next.0 ≡ false
    → next_frame t last ≡ moves (after_segment t last) (reply.Segment t.course.next)
unfolding next_frame
sends_next t last o l = sym (else t.course.owed _ _ _ o (else (ltb t.course.granted.0 t.course.next.0) _ _ _ l refl))

module _ (s : Setting) (mark last i g : ℕ) where
  -- EOMS is owed after the last segment, and that one spends the grant
  after_segment_lem : i < g → g ≤ count s → after_segment (open_at s mark i g false) last ≡ course_at s last (i + 1) g false
  unfolding open_at course_at
  after_segment_lem l u = rw (ne_eqb i (count s) (λ e. omega arith)) (go (ℕ_discrete (i + 1) (count s)))
    where
      none_owed : (t : Bool) → (t && false) ≡ false
      none_owed true = refl
      none_owed false = refl

      owes : Bool → Bool → Course
      owes complete owed = record { next = record { 0 = i + 1 + 1 }; granted = record { 0 = g }; complete = complete; reported = false; owed = owed; mark = last }

      go : Dec (i + 1 ≡ count s) → owes (eqb (i + 1) (count s)) (eqb (i + 1) g && eqb (i + 1) (count s)) ≡ owes (eqb (i + 1) (count s)) (eqb (i + 1) (count s) && true)
      go (yes e) = rw (eq-eqb (i + 1) (count s) e, eq-eqb (i + 1) g (omega arith))
      go (no e) = rw (ne_eqb (i + 1) (count s) e, none_owed (eqb (i + 1) g))

  answers_segment : i < g → g ≤ count s
      → next_frame (open_at s mark i g false) last ≡ moves (course_at s last (i + 1) g false) (reply.Segment (record { 0 = i + 1 }))
  unfolding open_at course_at
  answers_segment l u =
      sends_next (open_at s mark i g false) last (rw (ne_eqb i (count s) (λ e. omega arith))) (le-ltb g (i + 1) (omega arith))
      ∙ ap (λ (c : Course). moves c (reply.Segment (record { 0 = i + 1 }))) (after_segment_lem l u)

  pub gives_segment : (κ : Kind) → i < g → g ≤ count s
      → Gives s (transfer_at κ s mark i g false) last (segment_wire (key_in s) s.message (i + 1) ∷ []) (transfer_at κ s last (i + 1) g false) false
  unfolding answered transfer_at open_at
  gives_segment Rts l u = by_answer s (transfer_at Rts s mark i g false) last _ (answers_segment l u)
  gives_segment Bam l u = by_answer s (transfer_at Bam s mark i g false) last _ (answers_segment l u)

  pub gives_eoms : (κ : Kind) → Goes κ s.key → i ≡ count s
      → Gives s (transfer_at κ s mark i g false) last (status_wire (offer s) ∷ []) (transfer_at κ s last i g true) (ended_at κ true)
  unfolding answered transfer_at open_at course_at next_frame
  gives_eoms Rts e h = by_answer s (transfer_at Rts s mark i g false) last (moves (course_at s last i g true) (reply.Status (offer s))) (rw (eq-eqb i (count s) h, e))
  gives_eoms Bam e h = by_answer s (transfer_at Bam s mark i g false) last (ends (reply.Status (offer s))) (rw (eq-eqb i (count s) h, e))

  abbrev GivesNone : Kind → Bool → Type 0
  GivesNone κ e = Gives s (transfer_at κ s mark i g e) last [] (transfer_at κ s mark i g e) false

  -- a grant used up before the last segment: the next CTS is waited for
  pub waits : (κ : Kind) → i ≡ g → i < count s → GivesNone κ false
  unfolding answered transfer_at open_at course_at next_frame
  waits Rts e l =
      by_answer s (transfer_at Rts s mark i g false) last (record { change = Stays; reply = reply.NothingDue })
      (rw (ne_eqb i (count s) (λ e. omega arith), lt-ltb g (i + 1) (omega arith)))
  waits Bam e l =
      by_answer s (transfer_at Bam s mark i g false) last (record { change = Stays; reply = reply.NothingDue })
      (rw (ne_eqb i (count s) (λ e. omega arith), lt-ltb g (i + 1) (omega arith)))

  -- the EOMS has gone out: nothing more
  pub no_more : (κ : Kind) → i ≡ count s → g ≤ count s → GivesNone κ true
  unfolding answered transfer_at open_at course_at next_frame
  no_more Rts e u =
      by_answer s (transfer_at Rts s mark i g true) last (record { change = Stays; reply = reply.NothingDue })
      (rw (eq-eqb i (count s) e, lt-ltb g (i + 1) (omega arith)))
  no_more Bam e u = by_answer s None last _ refl

-- i segments have gone out, within the grant; the EOMS goes out after the last
pub record Sent (s : Setting) (i g : ℕ) (e : Bool) : Type 0 where
  pub within : i ≤ g
  pub bound : g ≤ count s
  pub complete : e ≡ true → i ≡ count s

-- the next segment, the EOMS, or nothing
pub data Due (κ : Kind) (s : Setting) (mark last i g : ℕ) : Bool → Type 0 where
  next : i < g
      → Gives s (transfer_at κ s mark i g false) last (segment_wire (key_in s) s.message (i + 1) ∷ []) (transfer_at κ s last (i + 1) g false) false
      → Due κ s mark last i g false
  final : i ≡ count s
      → Gives s (transfer_at κ s mark i g false) last (status_wire (offer s) ∷ []) (transfer_at κ s last i g true) (ended_at κ true)
      → Due κ s mark last i g false
  nothing : {e : Bool} → Gives s (transfer_at κ s mark i g e) last [] (transfer_at κ s mark i g e) false → Due κ s mark last i g e

pub what_is_due : (κ : Kind) (s : Setting) → Goes κ s.key → (mark last i g : ℕ) (e : Bool) → Sent s i g e → Due κ s mark last i g e
what_is_due κ s k mark last i g true st = nothing (no_more s mark last i g κ (st.complete refl) st.bound)
what_is_due κ s k mark last i g false st = go (dec_lt i g) (ℕ_discrete i (count s)) st.within st.bound
  where
    go : Dec (i < g) → Dec (i ≡ count s) → i ≤ g → g ≤ count s → Due κ s mark last i g false
    go (yes l) d w b = next l (gives_segment s mark last i g κ l b)
    go (no l) (yes e) w b = final e (gives_eoms s mark last i g κ k e)
    go (no l) (no e) w b = nothing (waits s mark last i g κ (omega arith) (omega arith))

pub ended_gives_none : (s : Setting) (last : ℕ) → Gives s None last [] None false
unfolding answered
ended_gives_none s last = by_answer s None last _ refl

-- nothing due, no frame
pub none_given : (s : Setting) (x : Option Transfer) (last : ℕ) → NothingIsDue x last → frames_due s x last ≡ []
unfolding answered
none_given s None last e = refl
none_given s (Some t) last e = ap (λ (r : Reply). queued (sends (key_in s) s.message r)) e

-- ---- an answer: the transfer that it leaves, with nothing refused, and whether it has ended well

pub record Hears (s : Setting) (x : Option Transfer) (last : ℕ) (f : Wire) (y : Option Transfer) (w : Bool) : Type 0 where
  pub leaves : after x (heard s x last f).change ≡ y
  pub refuses : refusals (heard s x last f).reply ≡ []
  pub ends : ends_well (heard s x last f) ≡ w

by_step : (s : Setting) (x : Option Transfer) (last : ℕ) (f : Wire) (r : Step) → heard s x last f ≡ r → refusals r.reply ≡ [] → Hears s x last f (after x r.change) (ends_well r)
by_step s x last f r e h = record {
  leaves = ap (λ (q : Step). after x q.change) e;
  refuses = ap (λ (q : Step). refusals q.reply) e ∙ h;
  ends = ap ends_well e;
}

module _ (s : Setting) (fair : Fair s) (mark last i g : ℕ) where
  cts_heard : (c : ℕ) → 1 ≤ c → i + c ≤ count s
      → hears (transfer_at Rts s mark i g false) (read_of (cts_frame s.key (i + 1) c s.pgn)) last ≡ moves (course_at s last i (i + c) false) reply.Granted
  unfolding transfer_at open_at course_at hears cts_open
  cts_heard c l u =
      let same : i + 1 + c - 1 ≡ i + c = omega arith in
      rw (
        eq-eqb s.pgn s.pgn refl,
        ne_eqb i (count s) (λ e. omega arith),
        ne_eqb c 0 (λ e. omega arith),
        ne_eqb (i + 1) 0 (λ e. omega arith),
        le-ltb (count s + 1) (i + 1 + c) (omega arith),
        same,
      )

  pub hears_cts : (c : ℕ) → 1 ≤ c → i + c ≤ count s
      → Hears s (transfer_at Rts s mark i g false) last (cts_wire s (i + 1) c) (transfer_at Rts s last i (i + c) false) false
  unfolding transfer_at open_at
  hears_cts c l u =
      let few : count s ≤ 69 = few_segments s fair in
      by_step s (transfer_at Rts s mark i g false) last (cts_wire s (i + 1) c) (moves (course_at s last i (i + c) false) reply.Granted)
      (on_cts s fair (transfer_at Rts s mark i g false) last (i + 1) c (omega arith) ∙ cts_heard c l u) refl

  eoma_heard : hears (transfer_at Rts s mark i g true) (read_of (eoma_frame s.key (announcement_of (offer s)))) last ≡ ends (reply.Acknowledged (key_in s))
  unfolding transfer_at open_at course_at hears eoma_open
  eoma_heard = rw (eq-eqb s.pgn s.pgn refl, eq-eqb (length s.message) (length s.message) refl, eq-eqb (count s) (count s) refl)

  pub hears_eoma : Hears s (transfer_at Rts s mark i g true) last (eoma_wire s) None true
  hears_eoma =
      by_step s (transfer_at Rts s mark i g true) last (eoma_wire s) (ends (reply.Acknowledged (key_in s)))
      (on_eoma s fair (transfer_at Rts s mark i g true) last ∙ eoma_heard) refl

-- a broadcast has ended with its EOMS
pub broadcast_ended : (s : Setting) (mark i g : ℕ) → transfer_at Bam s mark i g true ≡ None
unfolding transfer_at
broadcast_ended s mark i g = refl

-- ---- a calm reading

pub kept : (limit t : ℕ) (x : Option Transfer) → Unended limit t x → kept_at limit t x ≡ x
unfolding kept_at
kept limit t None u = refl
kept limit t (Some x) u = ap (unless_ended (Some x)) u

-- ---- what has not gone out

pub unsent_at : (κ : Kind) (s : Setting) (mark i g : ℕ) (e : Bool) → (e ≡ true → i ≡ count s) → unsent (transfer_at κ s mark i g e) ≡ (count s - i) + cond e 0 1
unfolding unsent transfer_at open_at course_at
unsent_at Rts s mark i g e h = let z : count s + 1 - (i + 1) ≡ count s - i = omega arith in rw z
unsent_at Bam s mark i g false h = omega arith
unsent_at Bam s mark i g true h = let z : i ≡ count s = h refl in omega arith

-- as Losses weighs it

pub send_ended : to_send None ≡ 0
unfolding to_send
send_ended = refl

pub send_broadcast : (s : Setting) (mark i : ℕ) → i ≤ count s → to_send (transfer_at Bam s mark i (count s) false) ≡ 3 * (count s - i) + 3
unfolding to_send transfer_at open_at course_at
send_broadcast s mark i l = go (ℕ_discrete i (count s))
  where
    go : Dec (i ≡ count s) → 3 * (count s + 1 - (i + 1)) + cond (leb (i + 1) (count s)) 3 0 + cond (eqb i (count s) && true) 3 0 ≡ 3 * (count s - i) + 3
    go (yes e) = rw (lt-leb (i + 1) (count s) (omega arith), eq-eqb i (count s) e) (omega arith)
    go (no e) = rw (le-leb (i + 1) (count s) (omega arith), ne_eqb i (count s) e) (omega arith)
