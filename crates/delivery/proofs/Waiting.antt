-- An RTS transfer between CTSs and in a grant, whatever was asked for again. It and Sending know the sender's rules; the rest sees
-- `waiting` and `busy` shut.
use Rattle.std.specs.Prelude.{None, Option, Some}
use Prim.Native.Nat.{ℕ, ◌+◌, ◌*◌, ◌-◌, ◌≤◌, ◌<◌}
use mathlib.Core.Path.{◌≡◌, refl, ap, ◌∙◌}
use mathlib.Core.Logic.{inl, inr}
use mathlib.Core.Bool.{Bool, true, false, cond, not, ◌&&◌, ◌||◌, or-false, or-true, and-false}
use mathlib.Core.List.{[], ◌∷◌}
use native.Mathlib.Omega.{arith}
use native.Mathlib.Decide.{dec_lt}
use lib.Dec.{eqb, leb}
use lib.ListN.{length}
use borrow.Author.Tests.{eq-eqb, ne_eqb, le-ltb, lt-ltb, le-leb, lt-leb}
use Rattle.transport.specs.declared.Kind.TheVariants.{Rts}
use Rattle.transport.specs.ReadBack.{read_of}
use Rattle.transfer.specs.declared.Course.{Course}
use Rattle.transfer.specs.declared.Transfer.{Transfer}
use Rattle.transfer.specs.declared.Reply.TheVariants as reply
use Rattle.session.specs.declared.Change.TheVariants.{Stays}
use Rattle.transfer.specs.declared.Step.{Step}
use Rattle.transfer.specs.Transfers.{transfer_of, announcement_of}
use Rattle.transfer.specs.Decisions.{after, moves, after_segment, ends, next_frame, cts_open, eoma_open, hears}
use Rattle.transfer.specs.Sends.{sends, segment_wire, status_wire}
use Rattle.isolation.specs.Standard.{Cause}
use Rattle.isolation.specs.Replies.{Wire, abort_frame, cts_frame, eoma_frame}
use Rattle.delivery.specs.Link.{Setting, key_in, queued, refusals, ends_well, answered, heard, offer}
use Rattle.delivery.specs.Arrival.{Fair}
use Rattle.delivery.specs.Losses.{to_send}
use Rattle.delivery.proofs.Wires.{few_segments, cts_wire, eoma_wire, abort_wire, on_cts, on_eoma, on_abort}
use Rattle.delivery.proofs.Expected.{count, Goes}
use Rattle.delivery.proofs.Sending.{Gives, by_answer, sends_next}
use Rattle.delivery.proofs.Requests.{Last}

-- ---- the transfer

-- requests have been made
pub again : ℕ → Bool
again r = not (eqb r 0)

-- nothing due after segment i; b: an EOMS has gone out
waiting_at : Setting → ℕ → ℕ → Bool → Transfer
waiting_at s mark i b = record {
  offer = offer s;
  course = record { next = record { 0 = i + 1 }; granted = record { 0 = i }; complete = b; reported = b; owed = false; mark = mark };
}

-- after r requests, i have gone out of a grant to g
course_at : Setting → ℕ → ℕ → ℕ → ℕ → Course
course_at s mark r i g = record {
  next = record { 0 = i + 1 };
  granted = record { 0 = g };
  complete = again r || eqb i (count s);
  reported = again r;
  owed = eqb i g && (again r || eqb i (count s));
  mark = mark;
}

busy_at : Setting → ℕ → ℕ → ℕ → ℕ → Transfer
busy_at s mark r i g = record { offer = offer s; course = course_at s mark r i g }

pub waiting : Setting → ℕ → ℕ → Bool → Option Transfer
waiting s mark i b = Some (waiting_at s mark i b)

pub busy : Setting → ℕ → ℕ → ℕ → ℕ → Option Transfer
busy s mark r i g = Some (busy_at s mark r i g)

pub announced_waits : (s : Setting) → Goes Rts s.key → (last : ℕ) → Some (transfer_of (offer s) last) ≡ waiting s last 0 (again 0)
unfolding waiting waiting_at again
announced_waits s goes last = rw goes

pub again_more : (r : ℕ) → again (r + 1) ≡ true
unfolding again
again_more r = rw (ne_eqb (r + 1) 0 (λ e. omega arith))

-- a grant that is used up and not the last one
pub busy_waits : (s : Setting) (mark r g : ℕ) → r ≡ 0 → g < count s → busy s mark r g g ≡ waiting s mark g (again r)
unfolding busy busy_at course_at waiting waiting_at again
busy_waits s mark r g z l = rw (z, ne_eqb g (count s) (λ e. omega arith), eq-eqb g g refl)

-- ---- what is due

pub waits : (s : Setting) (mark last i : ℕ) (b : Bool) → Gives s (waiting s mark i b) last [] (waiting s mark i b) false
unfolding answered waiting waiting_at next_frame
waits s mark last i b =
    by_answer s (waiting s mark i b) last (record { change = Stays; reply = reply.NothingDue }) (rw (lt-ltb i (i + 1) (omega arith)))

is_last : (s : Setting) (r g : ℕ) → Last s r g → (again r || eqb g (count s)) ≡ true
unfolding again
is_last s r g (inl l) = rw (ne_eqb r 0 (λ e. omega arith))
is_last s r g (inr e) = rw (eq-eqb g (count s) e) (or-true (not (eqb r 0)))

module _ (s : Setting) (mark last r i g : ℕ) where
  after_segment_lem : i < g → g ≤ count s → after_segment (busy_at s mark r i g) last ≡ course_at s last r (i + 1) g
  unfolding busy_at course_at
  after_segment_lem l u = rw (ne_eqb i (count s) (λ e. omega arith), or-false (again r))

  pub gives_next : i < g → g ≤ count s
      → Gives s (busy s mark r i g) last (segment_wire (key_in s) s.message (i + 1) ∷ []) (busy s last r (i + 1) g) false
  unfolding answered busy busy_at course_at
  gives_next l u =
      by_answer s (busy s mark r i g) last (moves (course_at s last r (i + 1) g) (reply.Segment (record { 0 = i + 1 })))
      (sends_next (busy_at s mark r i g) last (rw (ne_eqb i g (λ e. omega arith))) (le-ltb g (i + 1) (omega arith))
      ∙ ap (λ (c : Course). moves c (reply.Segment (record { 0 = i + 1 }))) (after_segment_lem l u))

  pub gives_last : Goes Rts s.key → i ≡ g → Last s r g
      → Gives s (busy s mark r i g) last (status_wire (offer s) ∷ []) (waiting s last g true) false
  unfolding answered busy busy_at course_at waiting waiting_at next_frame
  gives_last goes e h =
      by_answer s (busy s mark r i g) last (moves (waiting_at s last g true).course (reply.Status (offer s)))
      (rw (e, eq-eqb g g refl, is_last s r g h, goes))

-- ---- an answer: the transfer that it leaves, with nothing refused and nothing sent, and whether it has ended well

pub record Takes (s : Setting) (x : Option Transfer) (last : ℕ) (f : Wire) (y : Option Transfer) (w : Bool) : Type 0 where
  pub leaves : after x (heard s x last f).change ≡ y
  pub refuses : refusals (heard s x last f).reply ≡ []
  pub sends : queued (sends (key_in s) s.message (heard s x last f).reply) ≡ []
  pub ends : ends_well (heard s x last f) ≡ w

by_step : (s : Setting) (x : Option Transfer) (last : ℕ) (f : Wire) (r : Step) → heard s x last f ≡ r → refusals r.reply ≡ []
    → queued (sends (key_in s) s.message r.reply) ≡ [] → Takes s x last f (after x r.change) (ends_well r)
by_step s x last f r e h n = record {
  leaves = ap (λ (q : Step). after x q.change) e;
  refuses = ap (λ (q : Step). refusals q.reply) e ∙ h;
  sends = ap (λ (q : Step). queued (sends (key_in s) s.message q.reply)) e ∙ n;
  ends = ap ends_well e;
}

module _ (s : Setting) (fair : Fair s) (mark last i : ℕ) where
  grant_heard : (r a c : ℕ) → 1 ≤ c → a + c ≤ count s
      → hears (waiting s mark i (again r)) (read_of (cts_frame s.key (a + 1) c s.pgn)) last ≡ moves (course_at s last r a (a + c)) reply.Granted
  unfolding waiting waiting_at course_at hears cts_open
  grant_heard r a c l u =
      let same : a + 1 + c - 1 ≡ a + c = omega arith in
      rw (
        eq-eqb s.pgn s.pgn refl,
        and-false (again r),
        ne_eqb c 0 (λ e. omega arith),
        ne_eqb (a + 1) 0 (λ e. omega arith),
        le-ltb (count s + 1) (a + 1 + c) (omega arith),
        same,
        ne_eqb a (count s) (λ e. omega arith),
        ne_eqb a (a + c) (λ e. omega arith),
        or-false (again r),
      )

  -- segments a + 1 to a + c
  pub hears_grant : (r a c : ℕ) → 1 ≤ c → a + c ≤ count s
      → Takes s (waiting s mark i (again r)) last (cts_wire s (a + 1) c) (busy s last r a (a + c)) false
  unfolding waiting waiting_at busy busy_at
  hears_grant r a c l u =
      let few : count s ≤ 69 = few_segments s fair in
      by_step s (waiting s mark i (again r)) last (cts_wire s (a + 1) c) (moves (course_at s last r a (a + c)) reply.Granted)
      (on_cts s fair (waiting s mark i (again r)) last (a + 1) c (omega arith) ∙ grant_heard r a c l u) refl refl

  eoma_heard : hears (waiting s mark i true) (read_of (eoma_frame s.key (announcement_of (offer s)))) last ≡ ends (reply.Acknowledged (key_in s))
  unfolding waiting waiting_at hears eoma_open
  eoma_heard = rw (eq-eqb s.pgn s.pgn refl, eq-eqb (length s.message) (length s.message) refl, eq-eqb (count s) (count s) refl)

  pub hears_well : Takes s (waiting s mark i true) last (eoma_wire s) None true
  hears_well =
      by_step s (waiting s mark i true) last (eoma_wire s) (ends (reply.Acknowledged (key_in s)))
      (on_eoma s fair (waiting s mark i true) last ∙ eoma_heard) refl refl

  abort_heard : (b : Bool) (c : Cause) → hears (waiting s mark i b) (read_of (abort_frame s.key c s.pgn)) last ≡ ends (reply.Aborted (key_in s))
  unfolding waiting waiting_at hears
  abort_heard b c = rw (eq-eqb s.pgn s.pgn refl)

  pub hears_abort : (b : Bool) (c : Cause) → Takes s (waiting s mark i b) last (abort_wire s c) None false
  hears_abort b c =
      by_step s (waiting s mark i b) last (abort_wire s c) (ends (reply.Aborted (key_in s)))
      (on_abort s fair (waiting s mark i b) last c ∙ abort_heard b c) refl refl

-- ---- what has not gone out

pub send_none : (s : Setting) (mark i : ℕ) (b : Bool) → to_send (waiting s mark i b) ≡ 0
unfolding to_send waiting waiting_at
send_none s mark i b = rw (lt-leb (i + 1) i (omega arith)) (omega arith)

module _ (s : Setting) (mark r i g : ℕ) where
  pub send_rest : i < g → to_send (busy s mark r i g) ≡ 3 * (g - i) + 3
  unfolding to_send busy busy_at course_at
  send_rest l = rw (le-leb (i + 1) g (omega arith), ne_eqb i g (λ e. omega arith)) (omega arith)

  pub send_last : i ≡ g → Last s r g → to_send (busy s mark r i g) ≡ 3
  unfolding to_send busy busy_at course_at
  send_last e h = rw (e, lt-leb (g + 1) g (omega arith), eq-eqb g g refl, is_last s r g h) (omega arith)

  pub send_less : (later : ℕ) → i < g → to_send (busy s later r (i + 1) g) + 3 ≤ to_send (busy s mark r i g)
  unfolding to_send busy busy_at course_at
  send_less later l = rw (le-leb (i + 1) g (omega arith), ne_eqb i g (λ e. omega arith)) (go (dec_lt (i + 1) g))
    where
      one_at_most : (b : Bool) → cond b 3 0 ≤ 3
      one_at_most true = omega arith
      one_at_most false = omega arith

      go : Dec (i + 1 < g)
          → 3 * (g + 1 - (i + 1 + 1)) + cond (leb (i + 1 + 1) g) 3 0 + cond (eqb (i + 1) g && (again r || eqb (i + 1) (count s))) 3 0 + 3
          ≤ 3 * (g + 1 - (i + 1)) + 3 + 0
      go (yes n) = rw (le-leb (i + 1 + 1) g (omega arith), ne_eqb (i + 1) g (λ e. omega arith)) (omega arith)
      go (no n) =
          rw (lt-leb (i + 1 + 1) g (omega arith)) (let h = one_at_most (eqb (i + 1) g && (again r || eqb (i + 1) (count s))) in omega arith)
