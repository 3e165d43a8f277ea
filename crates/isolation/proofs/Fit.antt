-- How a call of the receiver and the rules of one key keep step: first as one session decides, then with its change applied to its slot.
use Rattle.std.specs.Prelude.{None, Option, Some, ℕ}
use Prim.Native.Nat.{ℕ, ◌≤◌, ◌<◌}
use mathlib.Core.Path.{◌≡◌, refl, sym}
use mathlib.Core.Logic.{◌⊎◌, inl, inr}
use mathlib.Core.Bool.{Bool, true, false, cond, not}
use mathlib.Core.List.{List}
use native.Mathlib.Omega.{arith}
use Rattle.segments.specs.declared.Segments.{Segments}
use Rattle.transport.specs.declared.response.Response.{Response}
use Rattle.answer.specs.declared.Answer.{Answer}
use Rattle.answer.specs.Answers.{wire_of}
use Rattle.session.specs.declared.Session.{Session}
use Rattle.session.specs.declared.Change.{Change}
use Rattle.session.specs.declared.Change.TheVariants as change
use Rattle.session.specs.declared.Step.{Step}
use Rattle.session.specs.Segments.{already_in}
use Rattle.session.specs.Bounds.{session_ok}
use Rattle.session.specs.Decisions.{after}
use Rattle.slots.specs.Slots.{state_in}
use Rattle.receiver.specs.declared.Receiver.{Receiver}
use Rattle.receiver.specs.Calls.{Outcome, with_slot, apply}
use Rattle.isolation.specs.OwnFrames.{key_at}
use Rattle.isolation.specs.Replies.{Reply, sent}
use Rattle.isolation.specs.Rules.{Values, Open, Out, is_taken}
use Rattle.isolation.specs.Observe.{reply_of, touches}
use Rattle.isolation.proofs.Slots.{Slots, at, holds}
use Rattle.isolation.proofs.Bytes.{part, Within}
use Rattle.isolation.proofs.Gathered.{Gathered}
use Rattle.progress.specs.declared.Progress.{Progress}

-- what a session keeps of the data taken: a BAM the next segment, an RTS a record and the number missing. The other kind's may be anything
pub record Kept : Type 0 where
  pub next : ℕ
  pub taken : Segments
  pub missing : ℕ

-- the record of a session of which the rules have ρ
abbrev pub record_of : ℕ → Open → Kept → Session
record_of k ρ x =
    record {
      announced = record {
        key = key_at k;
        kind = ρ.told.kind;
        total = ρ.told.total;
        segments = ρ.told.segments;
        max = ρ.told.max;
        pgn = ρ.told.pgn;
      };
      progress = record {
        next = record { 0 = x.next };
        taken = x.taken;
        missing = x.missing;
        requests = ρ.requests;
        granted = record { 0 = ρ.granted };
        mark = ρ.mark;
        wait = ρ.wait;
      };
    }

-- what is kept and the slot's bytes say what the rules have
pub record Rel (v : Values) (k : ℕ) (p : List ℕ) (ρ : Open) (x : Kept) : Type 0 where
  -- the data taken are segments of the message, none twice, each as the slot has it
  pub pieces : Gathered ρ.told.total.0 ρ.told.segments.0 p ρ.pieces
  -- and those that the session knows as taken
  pub same : (n : ℕ) → 1 ≤ n → is_taken n ρ.pieces ≡ already_in (record_of k ρ x) n
  pub plain : ρ.told.assurance ≡ 0
  pub fine : session_ok v.own (record_of k ρ x) ≡ true

-- a slot's state and bytes, and the rules' session of key k
abbrev pub Ses : Values → ℕ → Option Session → List ℕ → Option Open → Type 0
Ses v k None p None = Unit {0}
Ses v k None p (Some ρ) = ⊥
Ses v k (Some s) p None = ⊥
Ses v k (Some s) p (Some ρ) = (x : Kept) × (s ≡ record_of k ρ x) × Rel v k p ρ x

-- slot i is the key's or free, and no other slot is the key's
abbrev pub Place : Slots → ℕ → ℕ → Type 0
Place l i k = (j n : ℕ) → holds n (at l j) ≡ true → (j ≡ i → n ≡ k) × (n ≡ k → j ≡ i)

-- the call changes one slot, its own
pub record Moves (v : Values) (r : Receiver) (m : List ℕ) (k : ℕ) (o : Outcome) (y : Option Open) : Type 0 where
  pub slot : ℕ
  pub low : slot < 8
  pub place : Place r.slots slot k
  pub state : Option Session
  pub next : o.0.next ≡ with_slot r slot state
  pub ses : Ses v k state (part slot o.1) y
  pub store : Within slot m o.1

-- the call changes nothing
pub record Stays (r : Receiver) (m : List ℕ) (x : Option Open) (o : Outcome) (y : Option Open) : Type 0 where
  pub next : o.0.next ≡ r
  pub store : o.1 ≡ m
  pub ses : y ≡ x

pub record Fit (v : Values) (r : Receiver) (m : List ℕ) (k : ℕ) (x : Option Open) (o : Outcome) (q : Out) : Type 0 where
  pub reply : reply_of o.0.answer o.1 ≡ q.1
  pub only : (j : ℕ) → (k ≡ j → ⊥) → touches j o.0.answer ≡ false
  pub change : Stays r m x o q.0 ⊎ Moves v r m k o q.0

-- ---- one session decides as its rules do

-- a change of the session in the slot that was found: its state and its bytes are the rules' again
pub record InSlot (v : Values) (k : ℕ) (f : Option ℕ) (m : List ℕ) (y : Option Session) (c : Change Session Progress) (m' : List ℕ) (z : Option Open) : Type 0 where
  pub slot : ℕ
  pub found : f ≡ Some slot
  pub ses : Ses v k (after y c) (part slot m') z
  pub store : Within slot m m'

abbrev pub Changed : Values → ℕ → Option ℕ → List ℕ → Option Open → Option Session → Change Session Progress → List ℕ → Option Open → Type 0
Changed v k f m x y change.Stays m' z = (z ≡ x) × (m' ≡ m)
Changed v k f m x y (change.Opens s) m' z = InSlot v k f m y (change.Opens s) m' z
Changed v k f m x y (change.Moves p) m' z = InSlot v k f m y (change.Moves p) m' z
Changed v k f m x y change.Ends m' z = InSlot v k f m y change.Ends m' z

-- f: the slot for the key; m: the store; x, y: what the rules and the slot have; m': the store after the step
pub record Tied (v : Values) (k : ℕ) (f : Option ℕ) (m : List ℕ) (x : Option Open) (y : Option Session) (st : Step) (m' : List ℕ) (q : Out) : Type 0 where
  pub reply : reply_of st.answer m' ≡ q.1
  pub only : (j : ℕ) → (k ≡ j → ⊥) → touches j st.answer ≡ false
  pub changed : Changed v k f m x y st.change m' q.0

-- ---- the change applied to the slot

module _ (v : Values) (r : Receiver) (m : List ℕ) (k : ℕ) (x : Option Open) (a : Answer) (m' : List ℕ) (q : Out) where
  moves : (i : ℕ) → i < 8 → Place r.slots i k → (s : Option Session) (reply : reply_of a m' ≡ q.1) (only : (j : ℕ) → (k ≡ j → ⊥) → touches j a ≡ false)
      → Ses v k s (part i m') q.0 → Within i m m' → Fit v r m k x (record { next = with_slot r i s; answer = a }, m') q
  moves i low place s reply only ses store = record {
    reply = reply;
    only = only;
    change = inr (record { slot = i; low = low; place = place; state = s; next = refl; ses = ses; store = store });
  }

  no_slot : (i : ℕ) → None ≡ Some i → ⊥
  no_slot i e = let z : ◌≡◌ {A = ℕ} 0 1 = cc in omega arith

  same_slot : (i j : ℕ) → Some i ≡ Some j → i ≡ j
  same_slot i j e = cc

  in_place : (i : ℕ) → ((j : ℕ) → Some i ≡ Some j → (j < 8) × Place r.slots j k) → (c : Change Session Progress) → reply_of a m' ≡ q.1 → ((j : ℕ) → (k ≡ j → ⊥) → touches j a ≡ false)
      → InSlot v k (Some i) m (at r.slots i) c m' q.0
      → Fit v r m k x (record { next = with_slot r i (after (at r.slots i) c); answer = a }, m') q
  in_place i low c reply only h =
      let e : h.slot ≡ i = sym (same_slot i h.slot h.found) in
      moves i (low i refl).0 (low i refl).1 (after (at r.slots i) c) reply only (rw e at h.ses) (rw e at h.store)

  pub applies : (f : Option ℕ) → ((i : ℕ) → f ≡ Some i → (i < 8) × Place r.slots i k) → (c : Change Session Progress)
      → Tied v k f m x (state_in f r.slots) (record { change = c; answer = a }) m' q
      → Fit v r m k x (apply r f (record { change = c; answer = a }), m') q
  applies None low change.Stays t = record { reply = t.reply; only = t.only; change = inl (record { next = refl; store = t.changed.1; ses = t.changed.0 }) }
  applies (Some i) low change.Stays t = record { reply = t.reply; only = t.only; change = inl (record { next = refl; store = t.changed.1; ses = t.changed.0 }) }
  applies None low (change.Opens s) t = absurd (no_slot t.changed.slot t.changed.found)
  applies None low (change.Moves p) t = absurd (no_slot t.changed.slot t.changed.found)
  applies None low change.Ends t = absurd (no_slot t.changed.slot t.changed.found)
  applies (Some i) low (change.Opens s) t = in_place i low (change.Opens s) t.reply t.only t.changed
  applies (Some i) low (change.Moves p) t = in_place i low (change.Moves p) t.reply t.only t.changed
  applies (Some i) low change.Ends t = in_place i low change.Ends t.reply t.only t.changed

-- ---- both sides make one test

pub walk : {A B : Type 0} (P : A → B → Type 0) {a b : A} {q q' : B} (t t' : Bool) → t' ≡ t → (t ≡ true → P a q) → (t ≡ false → P b q')
    → P (cond t a b) (cond t' q q')
walk P true t' e f g = rw e (f refl)
walk P false t' e f g = rw e (g refl)

-- the one side tests for what the other tests against
pub walk_not : {A B : Type 0} (P : A → B → Type 0) {a b : A} {q q' : B} (t t' : Bool) → t' ≡ not t → (t ≡ true → P a q) → (t ≡ false → P b q')
    → P (cond t a b) (cond t' q' q)
walk_not P true t' e f g = rw e (f refl)
walk_not P false t' e f g = rw e (g refl)

-- ---- answers by a test

pub reply_cond : (m : List ℕ) (a b : Answer) (t t' : Bool) (p q : Reply) → t' ≡ t → reply_of a m ≡ p → reply_of b m ≡ q → reply_of (cond t a b) m ≡ cond t' p q
reply_cond m a b true t' p q e f g = rw e f
reply_cond m a b false t' p q e f g = rw e g

pub quiet_cond : (j : ℕ) (t : Bool) (a b : Answer) → touches j a ≡ false → touches j b ≡ false → touches j (cond t a b) ≡ false
quiet_cond j true a b e f = e
quiet_cond j false a b e f = f

pub wire_cond : (t t' : Bool) (f : Response) → t' ≡ t → wire_of (cond t (Some f) None) ≡ cond t' (sent f) None
unfolding sent
wire_cond true t' f e = rw e
wire_cond false t' f e = rw e
