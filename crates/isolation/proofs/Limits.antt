-- 23 exactly where 01 says: the record's bounds fact by fact, and the store's length.
use Rattle.std.specs.Prelude.{Err, None, Ok, Option, Some}
use Prim.Native.Nat.{ℕ, zero, suc, ◌+◌, ◌-◌, ◌/◌, ◌%◌, ◌^◌, ◌≤◌}
use mathlib.Core.Path.{◌≡◌, refl, sym, ap, ap₂, ◌∙◌, subst}
use mathlib.Core.Bool.{Bool, true, false, cond, not, ◌&&◌, false≢true}
use mathlib.Core.List.{List, [], ◌∷◌}
use native.Mathlib.Omega.{arith}
use lib.Dec.{eqb, leb}
use lib.ListN.{length, replicate}
use borrow.Author.Tests.{eqb-true, eqb-false, eq-eqb, ne_eqb, leb-true, le-leb, ltb-true, lt-ltb, not-true}
use Rattle.laws.specs.Choice.{each_of, all_of_lem}
use Rattle.segments.specs.declared.Segments.{Segments}
use Rattle.segments.specs.Digits.{digit}
use Rattle.segments.specs.Model.{value, missing_of}
use Rattle.segments.specs.Laws.{number_of_lem, in_digit, agreed, agree_of}
use Rattle.frame.specs.declared.Address.{Address}
use Rattle.frame.specs.declared.refusal.Refusal.TheVariants.{OutOfBounds}
use Rattle.transport.specs.Kinds.{is_rts}
use Rattle.transport.specs.declared.Key.{Key}
use Rattle.answer.specs.Answers.{answer_number}
use Rattle.progress.specs.declared.Progress.{Progress}
use Rattle.progress.specs.declared.wait.Wait.{Wait}
use Rattle.progress.specs.declared.wait.Wait.TheVariants.{First, Second}
use Rattle.progress.specs.Waits.{is_second}
use Rattle.session.specs.declared.Session.{Session}
use Rattle.session.specs.Bounds.{Gathered, session_ok, state_ok}
use Rattle.session.specs.InBounds.{Sound, sound_of, of_sound}
use Rattle.slots.specs.Bounds.{values_ok, slots_ok}
use Rattle.receiver.specs.declared.Receiver.{Receiver}
use Rattle.receiver.specs.Bounds.{in_bounds}
use Rattle.receiver.specs.Calls.{refused, is_ready, frame_all, frame_step, reading_step, stays}
use Rattle.isolation.specs.OwnFrames as F
use Rattle.isolation.specs.OwnFrames.{key_at}
use Rattle.isolation.specs.Limits.{absent, GatheredIn, SessionIn, RecordIn}
use Rattle.isolation.proofs.Tests.{clash, or-false, and_left, and_right, both}
use Rattle.isolation.proofs.Slots.{at, holds, holds_free, open_key, keys_same, key_number, key_of_lem, Small}
use Rattle.isolation.proofs.Same.{kind_same, sixties_same, pgn_same}
use Rattle.isolation.proofs.InBounds.{slots_true, true_all, true_unique}
use Rattle.isolation.proofs.Opening.{allowed, ok_of}
use Rattle.isolation.proofs.Refused.{never_23, reading_never_23}
use Rattle.isolation.proofs.Elapsed.{reading_refused}

-- ---- a session

second : (w : Wait) → is_second w ≡ true → w ≡ Second
second First e = absurd (false≢true e)
second Second e = refl

-- the count over the record
absent_same : (t : Segments) (c : ℕ) → c ≤ 69 → absent t c ≡ missing_of t c
unfolding absent missing_of digit
absent_same t zero u = refl
absent_same t (suc c) u =
    let z : suc c - 1 ≡ c = omega arith in
    ap₂ (λ (n : ℕ) (b : Bool). n + cond b 0 1) (absent_same t c (omega arith))
    (ap (λ (n : ℕ). eqb (value t / 2 ^ n % 2) 1) (sym z) ∙ sym (in_digit t (suc c) (number_of_lem (suc c) (omega arith) u)))

module _ (p : Progress) (segments : ℕ) (few : segments ≤ 69) where
  gathered_in : Gathered p.taken p.missing p.requests p.granted.0 segments → GatheredIn p segments
  gathered_in h =
      let g = agreed p.taken segments p.missing h.agree in
      record {
        past = ltb-true (value p.taken) (2 ^ segments) g.past;
        missing = sym g.missing ∙ sym (absent_same p.taken segments few);
        requests = h.few;
        granted_low = h.low;
        granted_high = h.high;
      }

  in_gathered : GatheredIn p segments → Gathered p.taken p.missing p.requests p.granted.0 segments
  in_gathered h = record {
    agree = agree_of p.taken segments p.missing few (lt-ltb (value p.taken) (2 ^ segments) h.past) (sym (absent_same p.taken segments few) ∙ sym h.missing);
    few = h.requests;
    low = h.granted_low;
    high = h.granted_high;
  }

module _ (own : Address) (s : Session) where
  tests : List Bool
  tests =
      leb s.announced.key.sa.0 253 ∷ not (eqb s.announced.key.sa.0 own.0)
      ∷ eqb s.announced.key.da.0 (cond (is_rts s.announced.kind) own.0 255) ∷ leb s.announced.key.session.0 15 ∷ []

  few : s.announced.total.0 ≤ 4096 → s.announced.segments.0 ≡ (s.announced.total.0 + 59) / 60 → s.announced.segments.0 ≤ 69
  few t c = omega arith

  session_in : session_ok own s ≡ true → SessionIn own s
  unfolding tests
  session_in e =
      let h : Sound own s = sound_of own s e in
      let t = each_of tests h.key in
      record {
        some_byte = h.agreed.some;
        at_most = h.agreed.fits;
        count = h.agreed.count ∙ sym (sixties_same s.announced.total.0);
        pgn = pgn_same s.announced.pgn ∙ h.agreed.form;
        max = λ r. h.agreed.grants (sym (kind_same s.announced.kind) ∙ r);
        sa = leb-true s.announced.key.sa.0 253 t.0;
        sa_other = eqb-false s.announced.key.sa.0 own.0 (not-true (eqb s.announced.key.sa.0 own.0) t.1.0);
        da = rw (kind_same s.announced.kind) (eqb-true s.announced.key.da.0 (cond (is_rts s.announced.kind) own.0 255) t.1.1.0);
        session = leb-true s.announced.key.session.0 15 t.1.1.1.0;
        gathered = λ r. gathered_in s.progress s.announced.segments.0 (few h.agreed.fits h.agreed.count) (h.reached.gathered (sym (kind_same s.announced.kind) ∙ r));
        next_low = λ r. (h.reached.sequence (sym (kind_same s.announced.kind) ∙ r)).low;
        next_high = λ r. (h.reached.sequence (sym (kind_same s.announced.kind) ∙ r)).high;
        wait = λ r. second s.progress.wait (h.reached.sequence (sym (kind_same s.announced.kind) ∙ r)).second;
      }

  in_session : SessionIn own s → session_ok own s ≡ true
  unfolding tests
  in_session h =
      of_sound own s (record {
        agreed = record {
          some = h.some_byte;
          fits = h.at_most;
          count = h.count ∙ sixties_same s.announced.total.0;
          form = sym (pgn_same s.announced.pgn) ∙ h.pgn;
          grants = λ r. h.max (kind_same s.announced.kind ∙ r);
        };
        key = all_of_lem tests (
          le-leb s.announced.key.sa.0 253 h.sa,
          (
            ap not (ne_eqb s.announced.key.sa.0 own.0 h.sa_other),
            (
              eq-eqb s.announced.key.da.0 (cond (is_rts s.announced.kind) own.0 255) (h.da ∙ ap (λ (t : Bool). cond t own.0 255) (kind_same s.announced.kind)),
              (le-leb s.announced.key.session.0 15 h.session, tt),
            ),
          ),
        );
        reached = record {
          gathered = λ r. in_gathered s.progress s.announced.segments.0 (few h.at_most (h.count ∙ sixties_same s.announced.total.0)) (h.gathered (kind_same s.announced.kind ∙ r));
          sequence = λ r.
              let q : F.is_rts s.announced.kind ≡ false = kind_same s.announced.kind ∙ r in
              record { low = h.next_low q; high = h.next_high q; second = ap is_second (h.wait q) };
        };
      })

  -- its key is one of those that a frame can have
  key_small : own.0 ≤ 253 → SessionIn own s → Small s.announced.key
  key_small o h =
      let a : s.announced.key.da.0 ≤ 255 = rw h.da (either (F.is_rts s.announced.kind)) in
      let b : s.announced.key.session.0 ≤ 15 = h.session in
      record { da = omega arith; session = omega arith }
    where
      either : (t : Bool) → cond t own.0 255 ≤ 255
      either true = omega arith
      either false = omega arith

-- ---- a record

state_of : (own : Address) (x : Option Session) → state_ok own x ≡ true → (s : Session) → x ≡ Some s → session_ok own s ≡ true
state_of own x e s y = subst (λ (z : Option Session). state_ok own z ≡ true) y e

of_state : (own : Address) (x : Option Session) → ((s : Session) → x ≡ Some s → session_ok own s ≡ true) → state_ok own x ≡ true
of_state own None f = refl
of_state own (Some s) f = f s refl

-- a state that holds a key is open with it
held_by : (k : ℕ) (x : Option Session) → holds k x ≡ true → (s : Session) × (x ≡ Some s) × (s.announced.key ≡ key_at k)
held_by k None e = absurd (clash (holds k None) e (holds_free k))
held_by k (Some s) e = (s, refl, open_key k s e)

holds_own : (x : Option Session) (s : Session) → x ≡ Some s → Small s.announced.key → (t : Session) → s.announced.key ≡ t.announced.key → holds (key_number t.announced.key) x ≡ true
unfolding holds
holds_own x s e small t k =
    rw e (keys_same s.announced.key (key_at (key_number t.announced.key)) (sym (ap (λ (κ : Key). key_at (key_number κ)) (sym k) ∙ key_of_lem s.announced.key small)))

-- A record is in bounds exactly where all of 01's facts hold.
pub in_bounds_exactly : (r : Receiver) → (in_bounds r ≡ true → RecordIn r) × (RecordIn r → in_bounds r ≡ true)
unfolding in_bounds
in_bounds_exactly r = (into, out)
  where
    into : (values_ok r.own r.limits && slots_ok r.own r.slots) ≡ true → RecordIn r
    into e =
        let a = allowed r.own r.limits (and_left (values_ok r.own r.limits) (slots_ok r.own r.slots) e) in
        let ok = and_right (values_ok r.own r.limits) (slots_ok r.own r.slots) e in
        let one : (i : ℕ) (s : Session) → at r.slots i ≡ Some s
        → SessionIn r.own s = λ i s y. session_in r.own s (state_of r.own (at r.slots i) (true_all r.own r.slots ok i) s y) in
        record {
          own = a.own_address;
          first_low = a.first_low;
          first_high = a.first_high;
          second_low = a.second_low;
          second_high = a.second_high;
          sessions = one;
          apart = λ i j s t y z k. true_unique r.own r.slots ok i j (key_number t.announced.key)
              (holds_own (at r.slots i) s y (key_small r.own s a.own_address (one i s y)) t k)
              (holds_own (at r.slots j) t z (key_small r.own t a.own_address (one j t z)) t refl);
        }

    out : RecordIn r → (values_ok r.own r.limits && slots_ok r.own r.slots) ≡ true
    out h =
        both (values_ok r.own r.limits) (slots_ok r.own r.slots) (ok_of r.own r.limits (record {
          own_address = h.own;
          first_low = h.first_low;
          first_high = h.first_high;
          second_low = h.second_low;
          second_high = h.second_high;
        }))
        (slots_true r.own h.own r.slots
        (λ i j k e f.
        let p = held_by k (at r.slots i) e in
        let q = held_by k (at r.slots j) f in
        h.apart i j p.0 q.0 p.1 q.1 (p.2 ∙ sym q.2))
        (λ i. of_state r.own (at r.slots i) (λ s y. in_session r.own s (h.sessions i s y))))

-- ---- calls

-- the record in bounds, and a store of 32,768 bytes
abbrev pub Ready : Receiver → List ℕ → Type 0
Ready r m = RecordIn r × (length m ≡ 32768)

not_ready : (r : Receiver) (m : List ℕ) → (Ready r m → ⊥) → is_ready r m ≡ false
not_ready r m n =
    or-false (is_ready r m) (λ e. n ((in_bounds_exactly r).0 (and_right (eqb (length m) 32768) (in_bounds r) e), eqb-true (length m) 32768 (and_left (eqb (length m) 32768) (in_bounds r) e)))

-- A frame is answered 23 exactly where not, and then nothing changes.
pub frame_23_exactly : (r : Receiver) (id : ℕ) (d m : List ℕ)
    → ((Ready r m → ⊥) → frame_all r id d m ≡ (refused r OutOfBounds, m)) × (Ready r m → answer_number (frame_step r id d m).answer ≡ 23 → ⊥)
unfolding frame_all
frame_23_exactly r id d m = (
  (λ n. rw (not_ready r m n)),
  (λ h. never_23 r id d m ((in_bounds_exactly r).1 h.0) h.1),
)

-- The same of a reading.
pub reading_23_exactly : (r : Receiver) (t : ℕ) (m : List ℕ)
    → ((Ready r m → ⊥) → reading_step r t m ≡ record { next = r; answer = Err OutOfBounds; ends = replicate 8 stays })
    × (Ready r m → (reading_step r t m).answer ≡ (Ok tt))
reading_23_exactly r t m = (
  (λ n. reading_refused r t m (not_ready r m n)),
  (λ h. reading_never_23 r t m ((in_bounds_exactly r).1 h.0) h.1),
)
