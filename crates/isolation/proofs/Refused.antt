-- What a refusal changes: 01, "Numbered refusals".
use Rattle.std.specs.Prelude.{Err, None, Ok, Option, Some, ℕ, is_some, Result, ⊤}
use Prim.Native.Nat.{ℕ, zero, suc}
use mathlib.Core.Path.{◌≡◌, refl, sym, ap, ◌∙◌, subst}
use mathlib.Core.Logic.{◌⊎◌, inl, inr}
use mathlib.Core.Bool.{and-false, Bool, true, false, cond}
use mathlib.Core.List.{List, map}
use native.Mathlib.Omega.{arith}
use lib.Dec.{eqb}
use lib.ListN.{length, get_or, replicate, get_or-map}
use borrow.Author.Tests.{eq-eqb}
use Rattle.progress.specs.declared.wait.IdleLimits.{IdleLimits}
use Rattle.frame.specs.Refusals.{number_of}
use Rattle.frame.specs.declared.Address.{Address}
use Rattle.frame.specs.Judge.{judged as judged-frame}
use Rattle.frame.specs.declared.refusal.Refusal.{Refusal}
use Rattle.frame.specs.declared.refusal.Refusal.TheVariants.{OutOfBounds, Silence}
use Rattle.transport.specs.declared.Key.{Key}
use Rattle.answer.specs.declared.Answer.TheVariants as answer
use Rattle.answer.specs.Answers.{answer_number}
use Rattle.session.specs.declared.Session.{Session}
use Rattle.session.specs.declared.Change.TheVariants.{Stays, Ends}
use Rattle.session.specs.declared.Step.{Step}
use Rattle.session.specs.Decisions.{ending_of, is_silent}
use Rattle.session.specs.Effects as S
use Rattle.session.proofs.Effects.{announce_effect}
use Rattle.session.specs.Effects.{mild}
use Rattle.slots.specs.Slots.{key_place, first_free, slot_for, state_in, or_else, free_slot, is_free, on_found}
use Rattle.slots.specs.Bounds.{values_ok}
use Rattle.receiver.specs.declared.Receiver.{Receiver}
use Rattle.receiver.specs.Bounds.{in_bounds, opened}
use Rattle.receiver.specs.Calls.{Outcome, Elapsed, answered, refused, with_slot, apply, slot_of, is_ready, on_verdict, frame_all, frame_step, frame_store, after_end, expired, end_of, reading_kept, reading_step, stays}
use Rattle.isolation.specs.OwnFrames.{key_at, frame_key, Body, announce, segment, status, abort, body_of}
use Rattle.slots.specs.Searches.{lowest_some}
use Rattle.isolation.proofs.Slots.{at}
use Rattle.isolation.proofs.Single.{body_step}
use Rattle.isolation.proofs.Read.{Takes, frame_agrees}
use Rattle.isolation.proofs.Tests.{clash, both}
use Rattle.answer.specs.declared.Ending.{Ending}

-- the session of key κ ends with 19 or 21; no other slot and no byte changes
pub record EndsOne (r : Receiver) (m : List ℕ) (κ : Key) (o : Outcome) : Type 0 where
  pub slot : ℕ
  pub session : Session
  pub refusal : Refusal
  pub number : (number_of refusal ≡ 19) ⊎ (number_of refusal ≡ 21)
  pub found : key_place κ r.slots ≡ Some slot
  pub state : at r.slots slot ≡ Some session
  pub does : o ≡ (answered (with_slot r slot None) (answer.Ended (ending_of session refusal)), m)

-- a call refuses nothing, or changes nothing, or ends the one session; 23 only where the record or the buffer is out of bounds
pub data Effect (r : Receiver) (m : List ℕ) (κ : Key) (o : Outcome) : Type 0 where
  accepts : answer_number o.0.answer ≡ 0 → Effect r m κ o
  changes_nothing : o.0.next ≡ r → o.1 ≡ m → mild (answer_number o.0.answer) ≡ true → Effect r m κ o
  ends_one : EndsOne r m κ o → Effect r m κ o
  out_of_bounds : is_ready r m ≡ false → o ≡ (refused r OutOfBounds, m) → Effect r m κ o

module _ (r : Receiver) (m : List ℕ) (κ : Key) where
  -- a step of the session in the slot for the key, applied to it
  step_effect : (f : Option ℕ) (st : Step) (m' : List ℕ) → slot_for κ r.slots ≡ f → S.Effect (state_in f r.slots) st
      → (st.change ≡ Stays → m' ≡ m) → (st.change ≡ Ends → m' ≡ m) → Effect r m κ (apply r f st, m')
  step_effect f st m' e (S.accepts n) a b = accepts n
  step_effect f st m' e (S.keeps c n) a b = changes_nothing (rw c (untouched f)) (a c) n
    where
      untouched : (f : Option ℕ) → on_found f (λ i. r) r ≡ r
      untouched (Some i) = refl
      untouched None = refl
  step_effect None st m' e (S.ends s n x l d) a b = absurd (clash (is_free None) refl (ap is_free x))
  step_effect (Some i) st m' e (S.ends s n x l d) a b = ends_one (record {
    slot = i;
    session = s;
    refusal = n;
    number = l;
    found = held i s e x;
    state = x;
    does = rw (d, b (rw d));
  })
    where
      -- the slot for the key is open, so it is the one that has the key
      held : (i : ℕ) (s : Session) → slot_for κ r.slots ≡ Some i → at r.slots i ≡ Some s → key_place κ r.slots ≡ Some i
      held i s e x = go (key_place κ r.slots) e
        where
          go : (g : Option ℕ) → or_else g (first_free r.slots) ≡ Some i → g ≡ Some i
          go (Some j) h = h
          go None h = absurd (clash (is_free (at r.slots i)) (ap is_free (lowest_some r.slots i h).0) (ap is_free x))

  body_effect : (b : Body) (d : List ℕ) → Effect r m κ (body_step r κ b d m)
  body_effect b d = go b
    where
      go : (b : Body) → Effect r m κ (body_step r κ b d m)
      go (announce a) =
          step_effect (slot_for κ r.slots) _ m refl (announce_effect (state_in (slot_for κ r.slots) r.slots) (is_some (slot_for κ r.slots)) κ a r.last) (λ _. refl) (λ _. refl)
      go (segment format n x) =
          step_effect (slot_for κ r.slots) _ _ refl (S.segment_effect (state_in (slot_for κ r.slots) r.slots) (record { format = format; number = record { 0 = n }; room = length x }) r.last)
          (λ c. rw c) (λ c. rw c)
      go (status st) =
          step_effect (slot_for κ r.slots) _ m refl (S.status_effect (state_in (slot_for κ r.slots) r.slots) (slot_of (slot_for κ r.slots)) st r.last) (λ _. refl) (λ _. refl)
      go (abort pgn) = step_effect (slot_for κ r.slots) _ m refl (S.abort_effect (state_in (slot_for κ r.slots) r.slots) pgn) (λ _. refl) (λ _. refl)

-- ---- any frame, on any record and any buffer

pub frame_effect : (r : Receiver) (id : ℕ) (d m : List ℕ) → Effect r m (key_at (frame_key id d)) (frame_all r id d m)
unfolding frame_all
frame_effect r id d m = go (is_ready r m) refl
  where
    read : (b : Option Body) → Takes r d m (key_at (frame_key id d)) (on_verdict (judged-frame r.own id (length d)) r d m) b
        → Effect r m (key_at (frame_key id d)) (on_verdict (judged-frame r.own id (length d)) r d m)
    read None f =
        changes_nothing (ap (λ (o : Outcome). o.0.next) f.same) (ap (λ (o : Outcome). o.1) f.same) (ap (λ (o : Outcome). mild (answer_number o.0.answer)) f.same ∙ f.mildly)
    read (Some b) t = subst (λ (o : Outcome). Effect r m (key_at (frame_key id d)) o) (sym t.0) (body_effect r m (key_at (frame_key id d)) b d)

    go : (t : Bool) → is_ready r m ≡ t → Effect r m (key_at (frame_key id d)) (cond t (on_verdict (judged-frame r.own id (length d)) r d m) (refused r OutOfBounds, m))
    go true e = read (body_of r.own id d) (frame_agrees r id d m).does
    go false e = out_of_bounds e refl

-- No refusal changes the store.
pub refusal_writes_nothing : (r : Receiver) (id : ℕ) (d m : List ℕ) → (answer_number (frame_step r id d m).answer ≡ 0 → ⊥) → frame_store r id d m ≡ m
refusal_writes_nothing r id d m n = go (frame_effect r id d m)
  where
    go : Effect r m (key_at (frame_key id d)) (frame_all r id d m) → frame_store r id d m ≡ m
    go (accepts e) = absurd (n e)
    go (changes_nothing e f g) = f
    go (ends_one e) = ap (λ (o : Outcome). o.1) e.does
    go (out_of_bounds e f) = ap (λ (o : Outcome). o.1) f

-- A refusal other than 19 and 21 changes nothing of the record (22 comes at readings).
pub refusal_keeps_record : (r : Receiver) (id : ℕ) (d m : List ℕ) → (answer_number (frame_step r id d m).answer ≡ 0 → ⊥)
    → (answer_number (frame_step r id d m).answer ≡ 19 → ⊥) → (answer_number (frame_step r id d m).answer ≡ 21 → ⊥) → (frame_step r id d m).next ≡ r
refusal_keeps_record r id d m n a b = go (frame_effect r id d m)
  where
    number_is : (e : EndsOne r m (key_at (frame_key id d)) (frame_all r id d m)) → answer_number (frame_step r id d m).answer ≡ number_of e.refusal
    number_is e = ap (λ (o : Outcome). answer_number o.0.answer) e.does

    which : (e : EndsOne r m (key_at (frame_key id d)) (frame_all r id d m)) → (number_of e.refusal ≡ 19) ⊎ (number_of e.refusal ≡ 21) → ⊥
    which e (inl z) = a (number_is e ∙ z)
    which e (inr z) = b (number_is e ∙ z)

    go : Effect r m (key_at (frame_key id d)) (frame_all r id d m) → (frame_step r id d m).next ≡ r
    go (accepts e) = absurd (n e)
    go (changes_nothing e f g) = e
    go (ends_one e) = absurd (which e e.number)
    go (out_of_bounds e f) = ap (λ (o : Outcome). o.0.next) f

-- 19 and 21 end the session of the frame's key, and change no other slot and no byte.
pub refusal_ends_one : (r : Receiver) (id : ℕ) (d m : List ℕ) → (answer_number (frame_step r id d m).answer ≡ 19) ⊎ (answer_number (frame_step r id d m).answer ≡ 21)
    → EndsOne r m (key_at (frame_key id d)) (frame_all r id d m)
refusal_ends_one r id d m n = go (frame_effect r id d m) n
  where
    no_mild : (x : ℕ) → mild x ≡ true → (x ≡ 19) ⊎ (x ≡ 21) → ⊥
    no_mild x e (inl z) = clash (mild x) e (rw z)
    no_mild x e (inr z) = clash (mild x) e (rw z)

    zero_no : (x : ℕ) → x ≡ 0 → (x ≡ 19) ⊎ (x ≡ 21) → ⊥
    zero_no x e (inl z) = omega arith
    zero_no x e (inr z) = omega arith

    bounds_no : (x : ℕ) → x ≡ 23 → (x ≡ 19) ⊎ (x ≡ 21) → ⊥
    bounds_no x e (inl z) = omega arith
    bounds_no x e (inr z) = omega arith

    go : Effect r m (key_at (frame_key id d)) (frame_all r id d m) → (answer_number (frame_step r id d m).answer ≡ 19) ⊎ (answer_number (frame_step r id d m).answer ≡ 21)
        → EndsOne r m (key_at (frame_key id d)) (frame_all r id d m)
    go (accepts e) h = absurd (zero_no (answer_number (frame_step r id d m).answer) e h)
    go (changes_nothing e f g) h = absurd (no_mild (answer_number (frame_step r id d m).answer) g h)
    go (ends_one e) h = e
    go (out_of_bounds e f) h = absurd (bounds_no (answer_number (frame_step r id d m).answer) (ap (λ (o : Outcome). answer_number o.0.answer) f) h)

-- A record in bounds with the store is never refused with 23.
pub never_23 : (r : Receiver) (id : ℕ) (d m : List ℕ) → in_bounds r ≡ true → length m ≡ 32768 → answer_number (frame_step r id d m).answer ≡ 23 → ⊥
never_23 r id d m b whole n = go (frame_effect r id d m)
  where
    ready : is_ready r m ≡ true
    ready = both (eqb (length m) 32768) (in_bounds r) (eq-eqb (length m) 32768 whole) b

    which : (k : ℕ) → (k ≡ 19) ⊎ (k ≡ 21) → k ≡ 23 → ⊥
    which k (inl e) f = omega arith
    which k (inr e) f = omega arith

    go : Effect r m (key_at (frame_key id d)) (frame_all r id d m) → ⊥
    go (accepts e) = let z : ◌≡◌ {A = ℕ} 0 23 = sym e ∙ n in omega arith
    go (changes_nothing e f g) = clash (mild (answer_number (frame_step r id d m).answer)) g (rw n)
    go (ends_one e) = which (number_of e.refusal) e.number (sym (ap (λ (o : Outcome). answer_number o.0.answer) e.does) ∙ n)
    go (out_of_bounds e f) = clash (is_ready r m) ready e

pub reading_never_23 : (r : Receiver) (t : ℕ) (m : List ℕ) → in_bounds r ≡ true → length m ≡ 32768 → (reading_step r t m).answer ≡ Ok tt
unfolding reading_step
reading_never_23 r t m b whole = rw (eq-eqb (length m) 32768 whole, b)

-- ---- a reading: each slot stays as it is, or its session ends with 22

abbrev end_at : Elapsed → ℕ → Option Ending
end_at e i = (get_or e.ends i stays)

pub data SlotEffect (x : Option Session) (e : Option Ending) (y : Option Session) : Type 0 where
  stays_open : e ≡ None → y ≡ x → SlotEffect x e y
  ends_22 : (s : Session) → x ≡ Some s → e ≡ Some (ending_of s Silence) → y ≡ None → SlotEffect x e y

slot_effect : (limits : IdleLimits) (t : ℕ) (x : Option Session) → SlotEffect x (end_of limits t x) (expired limits t x)
slot_effect limits t None = stays_open refl refl
slot_effect limits t (Some s) = go (is_silent limits t s)
  where
    go : (b : Bool) → let e : Option Ending = cond b (Some (ending_of s Silence)) None in SlotEffect (Some s) e (after_end e (Some s))
    go true = ends_22 s refl refl refl
    go false = stays_open refl refl

no_ends : (n i : ℕ) → (get_or (replicate n stays) i stays) ≡ None
no_ends zero i = refl
no_ends (suc n) zero = refl
no_ends (suc n) (suc i) = no_ends n i

pub reading_effect : (r : Receiver) (t : ℕ) (m : List ℕ) (i : ℕ) → SlotEffect (at r.slots i) (end_at (reading_step r t m) i) (at (reading_step r t m).next.slots i)
unfolding reading_step
reading_effect r t m i = go (is_ready r m)
  where
    go : (b : Bool) → let e : Elapsed = cond b (reading_kept r t) (record { next = r; answer = Err OutOfBounds; ends = replicate 8 stays }) in
        SlotEffect (at r.slots i) (end_at e i) (at e.next.slots i)
    go true =
        let a : at (map (expired r.limits t) r.slots) i ≡ expired r.limits t (at r.slots i) =
        (get_or-map (expired r.limits t) r.slots i free_slot) in
        let b : (get_or (map (end_of r.limits t) r.slots) i stays) ≡ end_of r.limits t (at r.slots i) =
        (get_or-map (end_of r.limits t) r.slots i free_slot) in
        rw (a, b) (slot_effect r.limits t (at r.slots i))
    go false = stays_open (no_ends 8 i) refl

-- ---- a refused opening

-- It gives a record on which every frame and every reading is refused with 23, and nothing changes.
refused_bounds : (own : Address) (limits : IdleLimits) (first : ℕ) → ((opened own limits first).answer ≡ Ok tt → ⊥) → in_bounds (opened own limits first).receiver ≡ false
unfolding opened in_bounds
refused_bounds own limits first h = rw (go (values_ok own limits) h)
  where
    go : (t : Bool) → (◌≡◌ {A = Result ⊤ Refusal} (cond t (Ok tt) (Err OutOfBounds)) (Ok tt) → ⊥) → t ≡ false
    go true h = absurd (h refl)
    go false h = refl

pub refused_opening_frame : (own : Address) (limits : IdleLimits) (first : ℕ) → ((opened own limits first).answer ≡ Ok tt → ⊥) → (id : ℕ) (d m : List ℕ)
    → let r : Receiver = (opened own limits first).receiver in frame_all r id d m ≡ (refused r OutOfBounds, m)
unfolding frame_all
refused_opening_frame own limits first h id d m = rw (refused_bounds own limits first h, and-false (eqb (length m) 32768))

pub refused_opening_reading : (own : Address) (limits : IdleLimits) (first : ℕ) → ((opened own limits first).answer ≡ Ok tt → ⊥) → (t : ℕ) (m : List ℕ)
    → let r : Receiver = (opened own limits first).receiver in reading_step r t m ≡ record { next = r; answer = Err OutOfBounds; ends = replicate 8 stays }
unfolding reading_step
refused_opening_reading own limits first h t m = rw (refused_bounds own limits first h, and-false (eqb (length m) 32768))
