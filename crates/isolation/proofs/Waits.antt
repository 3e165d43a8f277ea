-- The silence after each answer: 02, E4. A session that was just granted ends at the first limit, one whose segment brought no CTS and a
-- broadcast at the second, each counted from the last reading before the frame.
use Rattle.std.specs.Prelude.{Err, None, Ok, Option, Result, Some, ℕ, ⊤, is_some}
use Prim.Native.Nat.{ℕ, ◌≤◌, ◌<◌}
use mathlib.Core.Path.{◌≡◌, refl, sym, ap, ◌∙◌, subst}
use mathlib.Core.Bool.{Bool, true, false, cond, not}
use mathlib.Core.List.{List}
use native.Mathlib.Omega.{arith}
use lib.Dec.{eqb}
use lib.ListN.{length}
use lib.Seq.{get_or-set_same}
use borrow.Author.Tests.{eq-eqb}
use Rattle.frame.specs.Judge.{judged}
use Rattle.frame.specs.declared.refusal.Refusal.TheVariants.{AnnouncementForm, FormatIndicator, KeyNotOpen, OutOfBounds, Silence}
use Rattle.transport.specs.declared.Key.{Key}
use Rattle.answer.specs.declared.Answer.{Answer}
use Rattle.answer.specs.declared.Answer.TheVariants as answer
use Rattle.progress.specs.declared.wait.Wait.{Wait}
use Rattle.progress.specs.declared.wait.Wait.TheVariants.{First, Second}
use Rattle.progress.specs.Waits.{limit_in}
use Rattle.session.specs.declared.Session.{Session}
use Rattle.session.specs.declared.Change.{Change}
use Rattle.session.specs.declared.Change.TheVariants as change
use Rattle.session.specs.declared.Step.{Step}
use Rattle.session.specs.Announcements.{misdirected, form_of}
use Rattle.session.specs.Decisions.{after, refused as refuse, ending_of, on_form, announced_to, segment_to, status_to, abort_to}
use Rattle.session.specs.Silences.{GoesOn, Starts, StepStarts, announce_starts, segment_starts, status_starts, abort_starts}
use Rattle.session.specs.Steps.{MeetsOpen, announce_meets, segment_meets, status_meets, abort_meets}
use Rattle.slots.specs.Slots.{key_place, first_free, slot_for, state_in, or_else, free_slot}
use Rattle.slots.specs.Searches.{lowest_some}
use Rattle.receiver.specs.declared.Receiver.{Receiver}
use Rattle.receiver.specs.Bounds.{in_bounds}
use Rattle.receiver.specs.Calls.{Outcome, apply, slot_of, is_ready, refused, on_verdict, frame_all, reading_step}
use Rattle.isolation.specs.OwnFrames.{key_at, frame_key, Body, announce, segment, status, abort, body_of}
use Rattle.isolation.specs.Rules.{since}
use Rattle.isolation.specs.World.{frame, lent}
use Rattle.isolation.specs.Observe.{record_after, store_after}
use Rattle.isolation.proofs.Tests.{both}
use Rattle.isolation.proofs.Slots.{at, holds, open_key, find_some}
use Rattle.isolation.proofs.Single.{asked, body_step}
use Rattle.isolation.proofs.Read.{Takes, frame_agrees}
use Rattle.isolation.proofs.Elapsed.{end_in, AtReading, free, stays_open, ends, reading_leaves}
use Rattle.isolation.proofs.Demand3.{Sound, stays_in_bounds}
use Rattle.answer.specs.declared.Ending.{Ending}
use Rattle.frame.specs.declared.refusal.Refusal.{Refusal}
use Rattle.progress.specs.declared.Progress.{Progress}

-- the session of key κ is in the wait w, silent from a reading on: the next reading ends it exactly where the limit of that wait is over
pub record InWait (κ : Key) (r : Receiver) (m : List ℕ) (w : Wait) (from : ℕ) : Type 0 where
  pub slot : ℕ
  pub session : Session
  pub held : at r.slots slot ≡ Some session
  pub key : session.announced.key ≡ κ
  pub stays : (t : ℕ) → since from t < limit_in r.limits w → end_in (reading_step r t m) slot ≡ None
  pub over : (t : ℕ) → limit_in r.limits w ≤ since from t → end_in (reading_step r t m) slot ≡ Some (ending_of session Silence)

-- by the answer
abbrev pub Waiting : Key → Answer → Receiver → List ℕ → ℕ → Type 0
Waiting κ (answer.Grant c) r m from = InWait κ r m First from
Waiting κ (answer.Opened k) r m from = InWait κ r m Second from
Waiting κ (answer.Taken t) r m from = InWait κ r m Second from
Waiting κ (answer.Groups route) r m from = Unit {0}
Waiting κ (answer.HandedOver x) r m from = Unit {0}
Waiting κ (answer.Aborted k) r m from = Unit {0}
Waiting κ (answer.Ended e) r m from = Unit {0}
Waiting κ (answer.RefusedRts j) r m from = Unit {0}
Waiting κ (answer.Refused n) r m from = Unit {0}

-- ---- a session in its slot, at a reading

same_open : (s u : Session) → Some s ≡ Some u → s ≡ u
same_open s u e = cc

not_closed : (s : Session) → Some s ≡ None → ⊥
not_closed s e = let z : ◌≡◌ {A = ℕ} 0 1 = cc in omega arith

module _ (κ : Key) (r : Receiver) (m : List ℕ) (ready : is_ready r m ≡ true) (i : ℕ) (s : Session) (held : at r.slots i ≡ Some s) where
  stays_in : (t : ℕ) → since s.progress.mark t < limit_in r.limits s.progress.wait → end_in (reading_step r t m) i ≡ None
  stays_in t l = go ((reading_leaves r t m ready).slots i)
    where
      go : {e : (Option Ending)} {y : (Option Session)} → AtReading r.limits t (at r.slots i) e y → e ≡ None
      go (free x e y) = e
      go (stays_open u x g e y) = e
      go (ends u x g e y) =
          let same : s ≡ u = same_open s u (sym held ∙ x) in
          let h : limit_in r.limits s.progress.wait ≤ since s.progress.mark t =
          subst (λ (v : Session). limit_in r.limits v.progress.wait ≤ since v.progress.mark t) (sym same) g in
          absurd (omega arith)

  ends_in_lem : (t : ℕ) → limit_in r.limits s.progress.wait ≤ since s.progress.mark t → end_in (reading_step r t m) i ≡ Some (ending_of s Silence)
  ends_in_lem t l = go ((reading_leaves r t m ready).slots i)
    where
      go : {e : (Option Ending)} {y : (Option Session)} → AtReading r.limits t (at r.slots i) e y → e ≡ Some (ending_of s Silence)
      go (free x e y) = absurd (not_closed s (sym held ∙ x))
      go (stays_open u x g e y) =
          let same : s ≡ u = same_open s u (sym held ∙ x) in
          let h : since s.progress.mark t < limit_in r.limits s.progress.wait =
          subst (λ (v : Session). since v.progress.mark t < limit_in r.limits v.progress.wait) (sym same) g in
          absurd (omega arith)
      go (ends u x g e y) = e ∙ ap (λ (v : Session). Some (ending_of v Silence)) (sym (same_open s u (sym held ∙ x)))

  in_wait : (w : Wait) (last : ℕ) → s.announced.key ≡ κ → s.progress.wait ≡ w → s.progress.mark ≡ last → InWait κ r m w last
  in_wait w last key e f = record {
    slot = i;
    session = s;
    held = held;
    key = key;
    stays = λ t l. stays_in t (rw (e, f) l);
    over = λ t l. ends_in_lem t (rw (e, f) l);
  }

-- ---- the step of an own frame, applied

starts : (y : Option Session) (room : Bool) (slot last : ℕ) (κ : Key) (b : Body) → StepStarts κ (asked y room slot last κ b) last
starts y room slot last κ (announce a) = announce_starts y room κ a last
starts y room slot last κ (segment format n x) = segment_starts y κ _ last
starts y room slot last κ (status st) = status_starts y κ slot st last
starts y room slot last κ (abort pgn) = abort_starts y κ pgn last

meets : (y : Option Session) (room : Bool) (slot last : ℕ) (κ : Key) (b : Body) → MeetsOpen (asked y room slot last κ b).change y
meets y room slot last κ (announce a) = announce_meets y room κ a last
meets y room slot last κ (segment format n x) = segment_meets _ last y
meets y room slot last κ (status st) = status_meets y slot st last
meets y room slot last κ (abort pgn) = abort_meets y pgn

-- without a slot nothing opens or moves on
roomless : (slot last : ℕ) (κ : Key) (b : Body) → (asked None false slot last κ b).change ≡ change.Stays
unfolding announced_to segment_to status_to abort_to
roomless slot last κ (announce a) = go (misdirected κ.da a.kind) (form_of a)
  where
    go : (t : Bool) (f : Result ⊤ Refusal) → (cond t (refuse AnnouncementForm) (on_form f None false κ a last)).change ≡ change.Stays
    go true f = refl
    go false (Err n) = refl
    go false (Ok tt) = refl
roomless slot last κ (segment format n x) = go (not (eqb format 0))
  where
    go : (t : Bool) → (cond t (refuse FormatIndicator) (refuse KeyNotOpen)).change ≡ change.Stays
    go true = refl
    go false = refl
roomless slot last κ (status st) = refl
roomless slot last κ (abort pgn) = refl

opens≢stays : (s : Session) → ◌≡◌ {A = Change Session Progress} (change.Opens s) change.Stays → ⊥
opens≢stays s e = let z : ◌≡◌ {A = ℕ} 0 1 = cc in omega arith

module _ (r : Receiver) (k : ℕ) (m : List ℕ) where
  -- a session in the slot for its key has the key, and that is one of the slots
  its_key : (i : ℕ) (s : Session) (g : Option ℕ) → key_place (key_at k) r.slots ≡ g → or_else g (first_free r.slots) ≡ Some i → at r.slots i ≡ Some s
      → s.announced.key ≡ key_at k
  its_key i s (Some j) p e y =
      open_key k s (subst (λ (x : Option Session). holds k x ≡ true) y (find_some k r.slots i (p ∙ e)).0)
  its_key i s None p e y = absurd (not_closed s (sym y ∙ (lowest_some r.slots i e).0))

  inside : (i : ℕ) (g : Option ℕ) → key_place (key_at k) r.slots ≡ g → or_else g (first_free r.slots) ≡ Some i → i < length r.slots
  inside i (Some j) p e = (find_some k r.slots i (p ∙ e)).1
  inside i None p e = (lowest_some r.slots i e).1

  -- f: the slot for the key; g: the one that has it open
  goes_on : (f g : Option ℕ) → key_place (key_at k) r.slots ≡ g → or_else g (first_free r.slots) ≡ f → (a : Answer) (c : Change Session Progress) → MeetsOpen c (state_in f r.slots)
      → (f ≡ None → c ≡ change.Stays) → is_ready (apply r f (record { change = c; answer = a })).next m ≡ true → (w : Wait) → GoesOn (key_at k) c w r.last
      → InWait (key_at k) (apply r f (record { change = c; answer = a })).next m w r.last
  goes_on f g p e a change.Stays meet none ready w h = absurd h
  goes_on f g p e a change.Ends meet none ready w h = absurd h
  goes_on None g p e a (change.Opens s) meet none ready w h = absurd (opens≢stays s (none refl))
  goes_on None g p e a (change.Moves q) meet none ready w h = absurd meet
  goes_on (Some i) g p e a (change.Opens s) meet none ready w h =
      in_wait (key_at k) _ m ready i s (get_or-set_same r.slots i _ free_slot (inside i g p e)) w r.last h.0 h.1.0 h.1.1
  goes_on (Some i) g p e a (change.Moves q) meet none ready w h = go (at r.slots i) refl meet
    where
      go : (y : Option Session) → at r.slots i ≡ y → MeetsOpen (change.Moves q) y → InWait (key_at k) (apply r (Some i) (record { change = change.Moves q; answer = a })).next m w r.last
      go None y n = absurd n
      go (Some s) y n =
          in_wait (key_at k) _ m ready i (record { announced = s.announced; progress = q })
          ((get_or-set_same r.slots i _ free_slot (inside i g p e)) ∙ ap (λ (x : Option Session). after x (change.Moves q)) y)
          w r.last (its_key i s g p e y) h.0 h.1

  waiting : (a : Answer) (c : Change Session Progress) (R : Receiver) → ((w : Wait) → GoesOn (key_at k) c w r.last → InWait (key_at k) R m w r.last) → Starts (key_at k) a c r.last
      → Waiting (key_at k) a R m r.last
  waiting (answer.Grant x) c R f h = f First h
  waiting (answer.Opened x) c R f h = f Second h
  waiting (answer.Taken x) c R f h = f Second h
  waiting (answer.Groups x) c R f h = tt
  waiting (answer.HandedOver x) c R f h = tt
  waiting (answer.Aborted x) c R f h = tt
  waiting (answer.Ended x) c R f h = tt
  waiting (answer.RefusedRts x) c R f h = tt
  waiting (answer.Refused x) c R f h = tt

-- On every record in bounds, with the store: what an own frame is answered says which wait its session is in from then on.
module _ (r : Receiver) (id : ℕ) (d m : List ℕ) (bounds : in_bounds r ≡ true) (eight : length r.slots ≡ 8) (whole : length m ≡ 32768) (b : Body)
    (body : body_of r.own id d ≡ Some b) where
  does : frame_all r id d m ≡ body_step r (key_at (frame_key id d)) b d m
  unfolding frame_all
  does =
      ap (λ (t : Bool). cond t (on_verdict (judged r.own id (length d)) r d m) (refused r OutOfBounds, m)) (both (eqb (length m) 32768) (in_bounds r) (eq-eqb _ _ whole) bounds)
      ∙ (subst (Takes r d m (key_at (frame_key id d)) (on_verdict (judged r.own id (length d)) r d m)) body (frame_agrees r id d m).does).0

  ready_after : is_ready (frame_all r id d m).0.next (frame_all r id d m).1 ≡ true
  unfolding record_after store_after
  ready_after =
      let s : Sound r (record_after r m (lent (frame id d))) (store_after r m (lent (frame id d))) = stays_in_bounds r m bounds eight whole (lent (frame id d)) in
      both _ _ (eq-eqb _ _ s.whole) s.bounds

  applied_waits : (f : Option ℕ) → or_else (key_place (key_at (frame_key id d)) r.slots) (first_free r.slots) ≡ f → (M : List ℕ)
      → let st : Step = asked (state_in f r.slots) (is_some f) (slot_of f) r.last (key_at (frame_key id d)) b in
      is_ready (apply r f st).next M ≡ true → Waiting (key_at (frame_key id d)) st.answer (apply r f st).next M r.last
  applied_waits f e M ready =
      let st : Step = asked (state_in f r.slots) (is_some f) (slot_of f) r.last (key_at (frame_key id d)) b in
      waiting r (frame_key id d) M st.answer st.change (apply r f st).next
      (goes_on r (frame_key id d) M f (key_place (key_at (frame_key id d)) r.slots) refl e st.answer st.change (meets _ _ _ _ _ b) (λ n. nothing f n) ready)
      (starts _ _ _ _ _ b)
    where
      nothing : (f : Option ℕ) → f ≡ None → (asked (state_in f r.slots) (is_some f) (slot_of f) r.last (key_at (frame_key id d)) b).change ≡ change.Stays
      nothing None n = roomless 0 r.last (key_at (frame_key id d)) b
      nothing (Some i) n = absurd (let z : ◌≡◌ {A = ℕ} 0 1 = cc in omega arith)

  pub waits_after : Waiting (key_at (frame_key id d)) (frame_all r id d m).0.answer (frame_all r id d m).0.next (frame_all r id d m).1 r.last
  waits_after =
      subst (λ (o : Outcome). Waiting (key_at (frame_key id d)) o.0.answer o.0.next o.1 r.last) (sym does)
      (applied_waits (slot_for (key_at (frame_key id d)) r.slots) refl _ (subst (λ (o : Outcome). is_ready o.0.next o.1 ≡ true) does ready_after))
