-- The receiver keeps step with the world of rules, call by call.
use Rattle.std.specs.Prelude.{None, Option, Some, ℕ, is_some}
use Prim.Native.Nat.{ℕ, zero, suc, ◌≤◌, ◌<◌}
use mathlib.Core.Path.{◌≡◌, refl, sym, ap, ap₂, ◌∙◌, subst}
use mathlib.Core.Logic.{◌⊎◌, inl, inr}
use mathlib.Core.Bool.{and-not_self, Bool, true, false, cond, not, ◌&&◌}
use mathlib.Core.List.{List, [], ◌∷◌, ◌++◌, map, append-nil}
use native.Mathlib.Omega.{arith}
use native.Mathlib.Decide.{ℕ_discrete}
use lib.Dec.{eqb, leb}
use lib.ListN.{length, set, length-set, length-map, get_or-map}
use lib.Seq.{get_or-set_same, get_or-set_other}
use borrow.Author.Tests.{eqb-true, eq-eqb, ne_eqb, le-leb, lt-leb, leb-true}
use Rattle.progress.specs.declared.wait.IdleLimits.{IdleLimits}
use Rattle.laws.specs.Choice.{each_of}
use Rattle.frame.specs.declared.Address.{Address}
use Rattle.session.specs.declared.Session.{Session}
use Rattle.transport.specs.Kinds.{is_rts}
use Rattle.receiver.specs.declared.Receiver.{Receiver}
use Rattle.slots.specs.Slots.{key_place, first_free, slot_for, state_in, or_else, free_slot, is_free}
use Rattle.session.specs.Bounds.{session_ok, state_ok}
use Rattle.session.specs.InBounds.{sound_of}
use Rattle.slots.specs.Bounds.{values_ok}
use Rattle.receiver.specs.Calls.{Outcome, with_slot, slot_of, after_end, expired, end_of, reading_kept}
use Rattle.session.specs.declared.Step.{Step}
use Rattle.session.specs.Decisions as D
use Rattle.frame.specs.declared.refusal.Refusal.TheVariants.{Silence}
use Rattle.isolation.specs.Rules as R
use Rattle.isolation.specs.OwnFrames.{key_at, frame_key, all_keys, Body, announce, segment, status, abort, body_of}
use Rattle.isolation.specs.Replies.{Reply}
use Rattle.isolation.specs.Rules.{Values, Open, Out, is_open, rule, judged_at, ends_at, mine, next_state, output, outputs}
use Rattle.isolation.specs.World.{frame, clock, lent, World, eight_others, is_announcement, sees_body, sees, after, world_after}
use Rattle.isolation.specs.Observe.{reply_of, lost, is_body, is_own, strays, frame_seen, ending_of, endings_of, reading_seen}
use Rattle.isolation.proofs.Tests.{or-false, clash, or-1}
use Rattle.slots.specs.Searches.{lowest_some, lowest_none}
use Rattle.isolation.proofs.Slots.{Slots, at, holds, holds_free, holds_one, key_number, Small, find_some, find_none, Unique}
use Rattle.isolation.proofs.Count.{count_same}
use Rattle.isolation.proofs.Bytes.{part}
use Rattle.isolation.proofs.Opened.{any, any_from, any_none, others, others_less, others_all, Bounded, count_others}
use Rattle.isolation.proofs.Fit.{record_of, Ses, Place, Moves, Stays, Tied, Fit, applies}
use Rattle.isolation.proofs.Single.{Mine, asked, leaves, body_step, Reads, held_tied, shut_tied}
use Rattle.isolation.proofs.Silent.{ses_key, ses_shut, expire_ses, expire_holds, ends_own, ends_other}
use Rattle.isolation.proofs.Read.{Foreign, Takes, Agrees, plain_quiet, frame_mine}

-- the receiver's record and store, and the world of rules
pub record Sim (v : Values) (r : Receiver) (m : List ℕ) (w : World) : Type 0 where
  pub good : values_ok v.own v.limits ≡ true
  pub own : r.own ≡ v.own
  pub limits : r.limits ≡ v.limits
  pub eight : length r.slots ≡ 8
  pub whole : length m ≡ 32768
  pub last : (k : ℕ) → (w k).last ≡ r.last
  pub held : (i k : ℕ) → holds k (at r.slots i) ≡ true → Ses v k (at r.slots i) (part i m) (w k).session
  pub shut : (k : ℕ) → ((i : ℕ) → holds k (at r.slots i) ≡ false) → (w k).session ≡ None
  pub uniq : Unique r.slots
  pub ok : (i : ℕ) → state_ok v.own (at r.slots i) ≡ true

abbrev pub values_tests : Address → IdleLimits → List Bool
values_tests own limits =
    leb own.0 253
    ∷ leb 1 limits.first
    ∷ leb limits.first 60000
    ∷ leb 1 limits.second
    ∷ leb limits.second 60000
    ∷ []

pub own_small : (own : Address) (limits : IdleLimits) → values_ok own limits ≡ true → own.0 ≤ 253
own_small own limits e =
    leb-true own.0 253 (each_of (values_tests own limits) e).0

-- ---- a frame that changes its own slot

pub ses_ok : (v : Values) (k : ℕ) (x : Option Session) (p : List ℕ) (y : Option Open) → Ses v k x p y → state_ok v.own x ≡ true
ses_ok v k None p y m = refl
ses_ok v k (Some s) p None m = absurd m
ses_ok v k (Some s) p (Some ρ) m = rw m.1 m.2.fine

module _ (v : Values) (r : Receiver) (m : List ℕ) (w : World) (sim : Sim v r m w) (k : ℕ) (o : Outcome) (y : Option Open) (mv : Moves v r m k o y)
    (w' : World) (wk : (w' k).session ≡ y) (wo : (j : ℕ) → (j ≡ k → ⊥) → (w' j).session ≡ (w j).session) (wl : (j : ℕ) → (w' j).last ≡ (w j).last) where
  at_same : at (set r.slots mv.slot mv.state) mv.slot ≡ mv.state
  at_same =
      let z : length r.slots ≡ 8 = sim.eight in
      let l : mv.slot < 8 = mv.low in
      (get_or-set_same r.slots mv.slot mv.state free_slot (omega arith))

  at_other : (j : ℕ) → (j ≡ mv.slot → ⊥) → at (set r.slots mv.slot mv.state) j ≡ at r.slots j
  at_other j ne = (get_or-set_other r.slots mv.slot j mv.state free_slot ne)

  abbrev Holder : ℕ → ℕ → Type 0
  Holder j n = ((j ≡ mv.slot) × (n ≡ k)) ⊎ ((j ≡ mv.slot → ⊥) × (n ≡ k → ⊥) × (holds n (at r.slots j) ≡ true))

  holder : (j n : ℕ) → holds n (at (set r.slots mv.slot mv.state) j) ≡ true → Holder j n
  holder j n h = go (ℕ_discrete j mv.slot)
    where
      go : Dec (j ≡ mv.slot) → Holder j n
      go (yes e) = inl (e, ses_key v k mv.state (part mv.slot o.1) y mv.ses n (rw (e, at_same) at h))
      go (no e) = let g : holds n (at r.slots j) ≡ true = rw (at_other j e) at h in inr (e, (λ z. e ((mv.place j n g).1 z)), g)

  moved : Sim v (with_slot r mv.slot mv.state) o.1 w'
  moved = record {
    good = sim.good;
    own = sim.own;
    limits = sim.limits;
    eight = length-set r.slots mv.slot mv.state ∙ sim.eight;
    whole = mv.store.whole;
    last = λ j. wl j ∙ sim.last j;
    held = λ j n h. held' j n (holder j n h);
    shut = λ n h. shut' n h (ℕ_discrete n k);
    uniq = λ j₁ j₂ n g h. uniq' j₁ j₂ n (holder j₁ n g) (holder j₂ n h);
    ok = λ j. ok' j (ℕ_discrete j mv.slot);
  }
    where
      held' : (j n : ℕ) → Holder j n → Ses v n (at (set r.slots mv.slot mv.state) j) (part j o.1) (w' n).session
      held' j n (inl e) = rw (e.0, e.1, at_same, wk) mv.ses
      held' j n (inr e) = rw (at_other j e.0, mv.store.others j e.0, wo n e.1) (sim.held j n e.2)

      shut' : (n : ℕ) → ((j : ℕ) → holds n (at (set r.slots mv.slot mv.state) j) ≡ false) → Dec (n ≡ k) → (w' n).session ≡ None
      shut' n h (yes e) = rw (e, wk) (ses_shut v k mv.state (part mv.slot o.1) y mv.ses (rw (at_same, e) at (h mv.slot))).1
      shut' n h (no e) =
          wo n e ∙ sim.shut n (λ j. or-false (holds n (at r.slots j)) (λ t. clash (holds n (at r.slots j)) t (rw (at_other j (λ z. e ((mv.place j n t).0 z))) at (h j))))

      uniq' : (j₁ j₂ n : ℕ) → Holder j₁ n → Holder j₂ n → j₁ ≡ j₂
      uniq' j₁ j₂ n (inl e) (inl d) = e.0 ∙ sym d.0
      uniq' j₁ j₂ n (inl e) (inr d) = absurd (d.1 e.1)
      uniq' j₁ j₂ n (inr e) (inl d) = absurd (e.1 d.1)
      uniq' j₁ j₂ n (inr e) (inr d) = sim.uniq j₁ j₂ n e.2 d.2

      ok' : (j : ℕ) → Dec (j ≡ mv.slot) → state_ok v.own (at (set r.slots mv.slot mv.state) j) ≡ true
      ok' j (yes e) = rw (e, at_same) (ses_ok v k mv.state (part mv.slot o.1) y mv.ses)
      ok' j (no e) = rw (at_other j e) (sim.ok j)

  move_sim : Sim v o.0.next o.1 w'
  move_sim = subst (λ (z : Receiver). Sim v z o.1 w') (sym mv.next) moved

-- the world may change where nothing is seen
pub same_sim : (v : Values) (r : Receiver) (m : List ℕ) (w w' : World) → Sim v r m w → ((j : ℕ) → (w' j).session ≡ (w j).session) → ((j : ℕ) → (w' j).last ≡ (w j).last) → Sim v r m w'
same_sim v r m w w' sim es el = record {
  good = sim.good;
  own = sim.own;
  limits = sim.limits;
  eight = sim.eight;
  whole = sim.whole;
  last = λ j. el j ∙ sim.last j;
  held = λ i k h. rw (es k) (sim.held i k h);
  shut = λ k h. es k ∙ sim.shut k h;
  uniq = sim.uniq;
  ok = sim.ok;
}

unchanged : (v : Values) (r : Receiver) (m : List ℕ) (w : World) (r' : Receiver) (m' : List ℕ) → r' ≡ r → m' ≡ m → Sim v r m w → Sim v r' m' w
unchanged v r m w r' m' e f sim = rw (e, f) sim

-- ---- eight others

session_bounded : (own : Address) (s : Session) → own.0 ≤ 253 → session_ok own s ≡ true → Small s.announced.key × (key_number s.announced.key < all_keys)
session_bounded own s h ok =
    let t = each_of (leb s.announced.key.sa.0 253 ∷ not (eqb s.announced.key.sa.0 own.0) ∷ eqb s.announced.key.da.0
    (cond (is_rts s.announced.kind) own.0 255) ∷ leb s.announced.key.session.0 15 ∷ []) (sound_of own s ok).key in
    let a : s.announced.key.sa.0 ≤ 253 = leb-true s.announced.key.sa.0 253 t.0 in
    let b : s.announced.key.da.0 ≤ 255 = rw (eqb-true s.announced.key.da.0 (cond (is_rts s.announced.kind) own.0 255) t.1.1.0) (either (is_rts s.announced.kind)) in
    let c : s.announced.key.session.0 ≤ 15 = leb-true s.announced.key.session.0 15 t.1.1.1.0 in
    (record { da = omega arith; session = omega arith }, omega arith)
  where
    either : (b : Bool) → cond b own.0 255 ≤ 255
    either true = omega arith
    either false = omega arith

pub state_bounded : (own : Address) (x : Option Session) → own.0 ≤ 253 → state_ok own x ≡ true → Bounded all_keys x
state_bounded own None h e = record { small = λ s z. absurd (no s z); below = λ s z. absurd (no s z) }
  where
    no : (s : Session) → None ≡ Some s → ⊥
    no s z = clash (is_free None) refl (ap is_free z)
state_bounded own (Some t) h e = record {
  small = λ s z. rw (same s z) (session_bounded own t h e).0;
  below = λ s z. rw (same s z) (session_bounded own t h e).1;
}
  where
    same : (s : Session) → Some t ≡ Some s → s ≡ t
    same s z = cc

open_of_lem : (v : Values) (k : ℕ) (x : Option Session) (p : List ℕ) (y : Option Open) → Ses v k x p y → holds k x ≡ true → is_open y ≡ true
unfolding is_open holds
open_of_lem v k None p None m e = e
open_of_lem v k None p (Some ρ) m e = refl
open_of_lem v k (Some s) p None m e = absurd m
open_of_lem v k (Some s) p (Some ρ) m e = refl

module _ (v : Values) (r : Receiver) (m : List ℕ) (w : World) (sim : Sim v r m w) where
  pub open_any : (j : ℕ) → is_open (w j).session ≡ any j r.slots
  unfolding is_open
  open_any j = go (key_place (key_at j) r.slots) refl
    where
      go : (f : Option ℕ) → key_place (key_at j) r.slots ≡ f → is_open (w j).session ≡ any j r.slots
      go None e = rw (sim.shut j (find_none j r.slots e)) (sym (any_none j r.slots (find_none j r.slots e)))
      go (Some i) e =
          let h : holds j (at r.slots i) ≡ true = (find_some j r.slots i e).0 in
          open_of_lem v j (at r.slots i) (part i m) (w j).session (sim.held i j h) h ∙ sym (any_from j r.slots i h)

  eight_is : (k : ℕ) → eight_others w k ≡ leb 8 (others k r.slots)
  unfolding eight_others
  eight_is k =
      ap (leb 8) (count_same (λ j. is_open (w j).session && not (eqb j k)) (λ j. any j r.slots && not (eqb j k)) all_keys (λ j _. rw (open_any j))
      ∙ count_others all_keys k r.slots sim.uniq (λ i. state_bounded v.own (at r.slots i) (own_small v.own v.limits sim.good) (sim.ok i)))

  -- a slot is free: not eight others
  pub room : (k i : ℕ) → i < length r.slots → at r.slots i ≡ None → eight_others w k ≡ false
  room k i h e =
      let z : others k r.slots < length r.slots = others_less k r.slots i h (or-1 (is_free (at r.slots i)) (holds k (at r.slots i)) (ap is_free e)) in
      let y : length r.slots ≡ 8 = sim.eight in
      eight_is k ∙ lt-leb 8 (others k r.slots) (omega arith)

  no_room : (k : ℕ) → ((i : ℕ) → holds k (at r.slots i) ≡ false) → first_free r.slots ≡ None → eight_others w k ≡ true
  no_room k h e =
      let z : others k r.slots ≡ length r.slots = others_all k r.slots (λ i l. rw (lowest_none r.slots e i l) (h i)) in
      let y : length r.slots ≡ 8 = sim.eight in
      eight_is k ∙ le-leb 8 (others k r.slots) (omega arith)

-- ---- an own frame

slot_same : (i j : ℕ) → Some i ≡ Some j → i ≡ j
slot_same i j e = cc

-- only an announcement asks whether eight others are open
rule_told : (v : Values) (k last : ℕ) (e : Bool) (x : Option Open) (b : Body) → rule v k last (is_announcement b && e) x b ≡ rule v k last e x b
unfolding rule
rule_told v k last e x (announce a) = refl
rule_told v k last e x (segment format n d) = refl
rule_told v k last e x (status s) = refl
rule_told v k last e x (abort pgn) = refl

module _ (v : Values) (r : Receiver) (m : List ℕ) (w : World) (sim : Sim v r m w) (k : ℕ) (me : Mine v k) (b : Body) (d : List ℕ) (reads : Reads d b) where
  q : Option Open → Out
  q y = rule v k r.last (eight_others w k) y b

  step_at_lem : Option ℕ → Step
  step_at_lem f = asked (state_in f r.slots) (is_some f) (slot_of f) r.last (key_at k) b

  -- the change applied to the slot for the key
  in_slot : (f : Option ℕ) → ((i : ℕ) → f ≡ Some i → (i < 8) × Place r.slots i k) → (y : Option Open) (z : Out)
      → Tied v k f m y (state_in f r.slots) (step_at_lem f) (leaves b (step_at_lem f) f (state_in f r.slots) d m) z
      → slot_for (key_at k) r.slots ≡ f → Fit v r m k y (body_step r (key_at k) b d m) z
  unfolding step_at_lem
  in_slot f low y z t e = rw e (applies v r m k y (step_at_lem f).answer (leaves b (step_at_lem f) f (state_in f r.slots) d m) z f low (step_at_lem f).change t)

  -- the key's slot
  found : (i : ℕ) → key_place (key_at k) r.slots ≡ Some i → (x : Option Session) (y : Option Open) → at r.slots i ≡ x → Ses v k x (part i m) y → holds k x ≡ true
      → Fit v r m k y (body_step r (key_at k) b d m) (q y)
  unfolding q step_at_lem
  found i f None y e ses h = absurd (clash (holds k None) h (holds_free k))
  found i f (Some s) None e ses h = absurd ses
  found i f (Some s) (Some ρ) e ses h =
      let z : i < length r.slots = (find_some k r.slots i f).1 in
      let y : length r.slots ≡ 8 = sim.eight in
      let low : i < 8 = omega arith in
      let here : holds k (at r.slots i) ≡ true = (find_some k r.slots i f).0 in
      let state : at r.slots i ≡ Some (record_of k ρ ses.0) = e ∙ ap Some ses.1 in
      in_slot (Some i)
      (λ j u. subst (λ (j : ℕ). (j < 8) × Place r.slots j k) (slot_same i j u)
      (low, λ j n g. ((λ u. holds_one n k (at r.slots i) (rw u at g) here), (λ u. sim.uniq j i k (rw u at g) here))))
      (Some ρ) (rule v k r.last (eight_others w k) (Some ρ) b)
      (rw state (held_tied v k i low m sim.whole me ρ ses.0 ses.2 r.last (eight_others w k) true b d reads))
      (ap (λ (g : Option ℕ). or_else g (first_free r.slots)) f)

  -- no slot is the key's
  missing : key_place (key_at k) r.slots ≡ None → Fit v r m k None (body_step r (key_at k) b d m) (q None)
  unfolding q step_at_lem
  missing f = go (first_free r.slots) refl
    where
      nobody : (g : Option ℕ) → first_free r.slots ≡ g → (i : ℕ) → g ≡ Some i → (i < 8) × Place r.slots i k
      nobody g e i u =
          let e' : first_free r.slots ≡ Some i = e ∙ u in
          let z : i < length r.slots = (lowest_some r.slots i e').1 in
          let y : length r.slots ≡ 8 = sim.eight in (
            omega arith,
            λ j n h. (
              (λ w₁. absurd (clash (holds n None) (rw (w₁, (lowest_some r.slots i e').0) at h) (holds_free n))),
              (λ w₁. absurd (clash (holds k (at r.slots j)) (rw w₁ at h) (find_none k r.slots f j))),
            ),
          )

      closed : (g : Option ℕ) → first_free r.slots ≡ g → state_in g r.slots ≡ None
      closed None e = refl
      closed (Some i) e = (lowest_some r.slots i e).0

      full : (g : Option ℕ) → first_free r.slots ≡ g → eight_others w k ≡ not (is_some g)
      full None e = no_room v r m w sim k (find_none k r.slots f) e
      full (Some i) e = room v r m w sim k i (lowest_some r.slots i e).1 (lowest_some r.slots i e).0

      go : (g : Option ℕ) → first_free r.slots ≡ g → Fit v r m k None (body_step r (key_at k) b d m) (rule v k r.last (eight_others w k) None b)
      go g e =
          in_slot g (nobody g e) None (rule v k r.last (eight_others w k) None b)
          (rw (closed g e) (shut_tied v k g m sim.whole me r.last (eight_others w k) (full g e) b d))
          (ap (λ (h : Option ℕ). or_else h (first_free r.slots)) f ∙ e)

  pub body_fit : Fit v r m k (w k).session (body_step r (key_at k) b d m) (rule v k r.last (eight_others w k) (w k).session b)
  unfolding q
  body_fit = go (key_place (key_at k) r.slots) refl
    where
      go : (f : Option ℕ) → key_place (key_at k) r.slots ≡ f → Fit v r m k (w k).session (body_step r (key_at k) b d m) (rule v k r.last (eight_others w k) (w k).session b)
      go None e = rw (sim.shut k (find_none k r.slots e)) (missing e)
      go (Some i) e =
          let h : holds k (at r.slots i) ≡ true = (find_some k r.slots i e).0 in
          found i e (at r.slots i) (w k).session refl (sim.held i k h) h

-- what a frame must keep
pub record FrameKeeps (v : Values) (r : Receiver) (w : World) (id : ℕ) (d : List ℕ) (o : Outcome) : Type 0 where
  pub next : Sim v o.0.next o.1 (world_after v w (lent (frame id d)))
  pub says : (k : ℕ) → frame_seen v k r id d o ≡ outputs v k (w k) (sees v w k (lent (frame id d)))

-- a key whose rules' session is as it was is not lost
pub kept_open : (v : Values) (r r' : Receiver) (m m' : List ℕ) (w w' : World) → Sim v r m w → Sim v r' m' w' → (j : ℕ) → (w' j).session ≡ (w j).session → lost j r r' ≡ false
unfolding lost any
kept_open v r r' m m' w w' sim sim' j e =
    ap (λ (t : Bool). any j r.slots && not t) (sym (open_any v r' m' w' sim' j) ∙ ap is_open e ∙ open_any v r m w sim j)
    ∙ and-not_self (any j r.slots)

module _ (v : Values) (r : Receiver) (m : List ℕ) (w : World) (sim : Sim v r m w) (id : ℕ) (d : List ℕ) (b : Body) (body : body_of v.own id d ≡ Some b)
    (o : Outcome) (fit : Fit v r m (frame_key id d) (w (frame_key id d)).session o (rule v (frame_key id d) r.last (eight_others w (frame_key id d)) (w (frame_key id d)).session b)) where
  abbrev k : ℕ
  k = frame_key id d

  w' : World
  w' = world_after v w (lent (frame id d))

  own_session : (w' k).session ≡ (rule v k r.last (eight_others w k) (w k).session b).0
  unfolding w' world_after sees sees_body after next_state
  own_session =
      rw (body, eq-eqb (frame_key id d) (frame_key id d) refl, sim.last (frame_key id d))
      (ap (λ (x : Out). x.0) (rule_told v (frame_key id d) r.last (eight_others w (frame_key id d)) (w (frame_key id d)).session b))

  other_session : (j : ℕ) → (j ≡ k → ⊥) → (w' j).session ≡ (w j).session
  unfolding w' world_after sees sees_body after
  other_session j ne = rw (body, ne_eqb (frame_key id d) j (λ z. ne (sym z)))

  same_last : (j : ℕ) → (w' j).last ≡ (w j).last
  unfolding w' world_after sees sees_body after next_state
  same_last j = rw body (go (eqb (frame_key id d) j))
    where
      go : (t : Bool) → (after v j (w j) (cond t (mine (is_announcement b && eight_others w j) b ∷ []) [])).last ≡ (w j).last
      go true = refl
      go false = refl

  own_next : Sim v o.0.next o.1 w'
  own_next = go fit.change
    where
      still : (j : ℕ) → (rule v k r.last (eight_others w k) (w k).session b).0 ≡ (w k).session → Dec (j ≡ k) → (w' j).session ≡ (w j).session
      still j e (yes z) = rw z (own_session ∙ e)
      still j e (no z) = other_session j z

      go : Stays r m (w k).session o (rule v k r.last (eight_others w k) (w k).session b).0 ⊎ Moves v r m k o (rule v k r.last (eight_others w k) (w k).session b).0
          → Sim v o.0.next o.1 w'
      go (inl st) = unchanged v r m w' o.0.next o.1 st.next st.store (same_sim v r m w w' sim (λ j. still j st.ses (ℕ_discrete j k)) same_last)
      go (inr mv) = move_sim v r m w sim k o (rule v k r.last (eight_others w k) (w k).session b).0 mv w' own_session other_session same_last

  own_says : (j : ℕ) → frame_seen v j r id d o ≡ outputs v j (w j) (sees v w j (lent (frame id d)))
  unfolding frame_seen is_own is_body sees sees_body outputs output strays
  own_says j = rw body (go (ℕ_discrete (frame_key id d) j))
    where
      go : Dec (frame_key id d ≡ j) → cond (eqb (frame_key id d) j) (R.answer (reply_of o.0.answer o.1) ∷ []) (strays j r o)
          ≡ outputs v j (w j) (cond (eqb (frame_key id d) j) (mine (is_announcement b && eight_others w j) b ∷ []) [])
      go (yes z) =
          rw (← z, eq-eqb (frame_key id d) (frame_key id d) refl, fit.reply, sim.last (frame_key id d))
          (ap (λ (x : Out). R.answer x.1 ∷ []) (sym (rule_told v (frame_key id d) r.last (eight_others w (frame_key id d)) (w (frame_key id d)).session b)))
      go (no z) =
          rw (ne_eqb (frame_key id d) j z, fit.only j z, kept_open v r o.0.next m o.1 w w' sim own_next j (other_session j (λ y. z (sym y))))

  pub own_keeps : FrameKeeps v r w id d o
  unfolding w'
  own_keeps = record { next = own_next; says = own_says }

-- ---- any frame

module _ (v : Values) (r : Receiver) (m : List ℕ) (w : World) (sim : Sim v r m w) (id : ℕ) (d : List ℕ) where
  -- a frame that is no session's own
  foreign_keeps : body_of v.own id d ≡ None → (o : Outcome) → Foreign r m o → FrameKeeps v r w id d o
  unfolding world_after sees sees_body after frame_seen is_own is_body outputs strays
  foreign_keeps body o f = record {
    next = unchanged v r m (world_after v w (lent (frame id d))) o.0.next o.1 (ap (λ (z : Outcome). z.0.next) f.same) (ap (λ (z : Outcome). z.1) f.same)
        (same_sim v r m w (world_after v w (lent (frame id d))) sim (λ j. rw body) (λ j. rw body));
    says = λ k. rw (body, f.same, plain_quiet f.answer f.plain k, unchanged_lost k);
  }
    where
      unchanged_lost : (k : ℕ) → lost k r r ≡ false
      unchanged_lost k = kept_open v r r m m w w sim sim k refl

  pub frame_keeps : (o : Outcome) → Agrees r d m (key_at (frame_key id d)) o (body_of v.own id d) → FrameKeeps v r w id d o
  frame_keeps o agrees = go (body_of v.own id d) refl agrees.does
    where
      go : (x : Option Body) → body_of v.own id d ≡ x → Takes r d m (key_at (frame_key id d)) o x → FrameKeeps v r w id d o
      go None e f = foreign_keeps e o f
      go (Some b) e t =
          subst (λ (z : Outcome). FrameKeeps v r w id d z) (sym t.0)
          (own_keeps v r m w sim id d b e (body_step r (key_at (frame_key id d)) b d m)
          (body_fit v r m w sim (frame_key id d) (frame_mine v id d b (own_small v.own v.limits sim.good) e) b d t.1))

-- ---- a reading

endings_none : (limits : IdleLimits) (t k : ℕ) (l : Slots) → ((i : ℕ) → holds k (at l i) ≡ false) → endings_of k (map (end_of limits t) l) ≡ []
unfolding endings_of
endings_none limits t k [] h = refl
endings_none limits t k (x ∷ l) h =
    ap₂ (λ (a b : List Reply). a ++ b) (ends_other limits t k x (h 0)) (endings_none limits t k l (λ i. h (suc i)))

endings_one : (limits : IdleLimits) (t k : ℕ) (l : Slots) → Unique l → (i : ℕ) → holds k (at l i) ≡ true → endings_of k (map (end_of limits t) l) ≡ ending_of k (end_of limits t (at l i))
unfolding endings_of
endings_one limits t k [] u i h = absurd (clash (holds k None) h (holds_free k))
endings_one limits t k (x ∷ l) u zero h =
    ap (λ (b : List Reply). ending_of k (end_of limits t x) ++ b)
    (endings_none limits t k l (λ i. or-false (holds k (at l i)) (λ g. let z : 0 ≡ suc i = u 0 (suc i) k h g in omega arith)))
    ∙ append-nil (ending_of k (end_of limits t x))
endings_one limits t k (x ∷ l) u (suc i) h =
    ap (λ (a : List Reply). a ++ endings_of k (map (end_of limits t) l))
    (ends_other limits t k x (or-false (holds k x) (λ g. let z : 0 ≡ suc i = u 0 (suc i) k g h in omega arith)))
    ∙ endings_one limits t k l (λ a b n p q. let z : suc a ≡ suc b = u (suc a) (suc b) n p q in omega arith) i h

module _ (v : Values) (r : Receiver) (m : List ℕ) (w : World) (sim : Sim v r m w) (t : ℕ) where
  at_map : (i : ℕ) → at (map (expired r.limits t) r.slots) i ≡ expired r.limits t (at r.slots i)
  at_map i = (get_or-map (expired r.limits t) r.slots i free_slot)

  was : (i k : ℕ) → holds k (at (map (expired r.limits t) r.slots) i) ≡ true → holds k (at r.slots i) ≡ true
  was i k h = expire_holds r.limits t k (at r.slots i) (rw (at_map i) at h)

  expired_ok : (limits : IdleLimits) (x : Option Session) → state_ok v.own x ≡ true → state_ok v.own (expired limits t x) ≡ true
  expired_ok limits None e = refl
  expired_ok limits (Some s) e = go (D.is_silent limits t s)
    where
      go : (b : Bool) → state_ok v.own (after_end (cond b (Some (D.ending_of s Silence)) None) (Some s)) ≡ true
      go true = refl
      go false = e

  pub reading_next : Sim v (reading_kept r t).next m (world_after v w (lent (clock t)))
  unfolding world_after sees after next_state judged_at
  reading_next = record {
    good = sim.good;
    own = sim.own;
    limits = sim.limits;
    eight = length-map r.slots (expired r.limits t) ∙ sim.eight;
    whole = sim.whole;
    last = λ k. refl;
    held = λ i k h. held' i k (was i k h);
    shut = λ k h. shut' k h (key_place (key_at k) r.slots) refl;
    uniq = λ i j k g h. sim.uniq i j k (was i k g) (was j k h);
    ok = λ i. rw (at_map i) (expired_ok r.limits (at r.slots i) (sim.ok i));
  }
    where
      held' : (i k : ℕ) → holds k (at r.slots i) ≡ true → Ses v k (at (map (expired r.limits t) r.slots) i) (part i m) (judged_at v t (w k).session)
      held' i k h = rw (at_map i, sim.limits) (expire_ses v t k (at r.slots i) (part i m) (w k).session (sim.held i k h))

      shut' : (k : ℕ) → ((i : ℕ) → holds k (at (map (expired r.limits t) r.slots) i) ≡ false) → (f : Option ℕ) → key_place (key_at k) r.slots ≡ f
          → judged_at v t (w k).session ≡ None
      shut' k h None e = rw (sim.shut k (find_none k r.slots e))
      shut' k h (Some i) e =
          (ses_shut v k (at (map (expired r.limits t) r.slots) i) (part i m) (judged_at v t (w k).session) (held' i k (find_some k r.slots i e).0) (h i)).1

  pub reading_says : (k : ℕ) → reading_seen k (reading_kept r t) ≡ outputs v k (w k) (sees v w k (lent (clock t)))
  unfolding reading_seen sees outputs output ends_at
  reading_says k = ap (λ (x : List Reply). R.reading 0 x ∷ []) (go (key_place (key_at k) r.slots) refl)
    where
      go : (f : Option ℕ) → key_place (key_at k) r.slots ≡ f → endings_of k (map (end_of r.limits t) r.slots) ≡ ends_at v k t (w k).session
      go None e = rw (sim.shut k (find_none k r.slots e)) (endings_none r.limits t k r.slots (find_none k r.slots e))
      go (Some i) e =
          let h : holds k (at r.slots i) ≡ true = (find_some k r.slots i e).0 in
          endings_one r.limits t k r.slots sim.uniq i h
          ∙ rw sim.limits (ends_own v t k (at r.slots i) (part i m) (w k).session (sim.held i k h))
