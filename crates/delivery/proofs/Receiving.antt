-- What a call at the receiver does to the session of one key, whatever else the record holds: by the simulation that `isolation` proves.
use Rattle.std.specs.Prelude.{None, Option, Some, ℕ, is_some}
use Prim.Native.Nat.{ℕ}
use mathlib.Core.Path.{◌≡◌, refl, sym, ap, ◌∙◌, subst}
use mathlib.Core.Bool.{Bool, true, false, cond, not, ◌&&◌}
use mathlib.Core.List.{List, [], ◌∷◌}
use native.Mathlib.Omega.{arith}
use lib.Dec.{eqb, leb}
use borrow.Author.Tests.{eqb-true, eq-eqb}
use Rattle.laws.specs.Bools.{clash, not_both, neither_left, cond_true}
use Rattle.laws.specs.Choice.{each_of}
use Rattle.transport.specs.Kinds as kinds
use Rattle.session.specs.InBounds.{sound_of}
use Rattle.slots.specs.Slots.{key_place, first_free}
use Rattle.slots.specs.Searches.{lowest_some}
use Rattle.answer.specs.declared.Answer.{Answer}
use Rattle.answer.specs.declared.Answer.TheVariants as answer
use Rattle.receiver.specs.declared.Receiver.{Receiver}
use Rattle.receiver.specs.Calls.{frame_all, reading_step}
use Rattle.isolation.specs.OwnFrames.{key_at, is_rts, frame_key, Body, body_of}
use Rattle.isolation.specs.Replies.{Reply}
use Rattle.isolation.specs.Rules as rules
use Rattle.isolation.specs.Rules.{Values, Open, is_open, is_silent, rule, judged_at, ends_at, next_state, output, outputs}
use Rattle.isolation.specs.World.{frame, clock, lent, World, eight_others, is_announcement, sees_body, sees, after, world_after}
use Rattle.isolation.specs.Observe.{says_of, reply_of, touches, is_body, is_own, lost, open_in, strays, frame_seen, endings_of, reading_seen, shows, record_after, store_after}
use Rattle.isolation.proofs.Slots.{at, holds, find_some, find_none}
use Rattle.isolation.proofs.Bytes.{part}
use Rattle.isolation.proofs.Same.{kind_same}
use Rattle.isolation.proofs.Fit.{record_of, Ses}
use Rattle.isolation.proofs.Opened.{any}
use Rattle.isolation.proofs.Many.{Sim, open_any, room}
use Rattle.isolation.proofs.Run.{Keeps, keeps}
use Rattle.delivery.specs.System.{handed_for, answer_of}
use Rattle.session.specs.declared.Session.{Session}

-- the key's session after a call, with a world of rules that explains the record and the store again
pub record Becomes (v : Values) (k t : ℕ) (x : Option Open) (r : Receiver) (m : List ℕ) : Type 0 where
  pub world : World
  pub sim : Sim v r m world
  pub session : (world k).session ≡ x
  pub last : r.last ≡ t

-- an RTS session is of a key to the receiver alone
ses_aimed : (v : Values) (k : ℕ) (x : Option Session) (p : List ℕ) (ρ : Open) → Ses v k x p (Some ρ) → is_rts ρ.told.kind ≡ true → (key_at k).da.0 ≡ v.own.0
ses_aimed v k None p ρ h e = absurd h
ses_aimed v k (Some s) p ρ (x, same, rel) e =
    let t = each_of (leb (key_at k).sa.0 253 ∷ not (eqb (key_at k).sa.0 v.own.0) ∷ eqb (key_at k).da.0
    (cond (kinds.is_rts ρ.told.kind) v.own.0 255) ∷ leb (key_at k).session.0 15 ∷ []) (sound_of v.own (record_of k ρ x) rel.fine).key in
    eqb-true _ _ t.1.1.0 ∙ cond_true (kinds.is_rts ρ.told.kind) _ _ (sym (kind_same ρ.told.kind) ∙ e)

module _ (v : Values) (r : Receiver) (m : List ℕ) (w : World) (sim : Sim v r m w) (k : ℕ) where
  -- the key's session: none, or one that a slot has
  in_slot : (P : Option Open → Type 0) → P None → ((i : ℕ) → holds k (at r.slots i) ≡ true → P (w k).session) → P (w k).session
  in_slot P n f = go (key_place (key_at k) r.slots) refl
    where
      go : (g : Option ℕ) → key_place (key_at k) r.slots ≡ g → P (w k).session
      go None e = subst P (sym (sim.shut k (find_none k r.slots e))) n
      go (Some i) e = f i (find_some k r.slots i e).0

  pub session_aimed : (ρ : Open) → (w k).session ≡ Some ρ → is_rts ρ.told.kind ≡ true → (key_at k).da.0 ≡ v.own.0
  session_aimed ρ = in_slot (λ y. y ≡ Some ρ → is_rts ρ.told.kind ≡ true → (key_at k).da.0 ≡ v.own.0)
      (λ z. absurd (let c : ◌≡◌ {A = ℕ} 0 1 = cc in omega arith))
      (λ i h z. ses_aimed v k (at r.slots i) (part i m) ρ (subst (Ses v k (at r.slots i) (part i m)) z (sim.held i k h)))

  -- a slot is free: not eight other keys are open
  not_eight : is_some (first_free r.slots) ≡ true → eight_others w k ≡ false
  not_eight e = go (first_free r.slots) refl e
    where
      go : (f : Option ℕ) → first_free r.slots ≡ f → is_some f ≡ true → eight_others w k ≡ false
      go None e h = absurd (clash false h refl)
      go (Some i) e h = let s = lowest_some r.slots i e in room v r m w sim k i s.1 s.0

  module _ (id : ℕ) (d : List ℕ) where
    kept : Keeps v r m w (lent (frame id d))
    kept = keeps v r m w sim (lent (frame id d))

    -- ---- a frame of the key

    module _ (b : Body) (mine : frame_key id d ≡ k) (body : body_of v.own id d ≡ Some b) (free : is_announcement b ≡ true → is_some (first_free r.slots) ≡ true) where
      told_no : (is_announcement b && eight_others w k) ≡ false
      told_no = go (is_announcement b) refl
        where
          go : (t : Bool) → is_announcement b ≡ t → (t && eight_others w k) ≡ false
          go true e = not_eight (free e)
          go false e = refl

      sees_it : sees v w k (lent (frame id d)) ≡ rules.mine false b ∷ []
      unfolding sees sees_body
      sees_it = rw (body, mine, eq-eqb k k refl, told_no)

      frame_says : rules.answer (answer_of (frame_all r id d m)) ∷ [] ≡ rules.answer (rule v k (w k).last false (w k).session b).1 ∷ []
      unfolding shows frame_seen is_own is_body outputs output
      frame_says = rw (body, mine, eq-eqb k k refl, sees_it) at (kept.says k)

      first : (a c : Reply) → rules.answer a ∷ [] ≡ rules.answer c ∷ [] → a ≡ c
      first a c e = cc

      pub frame_replies : answer_of (frame_all r id d m) ≡ (rule v k r.last false (w k).session b).1
      frame_replies = first _ _ frame_says ∙ ap (λ (n : ℕ). (rule v k n false (w k).session b).1) (sim.last k)

      pub frame_becomes : Becomes v k r.last (rule v k r.last false (w k).session b).0 (frame_all r id d m).0.next (frame_all r id d m).1
      unfolding record_after store_after world_after after next_state
      frame_becomes = record {
        world = world_after v w (lent (frame id d));
        sim = kept.next;
        session = rw sees_it (ap (λ (n : ℕ). (rule v k n false (w k).session b).0) (sim.last k));
        last = sym (kept.next.last k) ∙ rw sees_it (sim.last k);
      }

    -- ---- any other frame

    module _ (other : is_own v k id d ≡ false) where
      unseen : sees v w k (lent (frame id d)) ≡ []
      unfolding sees sees_body is_own is_body
      unseen = go (body_of v.own id d) other
        where
          go : (x : Option Body) → (is_body x && eqb (frame_key id d) k) ≡ false → sees_body w k (frame_key id d) x ≡ []
          go None e = refl
          go (Some b) e = rw e

      pub aside_becomes : Becomes v k r.last (w k).session (frame_all r id d m).0.next (frame_all r id d m).1
      unfolding record_after store_after world_after after
      aside_becomes = record {
        world = world_after v w (lent (frame id d));
        sim = kept.next;
        session = rw unseen;
        last = sym (kept.next.last k) ∙ rw unseen (sim.last k);
      }

      quiet : touches k (frame_all r id d m).0.answer ≡ false
      unfolding shows frame_seen strays outputs
      quiet = neither_left (touches k (frame_all r id d m).0.answer) (lost k r (frame_all r id d m).0.next) (go _ (rw (other, unseen) at (kept.says k)))
        where
          go : (t : Bool) → cond t (rules.stray (answer_of (frame_all r id d m)) ∷ []) [] ≡ [] → t ≡ false
          go true e = absurd (let z : ◌≡◌ {A = ℕ} 0 1 = cc in omega arith)
          go false e = refl

      hands_none : (a : Answer) (n : List ℕ) → touches k a ≡ false → handed_for k (says_of a n) ≡ []
      unfolding touches says_of
      hands_none (answer.Groups ρ) n e = refl
      hands_none (answer.Opened κ) n e = refl
      hands_none (answer.Taken t) n e = refl
      hands_none (answer.Grant c) n e = refl
      hands_none (answer.HandedOver x) n e = rw e
      hands_none (answer.Aborted κ) n e = refl
      hands_none (answer.Ended x) n e = refl
      hands_none (answer.RefusedRts j) n e = refl
      hands_none (answer.Refused n) m e = refl

      pub aside_hands : handed_for k (answer_of (frame_all r id d m)).says ≡ []
      unfolding reply_of
      aside_hands = hands_none (frame_all r id d m).0.answer (frame_all r id d m).1 quiet

  -- ---- a reading

  module _ (t : ℕ) where
    read : Keeps v r m w (lent (clock t))
    read = keeps v r m w sim (lent (clock t))

    pub reading_becomes : Becomes v k t (judged_at v t (w k).session) (reading_step r t m).next m
    unfolding record_after store_after world_after sees after next_state
    reading_becomes = record {
      world = world_after v w (lent (clock t));
      sim = read.next;
      session = refl;
      last = sym (read.next.last k);
    }

    -- the endings of the key are the rules'
    pub reading_ends : endings_of k (reading_step r t m).ends ≡ ends_at v k t (w k).session
    unfolding shows reading_seen sees outputs output
    reading_ends = same (read.says k)
      where
        same : {n n' : ℕ} {a b : List Reply} → rules.reading n a ∷ [] ≡ rules.reading n' b ∷ [] → a ≡ b
        same e = cc

    -- a session that is not lost stays as it is
    pub reading_stays : lost k r (reading_step r t m).next ≡ false → judged_at v t (w k).session ≡ (w k).session
    unfolding lost judged_at any is_open
    reading_stays e = go (w k).session refl
      where
        after_it : is_open (judged_at v t (w k).session) ≡ open_in k (reading_step r t m).next.slots
        after_it = ap is_open (sym reading_becomes.session) ∙ open_any v (reading_step r t m).next m reading_becomes.world reading_becomes.sim k

        before : is_open (w k).session ≡ open_in k r.slots
        before = open_any v r m w sim k

        stays : (ρ : Open) (b : Bool) → not (is_open (cond b None (Some ρ))) ≡ false → cond b None (Some ρ) ≡ Some ρ
        stays ρ true z = absurd (clash true refl z)
        stays ρ false z = refl

        go : (x : Option Open) → (w k).session ≡ x → judged_at v t x ≡ x
        go None h = refl
        go (Some ρ) h =
            let a : open_in k r.slots ≡ true = sym before ∙ ap is_open h in
            let b : not (open_in k (reading_step r t m).next.slots) ≡ false = not_both (open_in k r.slots) _ e a in
            stays ρ (is_silent v t ρ) (ap not (ap (λ (y : Option Open). is_open (judged_at v t y)) (sym h) ∙ after_it) ∙ b)
