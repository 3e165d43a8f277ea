-- A message arrives, from record to record: the theorem.
use Rattle.std.specs.Prelude.{None, Option, Some, ℕ}
use Prim.Native.Nat.{ℕ, ◌≤◌, ◌<◌}
use mathlib.Core.Path.{◌≡◌, refl, sym, ap, ◌∙◌, subst}
use mathlib.Core.Logic.{◌⊎◌}
use mathlib.Core.Bool.{Bool, true, false, ◌&&◌}
use mathlib.Core.List.{List, [], ◌∷◌}
use native.Mathlib.Omega.{arith}
use lib.Dec.{leb, ltb}
use borrow.Author.Tests.{leb-true}
use Rattle.laws.specs.Choice.{each_of}
use lib.ListN.{length}
use mathlib.Mathlib.Data.Bool.Basic.{and_elim_left, and_elim_right}
use Rattle.laws.specs.Bools.{clash, either_way}
use Rattle.frame.specs.declared.Address.{Address}
use Rattle.frame.specs.declared.refusal.Refusal.{Refusal}
use Rattle.frame.specs.declared.refusal.Refusal.TheVariants.{KeyNotOpen}
use Rattle.frame.specs.Pgn.{pgn_ok}
use Rattle.transport.specs.Kinds.{is_rts}
use Rattle.transfer.specs.declared.Transfer.{Transfer}
use Rattle.transfer.specs.declared.Reply.{Reply}
use Rattle.transfer.specs.declared.Reply.TheVariants as reply
use Rattle.transfer.specs.declared.Step.{Step}
use Rattle.transfer.specs.Transfers.{offer_kind, transfer_of}
use Rattle.transfer.specs.Bounds.{destination_ok, length_ok, offer_ok, course_ok, state_ok}
use Rattle.transfer.specs.Laws.{length_facts}
use Rattle.transfer.specs.Decisions.{next_frame}
use Rattle.transfer.specs.Sends.{offer_wire, sends}
use Rattle.sender_bytes.specs.Layout.{Sender}
use Rattle.sender.specs.Transfers.{key_place, state_in}
use Rattle.receiver.specs.declared.Receiver.{Receiver}
use Rattle.isolation.specs.Rules as rules
use Rattle.isolation.specs.Rules.{Values, is_open}
use Rattle.isolation.specs.Stands.{stands_for}
use Rattle.isolation.proofs.Opened.{any}
use Rattle.isolation.proofs.Many.{Sim, own_small, open_any}
use Rattle.isolation.proofs.InBounds.{bounds_sim}
use Rattle.delivery.specs.Link as link
use Rattle.delivery.specs.Link.{Setting, key_in, Link, queued, answered, offer}
use Rattle.delivery.specs.Arrival as single
use Rattle.delivery.specs.Arrival.{Fair}
use Rattle.delivery.specs.System.{System, state_for, Move, given, announced_by, start, step, run}
use Rattle.delivery.specs.Whole.{Starts, MeetsAt, Meets, measure, Arrives}
use Rattle.delivery.proofs.Wires.{reads_for, on_offer}
use Rattle.delivery.proofs.Rights.{Rights}
use Rattle.delivery.proofs.SafeSender.{Sending, sending_first}
use Rattle.delivery.proofs.Transfers.{Transfers, AllOk}
use Rattle.delivery.proofs.Stages.{Reached}
use Rattle.delivery.proofs.Arrival.{reached_arrives, reached_step, reached_start}
use Rattle.delivery.proofs.Sides.{Ready, ready_of, Accepts, accepted}
use Rattle.delivery.proofs.Follows.{link_of, Stands, link_move, moved, moved_works, MovedCalm, meets_allows, ask_called, follows, works_as, calm_as}

-- the records stand for a link that is reached
pub record Holds (s : Setting) (y : System) : Type 0 where
  pub link : Link
  pub stands : Stands s y link
  pub reached : Reached s link

-- ---- a move

module _ (s : Setting) (fair : Fair s) where
  moved_reached : (x : Link) → Reached s x → (u : Option link.Move) → MovedCalm s x u → Reached s (moved s x u)
  moved_reached x r None calm = r
  moved_reached x r (Some u) calm = reached_step s fair x r u calm

  pub holds_step : (y : System) → Holds s y → (v : Move) → MeetsAt s y v → Holds s (step s y v)
  holds_step y h v m = record {
    link = moved s h.link (link_move v);
    stands = follows s fair y h.link h.stands v (meets_allows s y v m);
    reached = moved_reached h.link h.reached (link_move v) (calm_as s fair y h.link h.stands v m);
  }

  pub holds_run : (vs : List Move) (y : System) → Holds s y → Meets s y vs → Holds s (run s y vs)
  unfolding run
  holds_run [] y h m = h
  holds_run (v ∷ vs) y h m = holds_run vs (step s y v) (holds_step y h v m.0) m.1

  -- ---- the four facts

  abbrev Falls : Link → Link → Bool → Type 0
  Falls x x' b = (b ≡ true → single.measure x' < single.measure x) × (b ≡ false → single.measure x' ≤ single.measure x)

  moved_falls : (x : Link) → Reached s x → (u : Option link.Move) → MovedCalm s x u → Falls x (moved s x u) (moved_works s x u)
  moved_falls x r None calm = ((λ t. absurd (clash false t refl)), (λ t. omega arith))
  moved_falls x r (Some u) calm = (reached_arrives s fair x r).falls u calm

  measured : (y : System) (x : Link) → Stands s y x → measure s y ≡ single.measure x
  unfolding measure single.measure
  measured y x h = ap single.measure h.same

  is_refusal : Reply → Bool
  is_refusal (reply.Announced o) = false
  is_refusal (reply.Segment n) = false
  is_refusal (reply.Status o) = false
  is_refusal reply.NothingDue = false
  is_refusal reply.Granted = false
  is_refusal (reply.Acknowledged κ) = false
  is_refusal (reply.Aborted κ) = false
  is_refusal (reply.Ended e) = false
  is_refusal (reply.Refused n) = true

  next_answers : (t : Transfer) (last : ℕ) → is_refusal (next_frame t last).reply ≡ false
  unfolding next_frame is_refusal
  next_answers t last =
      either_way Fine t.course.owed (λ _. either_way Fine (is_rts (offer_kind t.offer)) (λ _. refl) (λ _. refl))
      (λ _. either_way Fine (ltb t.course.granted.0 t.course.next.0) (λ _. refl) (λ _. refl))
    where
      Fine : Step → Type 0
      Fine st = is_refusal st.reply ≡ false

  only_16 : (x : Option Transfer) (last : ℕ) (n : Refusal) → (answered x last).reply ≡ reply.Refused n → (n ≡ KeyNotOpen) × (x ≡ None)
  unfolding answered is_refusal
  only_16 None last n e = ((cc), refl)
  only_16 (Some t) last n e = absurd (clash (is_refusal (next_frame t last).reply) (ap is_refusal e) (next_answers t last))

  pub holds_arrives : (y : System) → Holds s y → Arrives s y
  holds_arrives y h = subst (λ (x : Link). single.Arrives s x → Arrives s y) h.stands.same here (reached_arrives s fair h.link h.reached)
    where
      here : single.Arrives s (link_of s y h.stands.world) → Arrives s y
      here a = record {
        unrefused = a.unrefused;
        answered = λ n e. only_16 (state_for (key_in s) y.sender) y.sender.last n (sym (ask_called s fair y h.stands.world h.stands.fits).reply ∙ e);
        once = a.once;
        falls = λ v m.
            rw (measured y h.link h.stands, measured (step s y v) (moved s h.link (link_move v)) (follows s fair y h.link h.stands v (meets_allows s y v m)), works_as s fair y h.link h.stands v)
            (moved_falls h.link h.reached (link_move v) (calm_as s fair y h.link h.stands v m));
        arrived = λ r. a.arrived (record { forward = r.forward; backward = r.backward; nothing = r.nothing });
      }

-- ---- the start

module _ (s : Setting) (p : Sender) (r : Receiver) (m : List ℕ) (h : Starts s p r m) where
  abbrev q : Sender
  q = (announced_by s p).1

  opens : Accepts (key_in s) s.pgn (length s.message) (offer s) p (announced_by s p).1
  opens = accepted p h.sender_ready (key_in s) h.own s.pgn (length s.message) (offer s) h.accepted

  ready : Ready (announced_by s p).1
  ready = ready_of (announced_by s p).1 opens.ready

  known_ok : (l : Transfers) → AllOk l → (f : Option ℕ) → state_ok (state_in f l) ≡ true
  known_ok l a None = refl
  known_ok l a (Some i) = a i

  good_offer : offer_ok (offer s) ≡ true
  good_offer =
      and_elim_left (offer_ok (offer s)) (course_ok (offer s) (transfer_of (offer s) q.last).course)
      (subst (λ (x : Option Transfer). state_ok x ≡ true) opens.here (known_ok q.transfers ready.ok (key_place (key_in s) q.transfers)))

  sim : Sim s.values r m (stands_for r m)
  sim = subst (λ (v : Values). Sim v r m (stands_for r m)) h.values (bounds_sim r m h.receiver_ready h.eight h.store)

  its_own : r.own ≡ s.values.own
  its_own = ap (λ (v : Values). v.own) h.values

  pub fair_start : Fair s
  fair_start =
      let c = and_elim_right (destination_ok (key_in s) && pgn_ok s.pgn) (length_ok (length s.message)) good_offer in
      let d = and_elim_left (destination_ok (key_in s) && pgn_ok s.pgn) (length_ok (length s.message)) good_offer in
      let a : (key_in s).sa.0 ≤ 253 = subst (λ (a : Address). a.0 ≤ 253) (opens.own ∙ h.own) (leb-true q.own.0 253 (each_of (leb q.own.0 253 ∷ leb 1 q.limit ∷ leb q.limit 60000 ∷ []) ready.good).0) in
      let b : s.values.own.0 ≤ 253 = own_small s.values.own s.values.limits sim.good in
      record {
        some_bytes = (length_facts (length s.message) c).0;
        few_bytes = (length_facts (length s.message) c).1;
        in_form = and_elim_right (destination_ok (key_in s)) (pgn_ok s.pgn) d;
        sender = omega arith;
        receiver = omega arith;
        apart = λ e. h.apart (ap (λ (a : Address). a.0) h.own ∙ e ∙ ap (λ (a : Address). a.0) (sym its_own));
        aimed = subst (λ (a : Address). ((key_in s).da.0 ≡ a.0) ⊎ ((key_in s).da.0 ≡ 255)) its_own h.aimed;
      }

  closed : (stands_for r m s.key).session ≡ None
  unfolding any is_open
  closed = go (stands_for r m s.key).session (open_any s.values r m (stands_for r m) sim s.key ∙ h.unknown)
    where
      go : (x : Option rules.Open) → is_open x ≡ false → x ≡ None
      go None e = refl
      go (Some ρ) e = absurd (clash true refl e)

  pub stands_start : Stands s (start s p r m) (link.start s (announced_by s p).1.last r.last)
  unfolding start link.start
  stands_start = record {
    world = stands_for r m;
    fits = record {
      ready = ready;
      own = opens.own ∙ h.own;
      limit = opens.limit ∙ h.limit;
      sim = sim;
      transfer = subst (Sending s) (sym opens.here) (sending_first s q.last);
      forth = subst (Rights s) (sym announcement) (rw (reads_for s _ _ (on_offer s fair_start)) (refl, tt));
      back = tt;
    };
    same = rw (opens.here, announcement, closed);
  }
    where
      announcement : given s (announced_by s p) ≡ offer_wire (offer s) ∷ []
      announcement = ap (λ (a : Reply). queued (sends (key_in s) s.message a)) h.accepted

  pub holds_start : Holds s (start s p r m)
  holds_start = record {
    link = link.start s q.last r.last;
    stands = stands_start;
    reached = reached_start s fair_start q.last r.last;
  }

-- From an accepted announcement on, whatever calls the two ends take that meet the premises: no frame of the transfer is refused, the
-- message is handed over at most once and whole, every frame given or taken brings the end nearer, and at rest the message has been handed
-- over and the transfer has ended well; whatever else both records hold, and whatever other sessions and transfers do meanwhile.
pub arrival_of_records : (s : Setting) (p : Sender) (r : Receiver) (m : List ℕ) → Starts s p r m → (vs : List Move) → Meets s (start s p r m) vs
    → Arrives s (run s (start s p r m) vs)
arrival_of_records s p r m h vs e =
    holds_arrives s (fair_start s p r m h) (run s (start s p r m) vs) (holds_run s (fair_start s p r m h) vs (start s p r m) (holds_start s p r m h) e)
