-- Lists of calls: the receiver and the world of rules keep step from call to call.
use Rattle.std.specs.Prelude.{Err, Ok, Result, ⊤}
use Prim.Native.Nat.{ℕ, zero, suc}
use mathlib.Core.Path.{◌≡◌, refl, sym, ap, ◌∙◌, subst}
use mathlib.Core.Bool.{Bool, true, false, cond}
use mathlib.Core.List.{List, [], ◌∷◌, ◌++◌}
use lib.Dec.{eqb}
use lib.ListN.{length, replicate}
use borrow.Author.Tests.{eq-eqb}
use Rattle.progress.specs.declared.wait.IdleLimits.{IdleLimits}
use Rattle.frame.specs.declared.Address.{Address}
use Rattle.frame.specs.declared.refusal.Refusal.TheVariants.{OutOfBounds}
use Rattle.frame.specs.Judge.{judged}
use Rattle.receiver.specs.declared.Receiver.{Receiver}
use Rattle.receiver.specs.Calls.{Elapsed}
use Rattle.slots.specs.Slots.{free_slot}
use Rattle.session.specs.Bounds.{state_ok}
use Rattle.slots.specs.Bounds.{values_ok}
use Rattle.receiver.specs.Bounds.{in_bounds, opened, opened_with}
use Rattle.receiver.specs.Calls.{Outcome, refused, is_ready, on_verdict, frame_all, reading_kept, reading_step, stays}
use Rattle.isolation.specs.OwnFrames.{key_at, frame_key, body_of}
use Rattle.isolation.specs.Rules.{Values, State, fresh, Input, Seen, next_state, output, outputs}
use Rattle.isolation.specs.World.{Event, frame, clock, Call, lent, elsewhere, World, sees, after, world_after, told}
use Rattle.isolation.specs.Observe.{touches, lost, strays, ending_of, endings_of, reading_seen, is_bounds_refusal, frame_elsewhere, reading_elsewhere, shows, record_after, store_after, observed}
use Rattle.isolation.proofs.Tests.{clash, both}
use Rattle.isolation.proofs.Slots.{at, holds, holds_free}
use Rattle.isolation.proofs.Read.{Agrees, frame_agrees}
use Rattle.isolation.proofs.Many.{Sim, same_sim, kept_open, FrameKeeps, frame_keeps, reading_next, reading_says}
use Rattle.isolation.proofs.InBounds.{sim_bounds}
use Rattle.frame.specs.declared.refusal.Refusal.{Refusal}

-- ---- one call

-- what a call must keep
pub record Keeps (v : Values) (r : Receiver) (m : List ℕ) (w : World) (c : Call) : Type 0 where
  pub next : Sim v (record_after r m c) (store_after r m c) (world_after v w c)
  pub says : (k : ℕ) → shows v k r m c ≡ outputs v k (w k) (sees v w k c)

-- a call that is lent another buffer is refused with 23, and changes nothing
pub frame_elsewhere_lem : (r : Receiver) (id : ℕ) (d b : List ℕ) → eqb (length b) 32768 ≡ false → frame_all r id d b ≡ (refused r OutOfBounds, b)
unfolding frame_all
frame_elsewhere_lem r id d b e = rw e

pub reading_elsewhere_lem : (r : Receiver) (t : ℕ) (b : List ℕ) → eqb (length b) 32768 ≡ false
    → reading_step r t b ≡ record { next = r; answer = Err OutOfBounds; ends = replicate 8 stays }
unfolding reading_step
reading_elsewhere_lem r t b e = rw e

nothing_ends : (k : ℕ) → endings_of k (replicate 8 stays) ≡ []
unfolding endings_of ending_of
nothing_ends k = refl

module _ (v : Values) (r : Receiver) (m : List ℕ) (w : World) (sim : Sim v r m w) where
  ready : is_ready r m ≡ true
  ready = both (eqb (length m) 32768) (in_bounds r) (eq-eqb (length m) 32768 sim.whole) (sim_bounds v r m w sim)

  frame_is : (id : ℕ) (d : List ℕ) → frame_all r id d m ≡ on_verdict (judged r.own id (length d)) r d m
  unfolding frame_all
  frame_is id d = ap (λ (t : Bool). cond t (on_verdict (judged r.own id (length d)) r d m) (refused r OutOfBounds, m)) ready

  reading_is : (t : ℕ) → reading_step r t m ≡ reading_kept r t
  unfolding reading_step
  reading_is t = ap (λ (b : Bool). cond b (reading_kept r t) (record { next = r; answer = Err OutOfBounds; ends = replicate 8 stays })) ready

  frame_kept : (id : ℕ) (d : List ℕ) → FrameKeeps v r w id d (frame_all r id d m)
  frame_kept id d =
      subst (λ (o : Outcome). FrameKeeps v r w id d o) (sym (frame_is id d))
      (frame_keeps v r m w sim id d (on_verdict (judged r.own id (length d)) r d m)
      (subst (λ (a : Address). Agrees r d m (key_at (frame_key id d)) (on_verdict (judged r.own id (length d)) r d m) (body_of a id d)) sim.own (frame_agrees r id d m)))

  not_lost : (k : ℕ) → lost k r r ≡ false
  not_lost k = kept_open v r r m m w w sim sim k refl

  -- the rules see nothing of a call that is lent another buffer
  world_elsewhere : (b : List ℕ) (e : eqb (length b) 32768 ≡ false) (c : Event) → Sim v r m (world_after v w (elsewhere b e c))
  unfolding world_after sees after
  world_elsewhere b e c = same_sim v r m w (world_after v w (elsewhere b e c)) sim (λ j. refl) (λ j. refl)

  frame_else : (id : ℕ) (d b : List ℕ) (e : eqb (length b) 32768 ≡ false) → Keeps v r m w (elsewhere b e (frame id d))
  unfolding shows record_after store_after frame_elsewhere is_bounds_refusal strays touches sees outputs
  frame_else id d b e = record {
    next = subst (λ (o : Outcome). Sim v o.0.next m (world_after v w (elsewhere b e (frame id d)))) (sym (frame_elsewhere_lem r id d b e)) (world_elsewhere b e (frame id d));
    says = λ k. ap (frame_elsewhere v k r id d) (frame_elsewhere_lem r id d b e) ∙ rw (not_lost k);
  }

  reading_else : (t : ℕ) (b : List ℕ) (e : eqb (length b) 32768 ≡ false) → Keeps v r m w (elsewhere b e (clock t))
  unfolding shows record_after store_after reading_elsewhere sees outputs
  reading_else t b e = record {
    next = subst (λ (o : Elapsed). Sim v o.next m (world_after v w (elsewhere b e (clock t)))) (sym (reading_elsewhere_lem r t b e)) (world_elsewhere b e (clock t));
    says = λ k. ap (reading_elsewhere k r) (reading_elsewhere_lem r t b e) ∙ rw (not_lost k, nothing_ends k);
  }

  pub keeps : (c : Call) → Keeps v r m w c
  unfolding shows record_after store_after
  keeps (lent (frame id d)) = record { next = (frame_kept id d).next; says = (frame_kept id d).says }
  keeps (lent (clock t)) = record {
    next = subst (λ (e : Elapsed). Sim v e.next m (world_after v w (lent (clock t)))) (sym (reading_is t)) (reading_next v r m w sim t);
    says = λ k. ap (reading_seen k) (reading_is t) ∙ reading_says v r m w sim t k;
  }
  keeps (elsewhere b e (frame id d)) = frame_else id d b e
  keeps (elsewhere b e (clock t)) = reading_else t b e

-- ---- a list of calls

outputs_append : (v : Values) (k : ℕ) (xs ys : List Input) (s : State) → outputs v k s (xs ++ ys) ≡ outputs v k s xs ++ outputs v k (after v k s xs) ys
unfolding outputs after
outputs_append v k [] ys s = refl
outputs_append v k (x ∷ xs) ys s = ap (λ (l : List Seen). output v k s x ∷ l) (outputs_append v k xs ys (next_state v k s x))

pub run : (v : Values) (k : ℕ) (cs : List Call) (r : Receiver) (m : List ℕ) (w : World) → Sim v r m w → observed v k r m cs ≡ outputs v k (w k) (told v w k cs)
unfolding observed told outputs world_after
run v k [] r m w sim = refl
run v k (c ∷ cs) r m w sim =
    rw ((keeps v r m w sim c).says k, run v k cs (record_after r m c) (store_after r m c) (world_after v w c) (keeps v r m w sim c).next)
    (sym (outputs_append v k (sees v w k c) (told v (world_after v w c) k cs) (w k)))

-- ---- the opening

nobody : (n i k : ℕ) → holds k (at (replicate n free_slot) i) ≡ false
nobody zero i k = holds_free k
nobody (suc n) zero k = holds_free k
nobody (suc n) (suc i) k = nobody n i k

all_free : (own : Address) (n i : ℕ) → state_ok own (at (replicate n free_slot) i) ≡ true
all_free own zero i = refl
all_free own (suc n) zero = refl
all_free own (suc n) (suc i) = all_free own n i

pub open_sim : (own : Address) (limits : IdleLimits) (first : ℕ) (m : List ℕ) → values_ok own limits ≡ true → length m ≡ 32768
    → Sim (record { own = own; limits = limits }) (opened_with own limits first) m (λ j. fresh first)
open_sim own limits first m g h = record {
  good = g;
  own = refl;
  limits = refl;
  eight = refl;
  whole = h;
  last = λ k. refl;
  held = λ i k e. absurd (clash (holds k (at (replicate 8 free_slot) i)) e (nobody 8 i k));
  shut = λ k e. refl;
  uniq = λ i j k e f. absurd (clash (holds k (at (replicate 8 free_slot) i)) e (nobody 8 i k));
  ok = all_free own 8;
}

is_accepted : Result ⊤ Refusal → Bool
is_accepted (Ok tt) = true
is_accepted (Err n) = false

pub accepted_ok : (own : Address) (limits : IdleLimits) (first : ℕ) → (opened own limits first).answer ≡ Ok tt → values_ok own limits ≡ true
unfolding opened is_accepted
accepted_ok own limits first e = go (values_ok own limits) (ap is_accepted e)
  where
    go : (t : Bool) → is_accepted (cond t (Ok tt) (Err OutOfBounds)) ≡ true → t ≡ true
    go true e = refl
    go false e = absurd (clash false e refl)
