-- What is lost is made good, or the message is not handed over, from record to record: the theorems of 02, E6.
use Rattle.std.specs.Prelude.{None, Option, Some}
use Prim.Native.Nat.{ℕ, suc, ◌≤◌, ◌<◌}
use mathlib.Core.Path.{◌≡◌, refl, sym, ap, ◌∙◌, subst}
use mathlib.Core.Logic.{inl, inr}
use mathlib.Core.Bool.{Bool, true, false}
use mathlib.Core.List.{List, [], ◌∷◌}
use native.Mathlib.Omega.{arith}
use Rattle.laws.specs.Bools.{clash}
use Rattle.transport.specs.declared.Kind.{Kind}
use Rattle.transport.specs.declared.Kind.TheVariants.{Rts, Bam}
use Rattle.transfer.specs.Transfers.{kind_of}
use Rattle.isolation.specs.Rules.{Values}
use Rattle.isolation.specs.Stands.{values_of, stands_for}
use Rattle.isolation.proofs.Many.{Sim}
use Rattle.isolation.proofs.InBounds.{sim_bounds, bounds_sim}
use Rattle.delivery.specs.Link as link
use Rattle.delivery.specs.Link.{Setting, key_in, Link}
use Rattle.delivery.specs.Arrival as single
use Rattle.delivery.specs.Arrival.{Fair}
use Rattle.delivery.specs.Losses as losses
use Rattle.delivery.specs.Losses.{remaining, RefusesOnly, HandedOver, Outcome}
use Rattle.delivery.specs.System.{System, announced_by, start}
use Rattle.delivery.specs.Whole.{AtRest}
use Rattle.delivery.specs.WholeLosses as system
use Rattle.delivery.specs.WholeLosses.{Lossy, keeps, loses_forward, loses_backward, lossy, lossy_run, AllowsAt, Allows, SafeWhole, link_in, BorneAt, Borne, Recovers, RecoversWhole, FiveLostWhole}
use Rattle.delivery.proofs.Safety.{safety}
use Rattle.delivery.proofs.Recovery.{recovery, five_lost}
use Rattle.delivery.proofs.Alike.{Alike, alike, alike_none, alike_loses, alike_answer, alike_spent}
use Rattle.delivery.proofs.Follows.{link_of, Stands, link_move, MovedCalm, meets_allows, calm_as}
use Rattle.delivery.proofs.FollowsLosses.{kept, lossy_move, lossy_moved, moved_turns, follows_lossy, turns_as}
use Rattle.delivery.proofs.Whole.{fair_start, stands_start}

-- ---- the session as the slot has it

module _ (s : Setting) (y : System) (x : Link) (h : Stands s y x) where
  sim : Sim s.values y.receiver y.store h.world
  sim = h.fits.sim

  values : values_of y.receiver ≡ s.values
  values = rw (sim.own, sim.limits)

  stood : Sim s.values y.receiver y.store (stands_for y.receiver y.store)
  stood =
      subst (λ (v : Values). Sim v y.receiver y.store (stands_for y.receiver y.store)) values
      (bounds_sim y.receiver y.store (sim_bounds s.values y.receiver y.store h.world sim) sim.eight sim.whole)

  session_alike : Alike (h.world s.key).session (link_in s y).session
  session_alike = alike s.values y.receiver y.store h.world (stands_for y.receiver y.store) sim stood s.key

  remaining_in : remaining s (link_in s y) ≡ remaining s x
  unfolding remaining
  remaining_in = subst (λ (z : Link). remaining s (link_in s y) ≡ remaining s z) h.same (rw (alike_answer s (h.world s.key).session (link_in s y).session session_alike))

  loses_in : losses.MayLoseOldest s (link_in s y).session y.forward → losses.MayLoseOldest s x.session x.forward
  loses_in l =
      subst (λ (z : Link). losses.MayLoseOldest s z.session z.forward) h.same
      (alike_loses s (h.world s.key).session (link_in s y).session session_alike y.forward l)

  outcome_in_lem : (κ : Kind) (lost : ℕ) → Outcome κ s lost x → Outcome κ s lost (link_in s y)
  outcome_in_lem Rts lost o = subst (Outcome Rts s lost) (sym h.same) o
  outcome_in_lem Bam lost o = subst (Outcome Bam s lost) (sym h.same) o

  refuses_in : (κ : Kind) (y' : System) (x' : Link) → Stands s y' x' → RefusesOnly κ s x x' → RefusesOnly κ s (link_in s y) (link_in s y')
  refuses_in Bam y' x' h' r = tt
  refuses_in Rts y' x' h' r =
      go (subst (λ (z : Link). RefusesOnly Rts s (link_of s y h.world) z) (sym h'.same) (subst (λ (z : Link). RefusesOnly Rts s z x') (sym h.same) r))
    where
      go : RefusesOnly Rts s (link_of s y h.world) (link_of s y' h'.world) → RefusesOnly Rts s (link_in s y) (link_in s y')
      go (inl e) = inl e
      go (inr (spent, e)) = inr (alike_spent s (h.world s.key).session (link_in s y).session session_alike spent, e)

  at_rest : AtRest s y → single.AtRest x
  at_rest r = subst single.AtRest h.same (record { forward = r.forward; backward = r.backward; nothing = r.nothing })

  ended_in : x.session ≡ None → (link_in s y).session ≡ None
  ended_in e = alike_none (h.world s.key).session (link_in s y).session session_alike (ap (λ (z : Link). z.session) h.same ∙ e)

-- ---- a move that is borne

abbrev MovedBorne : Setting → Link → Option losses.Lossy → Type 0
MovedBorne s x None = Unit {0}
MovedBorne s x (Some u) = losses.BorneAt s x u

kept_borne : (s : Setting) (x : Link) (u : Option link.Move) → MovedCalm s x u → MovedBorne s x (kept u)
kept_borne s x None c = tt
kept_borne s x (Some u) c = c

borne_as : (s : Setting) → Fair s → (y : System) (x : Link) → Stands s y x → (v : Lossy) → BorneAt s y v → MovedBorne s x (lossy_move v)
borne_as s fair y x h (keeps v) b = kept_borne s x (link_move v) (calm_as s fair y x h v b)
borne_as s fair y x h loses_forward b = loses_in s y x h b
borne_as s fair y x h loses_backward b = b

borne_allows : (s : Setting) (y : System) (v : Lossy) → BorneAt s y v → AllowsAt s y v
borne_allows s y (keeps v) b = meets_allows s y v b
borne_allows s y loses_forward b = tt
borne_allows s y loses_backward b = tt

all_allowed : (s : Setting) (vs : List Lossy) (y : System) → Borne s y vs → Allows s y vs
all_allowed s [] y b = tt
all_allowed s (v ∷ vs) y (b, bs) = (borne_allows s y v b, all_allowed s vs (lossy s y v) bs)

-- ---- the moves of the link that a run is

abbrev onto : Option losses.Lossy → List losses.Lossy → List losses.Lossy
onto None us = us
onto (Some u) us = u ∷ us

abbrev link_moves : List Lossy → List losses.Lossy
link_moves [] = []
link_moves (v ∷ vs) = onto (lossy_move v) (link_moves vs)

module _ (s : Setting) (x : Link) (us : List losses.Lossy) where
  run_onto : (u : Option losses.Lossy) → losses.lossy_run s (lossy_moved s x u) us ≡ losses.lossy_run s x (onto u us)
  unfolding losses.lossy_run
  run_onto None = refl
  run_onto (Some u) = refl

  borne_onto : (u : Option losses.Lossy) → MovedBorne s x u → losses.Borne s (lossy_moved s x u) us → losses.Borne s x (onto u us)
  borne_onto None b bs = bs
  borne_onto (Some u) b bs = (b, bs)

losses_kept : (u : Option link.Move) (us : List losses.Lossy) → losses.losses (onto (kept u) us) ≡ losses.losses us
unfolding losses.losses
losses_kept None us = refl
losses_kept (Some u) us = refl

losses_same : (vs : List Lossy) → losses.losses (link_moves vs) ≡ system.losses vs
unfolding losses.losses system.losses
losses_same [] = refl
losses_same (keeps v ∷ vs) = losses_kept (link_move v) (link_moves vs) ∙ losses_same vs
losses_same (loses_forward ∷ vs) = ap suc (losses_same vs)
losses_same (loses_backward ∷ vs) = ap suc (losses_same vs)

module _ (s : Setting) (fair : Fair s) where
  runs : (vs : List Lossy) (y : System) (x : Link) → Stands s y x → Allows s y vs → Stands s (lossy_run s y vs) (losses.lossy_run s x (link_moves vs))
  unfolding lossy_run
  runs [] y x h a = unfold losses.lossy_run in h
  runs (v ∷ vs) y x h (a, more) =
      subst (Stands s (lossy_run s (lossy s y v) vs)) (run_onto s x (link_moves vs) (lossy_move v))
      (runs vs (lossy s y v) (lossy_moved s x (lossy_move v)) (follows_lossy s fair y x h v a) more)

  runs_borne : (vs : List Lossy) (y : System) (x : Link) → Stands s y x → Borne s y vs → losses.Borne s x (link_moves vs)
  runs_borne [] y x h b = tt
  runs_borne (v ∷ vs) y x h (b, bs) =
      borne_onto s x (link_moves vs) (lossy_move v) (borne_as s fair y x h v b)
      (runs_borne vs (lossy s y v) (lossy_moved s x (lossy_move v)) (follows_lossy s fair y x h v (borne_allows s y v b)) bs)

-- ---- safety

-- From an accepted announcement on, whatever calls the two ends take that meet the premises, whatever is lost on either way and whatever
-- silence ends either end: nothing is handed over for the key, or the message, once.
pub safe_whole : SafeWhole
safe_whole s p r m h vs a =
    let fair : Fair s = fair_start s p r m h in
    let st = runs s fair vs (start s p r m) (link.start s (announced_by s p).1.last r.last) (stands_start s p r m h) a in
    subst (losses.Once s) (sym st.same) (safety s fair (announced_by s p).1.last r.last (link_moves vs))

-- ---- recovery

module _ (s : Setting) (fair : Fair s) (lost : ℕ) (y : System) (x : Link) (h : Stands s y x) (r : losses.Recovers s lost x) where
  abbrev Falls : Link → Link → Bool → Type 0
  Falls z z' b = (b ≡ true → remaining s z' < remaining s z) × (b ≡ false → remaining s z' ≤ remaining s z)

  moved_falls : (u : Option losses.Lossy) → MovedBorne s x u → Falls x (lossy_moved s x u) (moved_turns s x u)
  moved_falls None b = ((λ t. absurd (clash false t refl)), (λ t. omega arith))
  moved_falls (Some u) b = r.falls u b

  abbrev goes : Kind
  goes = kind_of (key_in s).da

  same_refused : (κ : Kind) → RefusesOnly κ s x x
  same_refused Rts = inl refl
  same_refused Bam = tt

  moved_refuses : (u : Option losses.Lossy) → MovedBorne s x u → RefusesOnly goes s x (lossy_moved s x u)
  moved_refuses None b = same_refused goes
  moved_refuses (Some u) b = r.refuses u b

  next : (v : Lossy) → BorneAt s y v → Stands s (lossy s y v) (lossy_moved s x (lossy_move v))
  next v b = follows_lossy s fair y x h v (borne_allows s y v b)

  recovers_in : Recovers s lost y
  recovers_in = record {
    refuses = λ v b. refuses_in s y x h goes (lossy s y v) (lossy_moved s x (lossy_move v)) (next v b) (moved_refuses (lossy_move v) (borne_as s fair y x h v b));
    falls = λ v b.
        rw (remaining_in s y x h, remaining_in s (lossy s y v) (lossy_moved s x (lossy_move v)) (next v b), turns_as s fair y x h v)
        (moved_falls (lossy_move v) (borne_as s fair y x h v b));
    rests = λ a.
        let q = r.rests (at_rest s y x h a) in
        (ended_in s y x h q.0, ap (λ (z : Link). z.transfer) h.same ∙ q.1, outcome_in_lem s y x h goes lost q.2);
  }

-- From an accepted announcement on, whatever calls the two ends take that meet the premises and whatever losses are borne: every frame
-- given, taken or lost brings the end nearer, and at rest the message has been handed over and the transfer has ended well; or six segments
-- were lost and an RTS session has ended by 21 with five requests spent, or one was and a broadcast has ended by 19 or 21.
pub recovers_whole : RecoversWhole
recovers_whole s p r m h vs b =
    let fair : Fair s = fair_start s p r m h in
    let x : Link = link.start s (announced_by s p).1.last r.last in
    let st = stands_start s p r m h in
    recovers_in s fair (system.losses vs) (lossy_run s (start s p r m) vs) (losses.lossy_run s x (link_moves vs))
    (runs s fair vs (start s p r m) x st (all_allowed s vs (start s p r m) b))
    (subst (λ (n : ℕ). losses.Recovers s n (losses.lossy_run s x (link_moves vs))) (losses_same vs)
    (recovery s fair (announced_by s p).1.last r.last (link_moves vs) (runs_borne s fair vs (start s p r m) x st b)))

pub five_lost_whole : FiveLostWhole
five_lost_whole s p r m h rts vs b few rest =
    let fair : Fair s = fair_start s p r m h in
    let x : Link = link.start s (announced_by s p).1.last r.last in
    let st = stands_start s p r m h in
    let end = runs s fair vs (start s p r m) x st (all_allowed s vs (start s p r m) b) in
    subst (HandedOver s) (sym end.same)
    (five_lost s fair rts (announced_by s p).1.last r.last (link_moves vs) (runs_borne s fair vs (start s p r m) x st b)
    (subst (λ (n : ℕ). n ≤ 5) (sym (losses_same vs)) few)
    (at_rest s (lossy_run s (start s p r m) vs) (losses.lossy_run s x (link_moves vs)) end rest))
