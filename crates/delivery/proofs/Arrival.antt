-- A message arrives: the theorem.
use Rattle.std.specs.Prelude.{Option}
use Prim.Native.Nat.{ℕ, zero, suc, ◌+◌, ◌/◌, ◌%◌, ◌≤◌, ◌<◌}
use mathlib.Core.Path.{◌≡◌, refl, sym, ap, ◌∙◌, subst}
use mathlib.Core.Logic.{◌⊎◌, inl, inr}
use mathlib.Core.Bool.{Bool, true, false, cond}
use mathlib.Core.List.{List, [], ◌∷◌}
use native.Mathlib.Omega.{arith}
use lib.Dec.{eqb}
use Rattle.progress.specs.declared.wait.Wait.TheVariants.{First}
use Rattle.laws.specs.Bools.{by_test}
use Rattle.transport.specs.declared.Kind.{Kind}
use Rattle.transport.specs.declared.Kind.TheVariants.{Rts, Bam}
use Rattle.isolation.specs.Replies.{Wire, Says}
use Rattle.delivery.specs.Link.{Setting, Link, Move, frames_due, step, run, start}
use Rattle.delivery.specs.Arrival.{Fair, CalmAt, Calm, works, measure, AtRest, whole, Arrives}
use Rattle.delivery.proofs.Expected.{count, Goes, kind_is, handed_by, from}
use Rattle.delivery.proofs.Sending.{transfer_at, first_grant, Gives, announced_at_lem, gives_segment, gives_eoms, none_given}
use Rattle.delivery.proofs.Stages.{flight, Stage, announcing, granting, moving, acknowledging, done, Marks, shape_at, link_at, Stands, Reached, measure_at}
use Rattle.delivery.proofs.Steps.{Step, moves}
use Rattle.transfer.specs.declared.Transfer.{Transfer}

pub full : {A : Type 0} (a : A) (l : List A) → a ∷ l ≡ [] → ⊥
full a l e = let z : ◌≡◌ {A = ℕ} 0 1 = cc in omega arith

-- where a frame is given, something is due
pub given : (s : Setting) (last : ℕ) {x y : (Option Transfer)} {f : Wire} {w : Bool} → Gives s x last (f ∷ []) y w → frames_due s x last ≡ [] → ⊥
given s last d e = full _ [] (sym d.frames ∙ e)

pub by_works : (a b : ℕ) (w : Bool) → a + cond w 1 0 ≤ b → (w ≡ true → a < b) × (w ≡ false → a ≤ b)
by_works a b true h = ((λ e. omega arith), (λ e. absurd (let z : ◌≡◌ {A = ℕ} 0 1 = cc in omega arith)))
by_works a b false h = ((λ e. absurd (let z : ◌≡◌ {A = ℕ} 0 1 = cc in omega arith)), (λ e. omega arith))

pub handed_whole : (κ : Kind) (s : Setting) → Goes κ s.key → ◌≡◌ {A = List Says} (handed_by κ s ∷ []) (whole s ∷ [])
handed_whole κ s goes = rw (kind_is κ s.key goes)

-- ---- the facts at a stage

module _ (s : Setting) (fair : Fair s) (κ : Kind) (goes : Goes κ s.key) (r : Marks) where
  once_at : (stage : Stage) → ((link_at κ s stage r).handed ≡ []) ⊎ ((link_at κ s stage r).handed ≡ whole s ∷ [])
  unfolding shape_at
  once_at (announcing n e) = inl refl
  once_at (granting j c) = inl refl
  once_at (moving j n g e) = inl refl
  once_at acknowledging = inr (handed_whole κ s goes)
  once_at done = inr (handed_whole κ s goes)

  falls_at : (stage : Stage) → Stands κ s stage → (v : Move) → CalmAt s (link_at κ s stage r) v
      → measure (step s (link_at κ s stage r) v) + cond (works s (link_at κ s stage r) v) 1 0 ≤ measure (link_at κ s stage r)
  falls_at stage st v calm =
      let q : Step κ s v stage r = moves s fair r κ goes stage st v calm in
      rw (q.same, measure_at κ s q.stage q.stands q.marks, measure_at κ s stage st r) q.falls

  -- nothing is on its way and nothing is due: only the last stage
  rest_at_lem : (stage : Stage) → Stands κ s stage → AtRest (link_at κ s stage r)
      → ((link_at κ s stage r).handed ≡ whole s ∷ []) × ((link_at κ s stage r).well ≡ true)
  unfolding shape_at flight
  rest_at_lem (announcing n e) st h = absurd (full _ _ h.forward)
  rest_at_lem (granting j c) st h = absurd (full _ _ h.backward)
  rest_at_lem (moving j (suc n) g e) st h = absurd (full _ _ h.forward)
  rest_at_lem (moving j zero g true) st h = absurd (full _ _ h.forward)
  rest_at_lem (moving j zero g false) st h = absurd (go st.unspent)
    where
      none_due : frames_due s (transfer_at κ s r.senders_mark (j + 0) g false) r.senders_last ≡ []
      none_due = none_given s (transfer_at κ s r.senders_mark (j + 0) g false) r.senders_last h.nothing

      go : (j < g) ⊎ (j ≡ count s) → ⊥
      go (inl l) = given s r.senders_last (gives_segment s r.senders_mark r.senders_last (j + 0) g κ (omega arith) st.sent.bound) none_due
      go (inr e) = given s r.senders_last (gives_eoms s r.senders_mark r.senders_last (j + 0) g κ goes (omega arith)) none_due
  rest_at_lem acknowledging st h = absurd (full _ _ h.backward)
  rest_at_lem done st h = (handed_whole κ s goes, refl)

  arrives_at : (stage : Stage) → Stands κ s stage → Arrives s (link_at κ s stage r)
  arrives_at stage st = record {
    unrefused = refl;
    once = once_at stage;
    falls = λ v calm. by_works _ _ (works s (link_at κ s stage r) v) (falls_at stage st v calm);
    arrived = rest_at_lem stage st;
  }

-- ---- links that are reached

pub reached_arrives : (s : Setting) → Fair s → (x : Link) → Reached s x → Arrives s x
reached_arrives s fair x h = subst (Arrives s) (sym h.same) (arrives_at s fair h.kind h.goes h.marks h.stage h.stands)

pub reached_step : (s : Setting) → Fair s → (x : Link) → Reached s x → (v : Move) → CalmAt s x v → Reached s (step s x v)
reached_step s fair x h v calm =
    let q : Step h.kind s v h.stage h.marks =
    moves s fair h.marks h.kind h.goes h.stage h.stands v (subst (λ (y : Link). CalmAt s y v) h.same calm) in
    record {
      kind = h.kind;
      goes = h.goes;
      stage = q.stage;
      stands = q.stands;
      marks = q.marks;
      same = ap (λ (y : Link). step s y v) h.same ∙ q.same;
    }

pub reached_run : (s : Setting) → Fair s → (vs : List Move) (x : Link) → Reached s x → Calm s x vs → Reached s (run s x vs)
unfolding run
reached_run s fair [] x h calm = h
reached_run s fair (v ∷ vs) x h calm = reached_run s fair vs (step s x v) (reached_step s fair x h v calm.0) calm.1

starts_at : (κ : Kind) (s : Setting) → Fair s → Goes κ s.key → (p q : ℕ) → Reached s (start s p q)
unfolding start shape_at flight
starts_at κ s fair goes p q = record {
  kind = κ;
  goes = goes;
  stage = announcing 0 false;
  stands = record { within = omega arith; bound = bound κ; complete = λ e. cc };
  marks = record { senders_mark = p; senders_last = p; receivers_mark = from q First; receivers_last = q };
  same = rw (announced_at_lem κ s fair goes p);
}
  where
    bound : (κ : Kind) → first_grant κ s ≤ count s
    bound Rts = omega arith
    bound Bam = omega arith

pub reached_start : (s : Setting) → Fair s → (p q : ℕ) → Reached s (start s p q)
reached_start s fair p q =
    by_test (eqb (s.key / 16 % 256) 255) (λ e. starts_at Bam s fair e p q) (λ e. starts_at Rts s fair e p q)

-- From the announcement on, however sender, receiver and calm readings take turns: no frame is refused, the message is handed over at
-- most once and whole, every frame given or taken brings the end nearer, and at rest it has been handed over and the transfer has ended
-- well.
pub arrival : (s : Setting) → Fair s → (p q : ℕ) (vs : List Move) → Calm s (start s p q) vs → Arrives s (run s (start s p q) vs)
arrival s fair p q vs calm = reached_arrives s fair (run s (start s p q) vs) (reached_run s fair vs (start s p q) (reached_start s fair p q) calm)
