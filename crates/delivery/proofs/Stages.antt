-- The stages of a transfer, and the link at each: the invariant.
use Rattle.std.specs.Prelude.{None, Option, Some}
use Prim.Native.Nat.{ℕ, zero, suc, ◌+◌, ◌-◌, ◌*◌, ◌≤◌, ◌<◌}
use mathlib.Core.Path.{◌≡◌, refl, ap}
use mathlib.Core.Logic.{◌⊎◌}
use mathlib.Core.Bool.{Bool, true, false, cond}
use mathlib.Core.List.{List, [], ◌∷◌, ◌++◌}
use native.Mathlib.Omega.{arith}
use lib.ListN.{length}
use Rattle.transport.specs.declared.Kind.{Kind}
use Rattle.transport.specs.declared.Kind.TheVariants.{Rts, Bam}
use Rattle.transfer.specs.Sends.{offer_wire, segment_wire, status_wire}
use Rattle.isolation.specs.Replies.{Wire, Says}
use Rattle.isolation.specs.Rules as rules
use Rattle.delivery.specs.Link.{Setting, key_in, Link, offer}
use Rattle.delivery.specs.Arrival.{unsent, measure}
use Rattle.delivery.proofs.Wires.{cts_wire, eoma_wire}
use Rattle.delivery.proofs.Expected.{count, Goes, Silence, session_at, handed_by}
use Rattle.delivery.proofs.Sending.{transfer_at, first_grant, ended_at, Sent, unsent_at}
use Rattle.transfer.specs.declared.Transfer.{Transfer}

-- ---- on their way: segments j + 1 to j + n, then the EOMS if it has gone out

unfoldable pub flight : Setting → ℕ → ℕ → Bool → List Wire
flight s j zero false = []
flight s j zero true = status_wire (offer s) ∷ []
flight s j (suc n) e = segment_wire (key_in s) s.message (j + 1) ∷ flight s (j + 1) n e

pub flight_segment : (s : Setting) (j n i : ℕ) → i ≡ j + n → flight s j n false ++ (segment_wire (key_in s) s.message (i + 1) ∷ []) ≡ flight s j (suc n) false
unfolding flight
flight_segment s j zero i h = let z : i ≡ j = omega arith in rw z
flight_segment s j (suc n) i h =
    ap (λ (fs : List Wire). segment_wire (key_in s) s.message (j + 1) ∷ fs) (flight_segment s (j + 1) n i (omega arith))

pub flight_eoms : (s : Setting) (j n : ℕ) → flight s j n false ++ (status_wire (offer s) ∷ []) ≡ flight s j n true
unfolding flight
flight_eoms s j zero = refl
flight_eoms s j (suc n) = ap (λ (fs : List Wire). segment_wire (key_in s) s.message (j + 1) ∷ fs) (flight_eoms s (j + 1) n)

length_flight : (s : Setting) (j n : ℕ) (e : Bool) → length (flight s j n e) ≡ n + cond e 1 0
unfolding flight
length_flight s j zero false = refl
length_flight s j zero true = refl
length_flight s j (suc n) e = let ih : length (flight s (j + 1) n e) ≡ n + cond e 1 0 = length_flight s (j + 1) n e in omega arith

-- ---- the stages

pub data Stage : Type 0 where
  -- the announcement is on its way, with n segments behind it, and the EOMS behind them if it has gone out (all a broadcast's)
  announcing : (n : ℕ) (e : Bool) → Stage
  -- j segments are in; a CTS for c more is on its way back
  granting : (j c : ℕ) → Stage
  -- j segments are in, n on their way, and the EOMS behind them if it has gone out; g are granted
  moving : (j n g : ℕ) (e : Bool) → Stage
  -- handed over; the EOMA is on its way back
  acknowledging : Stage
  done : Stage

-- at each end the mark, at the receiver's with its wait, and the last reading
pub record Marks : Type 0 where
  pub senders_mark : ℕ
  pub senders_last : ℕ
  pub receivers_mark : Silence
  pub receivers_last : ℕ

-- the link at a stage, but for the readings; nothing has been refused
pub record Shape : Type 0 where
  pub transfer : Option Transfer
  pub forward : List Wire
  pub backward : List Wire
  pub session : Option rules.Open
  pub handed : List Says
  pub well : Bool

abbrev shape : Option Transfer → List Wire → List Wire → Option rules.Open → List Says → Bool → Shape
shape t fs bs x h w = record { transfer = t; forward = fs; backward = bs; session = x; handed = h; well = w }

-- a and b: the marks
unfoldable pub shape_at : Kind → Setting → ℕ → Silence → Stage → Shape
shape_at κ s a b (announcing n e) = shape (transfer_at κ s a n (first_grant κ s) e) (offer_wire (offer s) ∷ flight s 0 n e) [] None [] (ended_at κ e)
shape_at κ s a b (granting j c) = shape (transfer_at κ s a j j false) [] (cts_wire s (j + 1) c ∷ []) (Some (session_at κ s b j (j + c))) [] false
shape_at κ s a b (moving j n g e) = shape (transfer_at κ s a (j + n) g e) (flight s j n e) [] (Some (session_at κ s b j g)) [] (ended_at κ e)
shape_at κ s a b acknowledging = shape (transfer_at κ s a (count s) (count s) true) [] (eoma_wire s ∷ []) None (handed_by κ s ∷ []) false
shape_at κ s a b done = shape None [] [] None (handed_by κ s ∷ []) true

abbrev pub link_at : Kind → Setting → Stage → Marks → Link
link_at κ s stage r = record {
  transfer = (shape_at κ s r.senders_mark r.receivers_mark stage).transfer;
  forward = (shape_at κ s r.senders_mark r.receivers_mark stage).forward;
  backward = (shape_at κ s r.senders_mark r.receivers_mark stage).backward;
  session = (shape_at κ s r.senders_mark r.receivers_mark stage).session;
  handed = (shape_at κ s r.senders_mark r.receivers_mark stage).handed;
  refused = [];
  senders_last = r.senders_last;
  receivers_last = r.receivers_last;
  well = (shape_at κ s r.senders_mark r.receivers_mark stage).well;
}

-- ---- the numbers that a stage may have

-- a broadcast is granted all
abbrev pub GrantOf : Kind → Setting → ℕ → Type 0
GrantOf Rts s g = Unit {0}
GrantOf Bam s g = g ≡ count s

pub record Moving (κ : Kind) (s : Setting) (j n g : ℕ) (e : Bool) : Type 0 where
  pub sent : Sent s (j + n) g e
  -- a grant that is used up is the last one: else a CTS would be on its way
  pub unspent : (j < g) ⊎ (j ≡ count s)
  pub grant : GrantOf κ s g

abbrev pub Stands : Kind → Setting → Stage → Type 0
Stands κ s (announcing n e) = Sent s n (first_grant κ s) e
Stands Rts s (granting j c) = (1 ≤ c) × (j + c ≤ count s)
Stands Bam s (granting j c) = ⊥
Stands κ s (moving j n g e) = Moving κ s j n g e
Stands Rts s acknowledging = Unit {0}
Stands Bam s acknowledging = ⊥
Stands κ s done = Unit {0}

-- a link that the moves can reach
pub record Reached (s : Setting) (x : Link) : Type 0 where
  pub kind : Kind
  pub goes : Goes kind s.key
  pub stage : Stage
  pub stands : Stands kind s stage
  pub marks : Marks
  pub same : x ≡ link_at kind s stage marks

-- ---- the measure at each stage

unfoldable pub height : Setting → Stage → ℕ
height s (announcing n e) = 3 * ((count s - n) + cond e 0 1) + 2 * suc (n + cond e 1 0)
height s (granting j c) = 3 * ((count s - j) + 1) + 1
height s (moving j n g e) = 3 * ((count s - (j + n)) + cond e 0 1) + 2 * (n + cond e 1 0)
height s acknowledging = 1
height s done = 0

pub measure_at : (κ : Kind) (s : Setting) (stage : Stage) → Stands κ s stage → (r : Marks) → measure (link_at κ s stage r) ≡ height s stage
unfolding measure shape_at height
measure_at κ s (announcing n e) st r = rw (unsent_at κ s r.senders_mark n (first_grant κ s) e st.complete, length_flight s 0 n e) (omega arith)
measure_at Rts s (granting j c) st r = rw (unsent_at Rts s r.senders_mark j j false (λ e. cc)) (omega arith)
measure_at Bam s (granting j c) st r = absurd st
measure_at κ s (moving j n g e) st r = rw (unsent_at κ s r.senders_mark (j + n) g e st.sent.complete, length_flight s j n e) (omega arith)
measure_at Rts s acknowledging st r = rw (unsent_at Rts s r.senders_mark (count s) (count s) true (λ e. refl)) (omega arith)
measure_at Bam s acknowledging st r = absurd st
measure_at κ s done st r = unfold unsent in refl
