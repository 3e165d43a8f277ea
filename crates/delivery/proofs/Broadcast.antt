-- A broadcast that loses data: handed over, or ended by 19 or 21.
use Rattle.std.specs.Prelude.{None, Option, Some}
use Prim.Native.Nat.{ℕ, zero, suc, ◌+◌, ◌≤◌, ◌<◌}
use mathlib.Core.Path.{◌≡◌, refl, sym, subst}
use mathlib.Core.Logic.{◌⊎◌, inl, inr}
use mathlib.Core.Bool.{Bool, true, false, cond, or-false}
use mathlib.Core.List.{List, [], ◌∷◌, ◌++◌, append-nil}
use native.Mathlib.Omega.{arith}
use native.Mathlib.Decide.{ℕ_discrete, dec_lt}
use Rattle.progress.specs.declared.wait.Wait.TheVariants.{Second}
use Rattle.transport.specs.declared.Kind.{Kind}
use Rattle.transport.specs.declared.Kind.TheVariants.{Bam}
use Rattle.transfer.specs.Transfers.{kind_of}
use Rattle.transfer.specs.Sends.{offer_wire, segment_wire, status_wire}
use Rattle.isolation.specs.Replies.{Wire, Says}
use Rattle.isolation.specs.Rules as rules
use Rattle.delivery.specs.Link.{Setting, key_in, Link, Move, ask, take_forward, take_backward, read_sender, read_receiver, frames_due, asked, at_receiver, taken_forward, taken_backward, read, step, start, offer}
use Rattle.delivery.specs.Arrival.{Fair, works, AtRest}
use Rattle.delivery.specs.Losses.{Lossy, keeps, loses_forward, loses_backward, queues, lossy, lossy_run, BorneAt, Borne, losses, turns, to_send, to_answer, forth, remaining, RefusesOnly, Outcome, Recovers}
use Rattle.delivery.proofs.Expected.{count, Goes, kind_is, Silence, session_at, from, on_announcement, on_segment_bam, handed_by, on_eoms, later_segment, early_eoms, closed_segment, closed_eoms, answers_none}
use Rattle.delivery.proofs.Sending.{transfer_at, announced_at_lem, Gives, ended_at, gives_segment, gives_eoms, Sent, Due, next, final, nothing, what_is_due, ended_gives_none, none_given, broadcast_ended, kept, send_ended, send_broadcast}
use Rattle.delivery.proofs.Stages.{flight, flight_segment, flight_eoms, Marks}
use Rattle.delivery.proofs.Steps.{sends, takes}
use Rattle.delivery.proofs.Arrival.{full, given, by_works, handed_whole}
use Rattle.delivery.proofs.Frames.{offer_kept, status_kept, forth_offer, forth_segment, forth_status, forth_flight, calm_sender, calm_receiver, calm_backward}
use Rattle.transfer.specs.declared.Transfer.{Transfer}

-- ---- of both kinds

-- k segments were lost before the move
abbrev pub lost_by : ℕ → Lossy → ℕ
lost_by k (keeps v) = k
lost_by k loses_forward = suc k
lost_by k loses_backward = suc k

pub lost_by_lem : (k : ℕ) (v : Lossy) (vs : List Lossy) → lost_by k v + losses vs ≡ k + losses (v ∷ vs)
unfolding losses
lost_by_lem k (keeps v) vs = refl
lost_by_lem k loses_forward vs = omega arith
lost_by_lem k loses_backward vs = omega arith

-- a reading at either end
abbrev pub sender_reads : ℕ → Marks → Marks
sender_reads t m = record { senders_mark = m.senders_mark; senders_last = t; receivers_mark = m.receivers_mark; receivers_last = m.receivers_last }

abbrev pub receiver_reads : ℕ → Marks → Marks
receiver_reads t m = record { senders_mark = m.senders_mark; senders_last = m.senders_last; receivers_mark = m.receivers_mark; receivers_last = t }

-- a session that is closed sends no CTS
pub answers_closed : (s : Setting) → to_answer s None ≡ 0
unfolding to_answer
answers_closed s = refl

-- the facts, said of a kind
pub recovers_as : (κ : Kind) (s : Setting) → Goes κ s.key → (k : ℕ) (x : Link)
    → ((v : Lossy) → BorneAt s x v → RefusesOnly κ s x (lossy s x v))
    → ((v : Lossy) → BorneAt s x v → remaining s (lossy s x v) + cond (turns s x v) 1 0 ≤ remaining s x)
    → (AtRest x → (x.session ≡ None) × (x.transfer ≡ None) × Outcome κ s k x)
    → Recovers s k x
recovers_as κ s goes k x refuses falls rests = record {
  refuses = λ v h. subst (λ (κ : Kind). RefusesOnly κ s x (lossy s x v)) here (refuses v h);
  falls = λ v h. by_works _ _ (turns s x v) (falls v h);
  rests = λ h. let o = rests h in (o.0, o.1, subst (λ (κ : Kind). Outcome κ s k x) here o.2);
}
  where
    here : κ ≡ kind_of (key_in s).da
    here = sym (kind_is κ s.key goes)

-- ---- the stages; on their way are segments j + 1 to j + n, and the EOMS behind them if it has gone out

data Held : Type 0 where
  -- the announcement is on its way before them
  unopened : Held
  -- segments 1 to a are in
  holding : (a : ℕ) → Held
  -- the session has ended, with these refusals
  lost : (c : ℕ) (rs : List ℕ) → Held

data Stage : Type 0 where
  going : (h : Held) (j n : ℕ) (e : Bool) → Stage
  over : (c : ℕ) (rs : List ℕ) → Stage
  done : Stage

abbrev behind : Setting → Held → List Wire → List Wire
behind s unopened fs = offer_wire (offer s) ∷ fs
behind s (holding a) fs = fs
behind s (lost c rs) fs = fs

abbrev session_of : Setting → Silence → Held → Option rules.Open
session_of s q unopened = None
session_of s q (holding a) = Some (session_at Bam s q a (count s))
session_of s q (lost c rs) = None

abbrev refused_of : Held → List ℕ
refused_of unopened = []
refused_of (holding a) = []
refused_of (lost c rs) = c ∷ rs

record Shape : Type 0 where
  transfer : Option Transfer
  forward : List Wire
  session : Option rules.Open
  handed : List Says
  refused : List ℕ
  well : Bool

-- p and q: the marks
unfoldable shape_at : Setting → ℕ → Silence → Stage → Shape
shape_at s p q (going h j n e) = record {
  transfer = transfer_at Bam s p (j + n) (count s) e;
  forward = behind s h (flight s j n e);
  session = session_of s q h;
  handed = [];
  refused = refused_of h;
  well = ended_at Bam e;
}
shape_at s p q (over c rs) = record { transfer = None; forward = []; session = None; handed = []; refused = c ∷ rs; well = true }
shape_at s p q done = record { transfer = None; forward = []; session = None; handed = handed_by Bam s ∷ []; refused = []; well = true }

abbrev link_at : Setting → Stage → Marks → Link
link_at s stage m = record {
  transfer = (shape_at s m.senders_mark m.receivers_mark stage).transfer;
  forward = (shape_at s m.senders_mark m.receivers_mark stage).forward;
  backward = [];
  session = (shape_at s m.senders_mark m.receivers_mark stage).session;
  handed = (shape_at s m.senders_mark m.receivers_mark stage).handed;
  refused = (shape_at s m.senders_mark m.receivers_mark stage).refused;
  senders_last = m.senders_last;
  receivers_last = m.receivers_last;
  well = (shape_at s m.senders_mark m.receivers_mark stage).well;
}

-- ended by 19 or 21, for which one of k lost segments is needed
abbrev Broken : ℕ → ℕ → Type 0
Broken c k = ((c ≡ 19) ⊎ (c ≡ 21)) × (1 ≤ k)

-- what is in, after j of which k were lost
abbrev Right : Held → ℕ → ℕ → Type 0
Right unopened j k = j ≡ 0
Right (holding a) j k = (a ≤ j) × (j ≤ a + k)
Right (lost c rs) j k = Broken c k

abbrev Stands : Setting → ℕ → Stage → Type 0
Stands s k (going h j n e) = Sent s (j + n) (count s) e × Right h j k
Stands s k (over c rs) = Broken c k
Stands s k done = Unit {0}

-- ---- from a stage a move led to x; w: it gave, took or lost a frame; k segments have been lost by then

record Moved (s : Setting) (k : ℕ) (before : Stage) (m : Marks) (x : Link) (w : Bool) : Type 0 where
  stage : Stage
  stands : Stands s k stage
  marks : Marks
  same : x ≡ link_at s stage marks
  falls : remaining s (link_at s stage marks) + cond w 1 0 ≤ remaining s (link_at s before m)

still : (s : Setting) (k : ℕ) (stage : Stage) → Stands s k stage → (m : Marks) → Moved s k stage m (link_at s stage m) false
still s k stage st m = record { stage = stage; stands = st; marks = m; same = refl; falls = omega arith }

becomes : {s : Setting} {k : ℕ} {before : Stage} {m : Marks} {x : Link} (stage : Stage) (m' : Marks) → Stands s k stage → x ≡ link_at s stage m'
    → remaining s (link_at s stage m') < remaining s (link_at s before m) → Moved s k before m x true
becomes stage m' st e l = record { stage = stage; stands = st; marks = m'; same = e; falls = omega arith }

abbrev Step : Setting → ℕ → Lossy → Stage → Marks → Type 0
Step s k v stage m = Moved s (lost_by k v) stage m (lossy s (link_at s stage m) v) (turns s (link_at s stage m) v)

-- by a move of the link
abbrev Kept : Setting → ℕ → Move → Stage → Marks → Type 0
Kept s k v stage m = Moved s k stage m (step s (link_at s stage m) v) (works s (link_at s stage m) v)

-- ---- asking

nothing_due : (s : Setting) (k : ℕ) (stage : Stage) → Stands s k stage → (m : Marks)
    → Gives s (link_at s stage m).transfer m.senders_last [] (link_at s stage m).transfer false → Kept s k ask stage m
unfolding step works asked
nothing_due s k stage st m d =
    rw (d.frames, d.leaves, d.ends, append-nil (link_at s stage m).forward, or-false (link_at s stage m).well) (still s k stage st m)

behind_more : (s : Setting) (h : Held) (fs gs : List Wire) → behind s h fs ++ gs ≡ behind s h (fs ++ gs)
behind_more s unopened fs gs = refl
behind_more s (holding a) fs gs = refl
behind_more s (lost c rs) fs gs = refl

module _ (s : Setting) (fair : Fair s) (goes : Goes Bam s.key) (k : ℕ) (m : Marks) where
  -- what stands before the flight weighs the same before and after
  forth_behind : (h : Held) (fs gs : List Wire) → forth s (behind s h gs) + forth s fs ≡ forth s (behind s h fs) + forth s gs
  forth_behind unopened fs gs = let a = forth_offer s fair fs in let b = forth_offer s fair gs in omega arith
  forth_behind (holding a) fs gs = omega arith
  forth_behind (lost c rs) fs gs = omega arith

  ended : (mark i : ℕ) → to_send (transfer_at Bam s mark i (count s) true) ≡ 0
  ended mark i = rw (broadcast_ended s mark i (count s)) send_ended

  asks : (stage : Stage) → Stands s k stage → Kept s k ask stage m
  unfolding step works asked shape_at remaining
  asks (going h j n e) (st, o) = go (what_is_due Bam s goes m.senders_mark m.senders_last (j + n) (count s) e st) st
    where
      go : {e : Bool} → Due Bam s m.senders_mark m.senders_last (j + n) (count s) e → Sent s (j + n) (count s) e → Kept s k ask (going h j n e) m
      go (next l d) st =
          let z : j + n + 1 ≡ j + suc n = omega arith in
          let a = forth_flight s fair j n false (omega arith) in
          let b = forth_flight s fair j (suc n) false (omega arith) in
          let c = forth_behind h (flight s j n false) (flight s j (suc n) false) in
          let f = send_broadcast s m.senders_mark (j + n) (omega arith) in
          let g = send_broadcast s m.senders_last (j + suc n) (omega arith) in
          rw (d.frames, d.leaves, d.ends, behind_more s h (flight s j n false) (segment_wire (key_in s) s.message (j + n + 1) ∷ []), flight_segment s j n (j + n) refl, z)
          (becomes (going h j (suc n) false) (sends m) (record { within = omega arith; bound = omega arith; complete = λ e. cc }, o) refl (omega arith))
      go (final i d) st =
          let a = forth_flight s fair j n false (omega arith) in
          let b = forth_flight s fair j n true (omega arith) in
          let c = forth_behind h (flight s j n false) (flight s j n true) in
          let f = send_broadcast s m.senders_mark (j + n) (omega arith) in
          let g = ended m.senders_last (j + n) in
          rw (d.frames, d.leaves, d.ends, behind_more s h (flight s j n false) (status_wire (offer s) ∷ []), flight_eoms s j n)
          (becomes (going h j n true) (sends m) (record { within = st.within; bound = st.bound; complete = λ e. i }, o) refl (omega arith))
      go (nothing {e = e} d) st = nothing_due s k (going h j n e) (st, o) m d
  asks (over c rs) st = nothing_due s k (over c rs) st m (ended_gives_none s m.senders_last)
  asks done st = nothing_due s k done st m (ended_gives_none s m.senders_last)

  -- ---- the receiver takes the oldest frame

  takes_announcement : (j n : ℕ) (e : Bool) → Sent s (j + n) (count s) e → j ≡ 0 → Kept s k take_forward (going unopened j n e) m
  unfolding step works taken_forward at_receiver shape_at remaining
  takes_announcement j n e st z =
      let a = answers_none s (from m.receivers_last Second) 0 (count s) in
      let b = answers_closed s in
      let c = forth_offer s fair (flight s j n e) in
      rw (on_announcement s fair Bam goes m.receivers_last) (becomes (going (holding 0) j n e) (takes Second m) (st, (omega arith, omega arith)) refl (omega arith))

  module _ (j n : ℕ) (e : Bool) (st : Sent s (j + suc n) (count s) e) where
    one_less : Sent s (j + 1 + n) (count s) e
    one_less = let z : j + suc n ≡ j + 1 + n = omega arith in rw z at st

    -- a segment is there to come
    comes : j < count s
    comes = let w : j + suc n ≤ count s = st.within in omega arith

    takes_next : (a : ℕ) → a ≡ j → Kept s k take_forward (going (holding a) j (suc n) e) m
    unfolding step works taken_forward at_receiver shape_at remaining flight
    takes_next a i =
        let z : j + suc n ≡ j + 1 + n = omega arith in
        let b = answers_none s m.receivers_mark j (count s) in
        let c = answers_none s (from m.receivers_last Second) (j + 1) (count s) in
        let d = forth_segment s fair j comes (flight s (j + 1) n e) in
        rw (i, on_segment_bam s fair m.receivers_last m.receivers_mark j (count s) comes, z)
        (becomes (going (holding (j + 1)) (j + 1) n e) (takes Second m) (one_less, (omega arith, omega arith)) refl (rw z (omega arith)))

    takes_later : (a : ℕ) → a < j → j ≤ a + k → Kept s k take_forward (going (holding a) j (suc n) e) m
    unfolding step works taken_forward at_receiver shape_at remaining flight
    takes_later a l h =
        let z : j + suc n ≡ j + 1 + n = omega arith in
        let b = answers_none s m.receivers_mark a (count s) in
        let c = answers_closed s in
        let d = forth_segment s fair j comes (flight s (j + 1) n e) in
        rw (later_segment s fair m.receivers_last m.receivers_mark a j (count s) l comes, z)
        (becomes (going (lost 19 []) (j + 1) n e) m (one_less, (inl refl, omega arith)) refl (rw z (omega arith)))

    takes_lost : (c : ℕ) (rs : List ℕ) → Broken c k → Kept s k take_forward (going (lost c rs) j (suc n) e) m
    unfolding step works taken_forward at_receiver shape_at remaining flight
    takes_lost c rs i =
        let z : j + suc n ≡ j + 1 + n = omega arith in
        let d = forth_segment s fair j comes (flight s (j + 1) n e) in
        rw (closed_segment s fair m.receivers_last m.receivers_mark j comes, z)
        (becomes (going (lost c (rs ++ (16 ∷ []))) (j + 1) n e) m (one_less, i) refl (rw z (omega arith)))

    -- ---- or it is lost

    loses_held : (a : ℕ) → a ≤ j → j ≤ a + k → Step s k loses_forward (going (holding a) j (suc n) e) m
    unfolding lossy turns queues shape_at remaining flight
    loses_held a l h =
        let z : j + suc n ≡ j + 1 + n = omega arith in
        let d = forth_segment s fair j comes (flight s (j + 1) n e) in
        rw z (becomes (going (holding a) (j + 1) n e) m (one_less, (omega arith, omega arith)) refl (rw z (omega arith)))

    loses_lost : (c : ℕ) (rs : List ℕ) → Broken c k → Step s k loses_forward (going (lost c rs) j (suc n) e) m
    unfolding lossy turns queues shape_at remaining flight
    loses_lost c rs (i, o) =
        let z : j + suc n ≡ j + 1 + n = omega arith in
        let d = forth_segment s fair j comes (flight s (j + 1) n e) in
        rw z (becomes (going (lost c rs) (j + 1) n e) m (one_less, (i, omega arith)) refl (rw z (omega arith)))

  -- ---- the EOMS

  module _ (j : ℕ) where
    eoms_whole : (a : ℕ) → a ≡ count s → Kept s k take_forward (going (holding a) j 0 true) m
    unfolding step works taken_forward at_receiver shape_at remaining flight
    eoms_whole a i =
        let b = answers_closed s in
        let c = forth_status s fair [] in
        let f = send_ended in
        rw (i, on_eoms s fair Bam m.receivers_last m.receivers_mark (count s), broadcast_ended s m.senders_mark (j + 0) (count s))
        (becomes done m tt refl (omega arith))

    eoms_early : (a : ℕ) → a < count s → 1 ≤ k → Kept s k take_forward (going (holding a) j 0 true) m
    unfolding step works taken_forward at_receiver shape_at remaining flight
    eoms_early a l o =
        let b = answers_closed s in
        let c = forth_status s fair [] in
        let f = send_ended in
        rw (early_eoms s fair m.receivers_last m.receivers_mark a (count s) l, broadcast_ended s m.senders_mark (j + 0) (count s))
        (becomes (over 21 []) m (inr refl, o) refl (omega arith))

    eoms_lost : (c : ℕ) (rs : List ℕ) → Broken c k → Kept s k take_forward (going (lost c rs) j 0 true) m
    unfolding step works taken_forward at_receiver shape_at remaining flight
    eoms_lost c rs i =
        let b = forth_status s fair [] in
        let f = send_ended in
        rw (closed_eoms s fair m.receivers_last m.receivers_mark, broadcast_ended s m.senders_mark (j + 0) (count s))
        (becomes (over c (rs ++ (16 ∷ []))) m i refl (omega arith))

  takes_forward : (stage : Stage) → Stands s k stage → Kept s k take_forward stage m
  unfolding step works taken_forward shape_at flight
  takes_forward (going unopened j n e) (st, i) = takes_announcement j n e st i
  takes_forward (going (holding a) j (suc n) e) (st, (l, u)) = go (ℕ_discrete a j)
    where
      go : Dec (a ≡ j) → Kept s k take_forward (going (holding a) j (suc n) e) m
      go (yes i) = takes_next j n e st a i
      go (no i) = takes_later j n e st a (omega arith) u
  takes_forward (going (holding a) j zero true) (st, (l, u)) = go (ℕ_discrete a (count s)) st.within (st.complete refl)
    where
      go : Dec (a ≡ count s) → j + 0 ≤ count s → j + 0 ≡ count s → Kept s k take_forward (going (holding a) j zero true) m
      go (yes i) w z = eoms_whole j a i
      go (no i) w z = eoms_early j a (omega arith) (omega arith)
  takes_forward (going (holding a) j zero false) st = still s k (going (holding a) j zero false) st m
  takes_forward (going (lost c rs) j (suc n) e) (st, i) = takes_lost j n e st c rs i
  takes_forward (going (lost c rs) j zero true) (st, i) = eoms_lost j c rs i
  takes_forward (going (lost c rs) j zero false) st = still s k (going (lost c rs) j zero false) st m
  takes_forward (over c rs) st = still s k (over c rs) st m
  takes_forward done st = still s k done st m

  -- ---- every borne move

  loses : (stage : Stage) → Stands s k stage → BorneAt s (link_at s stage m) loses_forward → Step s k loses_forward stage m
  unfolding shape_at flight
  loses (going unopened j n e) st h = absurd (offer_kept s fair None (flight s j n e) h)
  loses (going (holding a) j (suc n) e) (st, (l, u)) h = loses_held j n e st a l u
  loses (going (holding a) j zero true) st h = absurd (status_kept s fair (Some (session_at Bam s m.receivers_mark a (count s))) [] h)
  loses (going (holding a) j zero false) st h = absurd h
  loses (going (lost c rs) j (suc n) e) (st, i) h = loses_lost j n e st c rs i
  loses (going (lost c rs) j zero true) st h = absurd (status_kept s fair None [] h)
  loses (going (lost c rs) j zero false) st h = absurd h
  loses (over c rs) st h = absurd h
  loses done st h = absurd h

  by_step : (v : Move) (stage : Stage) → lossy s (link_at s stage m) (keeps v) ≡ step s (link_at s stage m) v → Kept s k v stage m → Step s k (keeps v) stage m
  unfolding turns
  by_step v stage e h = rw e h

  reads : (stage : Stage) → Stands s k stage → (p q : ℕ) → Moved s k stage m (link_at s stage (receiver_reads q (sender_reads p m))) false
  unfolding remaining
  reads stage st p q = record { stage = stage; stands = st; marks = receiver_reads q (sender_reads p m); same = refl; falls = omega arith }

  moves : (stage : Stage) → Stands s k stage → (v : Lossy) → BorneAt s (link_at s stage m) v → Step s k v stage m
  unfolding lossy turns step works read taken_backward
  moves stage st (keeps ask) h = asks stage st
  moves stage st (keeps take_forward) h = takes_forward stage st
  moves stage st (keeps take_backward) h = by_step take_backward stage (calm_backward s (link_at s stage m) refl) (still s k stage st m)
  moves stage st (keeps (read_sender t)) h =
      by_step (read_sender t) stage (calm_sender s (link_at s stage m) t h)
      (rw (kept s.limit t (link_at s stage m).transfer h) (reads stage st t m.receivers_last))
  moves stage st (keeps (read_receiver t)) h =
      by_step (read_receiver t) stage (calm_receiver s (link_at s stage m) t h) (rw h (reads stage st m.senders_last t))
  moves stage st loses_forward h = loses stage st h
  moves stage st loses_backward h = absurd h

  -- ---- the facts at a stage

  due_more : (i : ℕ) → Sent s i (count s) false → frames_due s (transfer_at Bam s m.senders_mark i (count s) false) m.senders_last ≡ [] → ⊥
  due_more i st h = go (dec_lt i (count s)) st.within
    where
      go : Dec (i < count s) → i ≤ count s → ⊥
      go (yes l) w = given s m.senders_last (gives_segment s m.senders_mark m.senders_last i (count s) Bam l (omega arith)) h
      go (no l) w = given s m.senders_last (gives_eoms s m.senders_mark m.senders_last i (count s) Bam goes (omega arith)) h

  rest_at_lem : (stage : Stage) → Stands s k stage → AtRest (link_at s stage m)
      → ((link_at s stage m).session ≡ None) × ((link_at s stage m).transfer ≡ None) × Outcome Bam s k (link_at s stage m)
  unfolding shape_at flight
  rest_at_lem (going unopened j n e) st h = absurd (full _ _ h.forward)
  rest_at_lem (going (holding a) j (suc n) e) st h = absurd (full _ _ h.forward)
  rest_at_lem (going (holding a) j zero true) st h = absurd (full _ _ h.forward)
  rest_at_lem (going (holding a) j zero false) (st, i) h = absurd (due_more (j + 0) st (none_given s _ m.senders_last h.nothing))
  rest_at_lem (going (lost c rs) j (suc n) e) st h = absurd (full _ _ h.forward)
  rest_at_lem (going (lost c rs) j zero true) st h = absurd (full _ _ h.forward)
  rest_at_lem (going (lost c rs) j zero false) (st, i) h = absurd (due_more (j + 0) st (none_given s _ m.senders_last h.nothing))
  rest_at_lem (over c rs) (i, o) h = (refl, refl, inr (refl, refl, i, o))
  rest_at_lem done st h = (refl, refl, inl (handed_whole Bam s goes, refl, refl))

  falls_at : (stage : Stage) → Stands s k stage → (v : Lossy) → BorneAt s (link_at s stage m) v
      → remaining s (lossy s (link_at s stage m) v) + cond (turns s (link_at s stage m) v) 1 0 ≤ remaining s (link_at s stage m)
  falls_at stage st v h = let q : Step s k v stage m = moves stage st v h in rw q.same q.falls

  recovers_at : (stage : Stage) → Stands s k stage → Recovers s k (link_at s stage m)
  recovers_at stage st = recovers_as Bam s goes k (link_at s stage m) (λ v h. tt) (falls_at stage st) (rest_at_lem stage st)

module _ (s : Setting) (fair : Fair s) (goes : Goes Bam s.key) where
  recovers_from : (vs : List Lossy) (k : ℕ) (stage : Stage) → Stands s k stage → (m : Marks) → Borne s (link_at s stage m) vs
      → Recovers s (k + losses vs) (lossy_run s (link_at s stage m) vs)
  unfolding lossy_run
  recovers_from [] k stage st m h = let z : k + losses [] ≡ k = unfold losses in omega arith in rw z (recovers_at s fair goes k m stage st)
  recovers_from (v ∷ vs) k stage st m (h, hs) =
      let q : Step s k v stage m = moves s fair goes k m stage st v h in
      rw (← lost_by_lem k v vs, q.same)
      (recovers_from vs (lost_by k v) q.stage q.stands q.marks (subst (λ (x : Link). Borne s x vs) q.same hs))

  starts : (p q : ℕ) → start s p q ≡ link_at s (going unopened 0 0 false) (record { senders_mark = p; senders_last = p; receivers_mark = from q Second; receivers_last = q })
  unfolding start shape_at flight
  starts p q = rw (announced_at_lem Bam s fair goes p)

  -- to all
  pub recovery_bam : (p q : ℕ) (vs : List Lossy) → Borne s (start s p q) vs → Recovers s (losses vs) (lossy_run s (start s p q) vs)
  recovery_bam p q vs h =
      let z : 0 + losses vs ≡ losses vs = omega arith in
      rw (z, ← starts p q) at
      (recovers_from vs 0 (going unopened 0 0 false) (record { within = omega arith; bound = omega arith; complete = λ e. cc }, refl) _
      (subst (λ (x : Link). Borne s x vs) (starts p q) h))
