-- Every calm move takes a stage to a stage, and lowers the measure if it gives or takes a frame.
use Rattle.std.specs.Prelude.{Some}
use Prim.Native.Nat.{ℕ, zero, suc, ◌+◌, ◌≤◌, ◌<◌}
use mathlib.Core.Path.{◌≡◌, refl}
use mathlib.Core.Logic.{◌⊎◌, inl, inr}
use mathlib.Core.Bool.{Bool, true, false, cond, or-false}
use mathlib.Core.List.{[], append-nil}
use native.Mathlib.Omega.{arith}
use native.Mathlib.Decide.{ℕ_discrete}
use Rattle.progress.specs.declared.wait.Wait.{Wait}
use Rattle.progress.specs.declared.wait.Wait.TheVariants.{First, Second}
use Rattle.transport.specs.declared.Kind.{Kind}
use Rattle.transport.specs.declared.Kind.TheVariants.{Rts, Bam}
use Rattle.transfer.specs.Sends.{segment_wire}
use Rattle.isolation.specs.Replies.{took, sent, cts, plain}
use Rattle.delivery.specs.Link.{Setting, key_in, Link, Move, ask, take_forward, take_backward, read_sender, read_receiver, asked, received, at_receiver, taken_forward, at_sender, taken_backward, read, step}
use Rattle.delivery.specs.Arrival.{Fair, CalmAt, works}
use Rattle.delivery.proofs.Expected.{count, Goes, session_at, from, some_segments, Opened, on_announcement, SegmentTaken, quiet, grants, on_segment_rts, on_segment_bam, on_eoms}
use Rattle.delivery.proofs.Sending.{first_grant, Gives, Sent, Due, next, final, nothing, what_is_due, waits, no_more, ended_gives_none, hears_cts, hears_eoma, broadcast_ended, kept}
use Rattle.delivery.proofs.Stages.{flight, flight_segment, flight_eoms, Stage, announcing, granting, moving, acknowledging, done, Marks, shape_at, link_at, Moving, Stands, height}

-- from a stage a move led to x; w: it gave or took a frame
pub record Moved (κ : Kind) (s : Setting) (from : Stage) (x : Link) (w : Bool) : Type 0 where
  pub stage : Stage
  pub stands : Stands κ s stage
  pub marks : Marks
  pub same : x ≡ link_at κ s stage marks
  pub falls : height s stage + cond w 1 0 ≤ height s from

still : (κ : Kind) (s : Setting) (stage : Stage) → Stands κ s stage → (r : Marks) → Moved κ s stage (link_at κ s stage r) false
still κ s stage st r = record { stage = stage; stands = st; marks = r; same = refl; falls = omega arith }

becomes : {κ : Kind} {s : Setting} {from : Stage} {x : Link} (stage : Stage) (r : Marks) → Stands κ s stage → x ≡ link_at κ s stage r → height s stage < height s from → Moved κ s from x true
becomes stage r st e l = record { stage = stage; stands = st; marks = r; same = e; falls = omega arith }

-- the move v, at a stage
abbrev pub Step : Kind → Setting → Move → Stage → Marks → Type 0
Step κ s v stage r = Moved κ s stage (step s (link_at κ s stage r) v) (works s (link_at κ s stage r) v)

-- the sender's mark, and the receiver's, is its last reading; what the receiver took starts a wait
abbrev pub sends : Marks → Marks
sends r = record { senders_mark = r.senders_last; senders_last = r.senders_last; receivers_mark = r.receivers_mark; receivers_last = r.receivers_last }

abbrev pub takes : Wait → Marks → Marks
takes wait r = record { senders_mark = r.senders_mark; senders_last = r.senders_last; receivers_mark = from r.receivers_last wait; receivers_last = r.receivers_last }

-- ---- asking

abbrev GivesNone : Setting → Link → Type 0
GivesNone s x = Gives s x.transfer x.senders_last [] x.transfer false

nothing_due : (κ : Kind) (s : Setting) (stage : Stage) → Stands κ s stage → (r : Marks) → GivesNone s (link_at κ s stage r) → Step κ s ask stage r
unfolding step works asked
nothing_due κ s stage st r d =
    rw (d.frames, d.leaves, d.ends, append-nil (link_at κ s stage r).forward, or-false (link_at κ s stage r).well) (still κ s stage st r)

asks : (κ : Kind) (s : Setting) → Goes κ s.key → (stage : Stage) → Stands κ s stage → (r : Marks) → Step κ s ask stage r
unfolding step works asked shape_at height
asks κ s k (announcing n e) st r = go (what_is_due κ s k r.senders_mark r.senders_last n (first_grant κ s) e st) st
  where
    go : {e : Bool} → Due κ s r.senders_mark r.senders_last n (first_grant κ s) e → Sent s n (first_grant κ s) e → Step κ s ask (announcing n e) r
    go (next l d) st =
        let b : first_grant κ s ≤ count s = st.bound in
        let z : n + 1 ≡ suc n = omega arith in
        rw (d.frames, d.leaves, d.ends, flight_segment s 0 n n (omega arith), z)
        (becomes (announcing (suc n) false) (sends r) (record { within = l; bound = b; complete = λ e. cc }) refl (omega arith))
    go (final h d) st =
        rw (d.frames, d.leaves, d.ends, flight_eoms s 0 n)
        (becomes (announcing n true) (sends r) (record { within = st.within; bound = st.bound; complete = λ e. h }) refl (omega arith))
    go (nothing {e = e} d) st = nothing_due κ s (announcing n e) st r d
asks κ s k (moving j n g e) st r = go (what_is_due κ s k r.senders_mark r.senders_last (j + n) g e st.sent) st
  where
    go : {e : Bool} → Due κ s r.senders_mark r.senders_last (j + n) g e → Moving κ s j n g e → Step κ s ask (moving j n g e) r
    go (next l d) st =
        let z : j + n + 1 ≡ j + suc n = omega arith in
        let b : g ≤ count s = st.sent.bound in
        let w : j + suc n ≤ g = omega arith in
        rw (d.frames, d.leaves, d.ends, flight_segment s j n (j + n) refl, z)
        (becomes (moving j (suc n) g false) (sends r)
        (record { sent = record { within = w; bound = b; complete = λ e. cc }; unspent = st.unspent; grant = st.grant })
        refl (omega arith))
    go (final h d) st =
        rw (d.frames, d.leaves, d.ends, flight_eoms s j n)
        (becomes (moving j n g true) (sends r)
        (record { sent = record { within = st.sent.within; bound = st.sent.bound; complete = λ e. h }; unspent = st.unspent; grant = st.grant })
        refl (omega arith))
    go (nothing {e = e} d) st = nothing_due κ s (moving j n g e) st r d
asks Rts s k (granting j c) st r =
    let a : 1 ≤ c = st.0 in
    let b : j + c ≤ count s = st.1 in
    nothing_due Rts s (granting j c) st r (waits s r.senders_mark r.senders_last j j Rts refl (omega arith))
asks Bam s k (granting j c) st r = absurd st
asks κ s k acknowledging st r =
    nothing_due κ s acknowledging st r (no_more s r.senders_mark r.senders_last (count s) (count s) κ refl (omega arith))
asks κ s k done st r = nothing_due κ s done st r (ended_gives_none s r.senders_last)

-- ---- the receiver takes the oldest frame

module _ (s : Setting) (fair : Fair s) (r : Marks) where
  takes_announcement : (κ : Kind) → Opened s fair κ r.receivers_last → (n : ℕ) (e : Bool) → Sent s n (first_grant κ s) e → Step κ s take_forward (announcing n e) r
  unfolding step works taken_forward at_receiver shape_at height flight cts sent
  takes_announcement Rts o (suc n) e st = absurd (let w : suc n ≤ 0 = st.within in omega arith)
  takes_announcement Rts o zero true st = absurd (let w : 0 ≡ count s = st.complete refl in let l : 1 ≤ count s = some_segments s fair in omega arith)
  takes_announcement Rts (c, a, b, o) zero false st =
      let z : 0 + c ≡ c = omega arith in
      rw o (becomes (granting 0 c) (takes First r) (a, rw z b) (rw z) (omega arith))
  takes_announcement Bam o n e st =
      let z : 0 + n ≡ n = omega arith in
      rw o (becomes (moving 0 n (count s) e) (takes Second r) (record { sent = rw z st; unspent = inl (some_segments s fair); grant = refl }) (rw z) (rw z (omega arith)))

  module _ (j g : ℕ) where
    -- a segment that brings no answer
    one_more : (κ : Kind) (n : ℕ) (e : Bool) → Moving κ s j (suc n) g e → (j + 1 < g) ⊎ (j + 1 ≡ count s)
        → received s (Some (session_at κ s r.receivers_mark j g)) r.receivers_last (segment_wire (key_in s) s.message (j + 1))
        ≡ (Some (session_at κ s (from r.receivers_last Second) (j + 1) g), plain (took (key_in s) (j + 1)))
        → Step κ s take_forward (moving j (suc n) g e) r
    unfolding step works taken_forward at_receiver shape_at height flight
    one_more κ n e st o d =
        let z : j + suc n ≡ j + 1 + n = omega arith in
        rw d (becomes (moving (j + 1) n g e) (takes Second r) (record { sent = rw z at st.sent; unspent = o; grant = st.grant }) (rw z) (omega arith))

    -- a segment that uses the grant up: it was the last on its way
    next_grant : (n : ℕ) (e : Bool) → Moving Rts s j (suc n) g e → j + 1 ≡ g → (c : ℕ) → 1 ≤ c → j + 1 + c ≤ count s
        → received s (Some (session_at Rts s r.receivers_mark j g)) r.receivers_last (segment_wire (key_in s) s.message (j + 1))
        ≡ (Some (session_at Rts s (from r.receivers_last First) (j + 1) (j + 1 + c)), cts s.key (j + 1 + 1) c s.pgn)
        → Step Rts s take_forward (moving j (suc n) g e) r
    unfolding step works taken_forward at_receiver shape_at height flight cts sent
    next_grant (suc n) e st a c b l d = absurd (omega (arith, st.sent.within))
    next_grant zero true st a c b l d = absurd (omega (arith, st.sent.complete refl))
    next_grant zero false st a c b l d = rw d (becomes (granting (j + 1) c) (takes First r) (b, l) (rw (← a)) (omega arith))

    takes_segment : (κ : Kind) (n : ℕ) (e : Bool) → Moving κ s j (suc n) g e → Step κ s take_forward (moving j (suc n) g e) r
    takes_segment Rts n e st =
        let in_reach : j + suc n ≤ g = st.sent.within in
        let all : g ≤ count s = st.sent.bound in
        go (on_segment_rts s fair r.receivers_last r.receivers_mark j g (omega arith) (omega arith) all)
      where
        go : {l : j < count s} → SegmentTaken s fair r.receivers_last r.receivers_mark j g l → Step Rts s take_forward (moving j (suc n) g e) r
        go (quiet o d) = one_more Rts n e st o d
        go (grants a c b l d) = next_grant n e st a c b l d
    takes_segment Bam n e st =
        let all : g ≡ count s = st.grant in
        let in_reach : j + suc n ≤ g = st.sent.within in
        one_more Bam n e st (go (ℕ_discrete (j + 1) g)) (on_segment_bam s fair r.receivers_last r.receivers_mark j g (omega arith))
      where
        go : Dec (j + 1 ≡ g) → (j + 1 < g) ⊎ (j + 1 ≡ count s)
        go (yes z) = let all : g ≡ count s = st.grant in inr (omega arith)
        go (no z) = let in_reach : j + suc n ≤ g = st.sent.within in inl (omega arith)

    takes_eoms : (κ : Kind) → Moving κ s j 0 g true → Step κ s take_forward (moving j 0 g true) r
    unfolding step works taken_forward at_receiver shape_at height flight
    takes_eoms Rts st =
        let w : j + 0 ≡ count s = st.sent.complete refl in
        let y : g ≡ count s = omega arith in
        let z : j ≡ count s = omega arith in
        let a : count s + 0 ≡ count s = omega arith in
        rw (z, y, on_eoms s fair Rts r.receivers_last r.receivers_mark (count s)) (becomes acknowledging r tt (rw a) (omega arith))
    takes_eoms Bam st =
        let w : j + 0 ≡ count s = st.sent.complete refl in
        let y : g ≡ count s = omega arith in
        let z : j ≡ count s = omega arith in
        rw (z, y, on_eoms s fair Bam r.receivers_last r.receivers_mark (count s))
        (becomes done r tt (rw (broadcast_ended s r.senders_mark (count s + 0) (count s))) (omega arith))

  takes_forward : (κ : Kind) → Goes κ s.key → (stage : Stage) → Stands κ s stage → Step κ s take_forward stage r
  unfolding step works taken_forward shape_at flight
  takes_forward κ k (announcing n e) st = takes_announcement κ (on_announcement s fair κ k r.receivers_last) n e st
  takes_forward κ k (granting j c) st = still κ s (granting j c) st r
  takes_forward κ k (moving j (suc n) g e) st = takes_segment j g κ n e st
  takes_forward κ k (moving j zero g true) st = takes_eoms j g κ st
  takes_forward κ k (moving j zero g false) st = still κ s (moving j zero g false) st r
  takes_forward κ k acknowledging st = still κ s acknowledging st r
  takes_forward κ k done st = still κ s done st r

  -- ---- the sender takes the oldest frame

  takes_backward : (κ : Kind) (stage : Stage) → Stands κ s stage → Step κ s take_backward stage r
  unfolding step works taken_backward at_sender shape_at height flight
  takes_backward κ (announcing n e) st = still κ s (announcing n e) st r
  takes_backward Rts (granting j c) (a, b) =
      let z : j + 0 ≡ j = omega arith in
      let h = hears_cts s fair r.senders_mark r.senders_last j j c a b in
      rw (h.leaves, h.refuses, h.ends)
      (becomes (moving j 0 (j + c) false) (sends r)
      (record { sent = record { within = omega arith; bound = b; complete = λ e. cc }; unspent = inl (omega arith); grant = tt })
      (rw z) (omega arith))
  takes_backward Bam (granting j c) st = absurd st
  takes_backward κ (moving j n g e) st = still κ s (moving j n g e) st r
  takes_backward Rts acknowledging st =
      let h = hears_eoma s fair r.senders_mark r.senders_last (count s) (count s) in
      rw (h.leaves, h.refuses, h.ends) (becomes done r tt refl (omega arith))
  takes_backward Bam acknowledging st = absurd st
  takes_backward κ done st = still κ s done st r

  -- ---- every move

  pub moves : (κ : Kind) → Goes κ s.key → (stage : Stage) → Stands κ s stage → (v : Move) → CalmAt s (link_at κ s stage r) v → Step κ s v stage r
  unfolding step works read
  moves κ k stage st ask calm = asks κ s k stage st r
  moves κ k stage st take_forward calm = takes_forward κ k stage st
  moves κ k stage st take_backward calm = takes_backward κ stage st
  moves κ k stage st (read_sender t) calm =
      rw (kept s.limit t (link_at κ s stage r).transfer calm)
      (still κ s stage st (record { senders_mark = r.senders_mark; senders_last = t; receivers_mark = r.receivers_mark; receivers_last = r.receivers_last }))
  moves κ k stage st (read_receiver t) calm =
      rw calm
      (still κ s stage st (record { senders_mark = r.senders_mark; senders_last = r.senders_last; receivers_mark = r.receivers_mark; receivers_last = t }))
