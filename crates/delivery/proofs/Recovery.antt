-- An RTS transfer that loses data: its stages, every borne move from stage to stage, and what then holds.
use Rattle.std.specs.Prelude.{None, Option, Some}
use Prim.Native.Nat.{ℕ, zero, suc, ◌+◌, ◌/◌, ◌%◌, ◌≤◌, ◌<◌}
use mathlib.Core.Path.{◌≡◌, refl, subst}
use mathlib.Core.Logic.{◌⊎◌, inl, inr}
use mathlib.Core.Bool.{Bool, true, false, cond, or-false}
use mathlib.Core.List.{List, [], ◌∷◌, append-nil}
use native.Mathlib.Omega.{arith}
use native.Mathlib.Decide.{dec_lt}
use lib.Dec.{eqb}
use Rattle.laws.specs.Bools.{by_test}
use Rattle.progress.specs.declared.wait.Wait.TheVariants.{First, Second}
use Rattle.transport.specs.declared.Kind.{Kind}
use Rattle.transport.specs.declared.Kind.TheVariants.{Rts}
use Rattle.transfer.specs.Sends.{offer_wire, segment_wire}
use Rattle.isolation.specs.Standard.{requests_spent}
use Rattle.isolation.specs.Replies.{Wire, Says, took, sent, cts, plain}
use Rattle.isolation.specs.Rules as rules
use Rattle.isolation.specs.Rules.{Piece, is_taken}
use Rattle.delivery.specs.Link.{Setting, key_in, Link, Move, ask, take_forward, take_backward, read_sender, read_receiver, frames_due, asked, received, at_receiver, taken_forward, at_sender, taken_backward, read, step, start, offer}
use Rattle.delivery.specs.Arrival.{Fair, works, AtRest}
use Rattle.delivery.specs.Losses.{Lossy, keeps, loses_forward, loses_backward, queues, sent_after, lossy, lossy_run, MayLoseOldest, BorneAt, Borne, losses, turns, to_send, remaining, RefusesOnly, HandedOver, Outcome, Recovers, Recovery, FiveLost}
use Rattle.delivery.proofs.Wires.{few_segments, cts_wire, eoma_wire, abort_wire}
use Rattle.delivery.proofs.Expected.{count, Goes, Silence, from, handed_by}
use Rattle.delivery.proofs.Sending.{Gives, ended_gives_none, none_given, kept, send_ended}
use Rattle.delivery.proofs.Stages.{flight, flight_segment, flight_eoms, Marks}
use Rattle.delivery.proofs.Steps.{sends, takes}
use Rattle.delivery.proofs.Arrival.{full, given, handed_whole}
use Rattle.delivery.proofs.Requests.{sess, piece_no, Good, Last, last_or_not, Fresh, fresh_first, fresh_next, opens_first, SegmentIn, quiet, grants, on_segment_any, EomsIn, whole_in, given_up_lem, asks_for_lem, on_eoms_any, lost_segment, answers_first, answers_same, answers_next, answers_request, Paid, paid_taken, paid_lost, paid_request, paid_up}
use Rattle.delivery.proofs.Frames.{offer_kept, status_kept, forth_offer, forth_segment, forth_status, forth_flight, back_cts, back_eoma, back_abort, calm_sender, calm_receiver, calm_backward}
use Rattle.delivery.proofs.Broadcast.{lost_by, lost_by_lem, sender_reads, receiver_reads, answers_closed, recovers_as, recovery_bam}
use Rattle.delivery.proofs.Waiting.{waiting, again, busy, announced_waits, again_more, busy_waits, waits, gives_next, gives_last, hears_grant, hears_well, hears_abort, send_none, send_rest, send_last, send_less}
use Rattle.transfer.specs.declared.Transfer.{Transfer}

-- ---- the stages; xs are in, r requests have been made

data Stage : Type 0 where
  announcing : Stage
  -- a CTS for segments a + 1 to a + c is on its way back; the sender has sent i and waits
  granting : (a c r : ℕ) (xs : List Piece) (i : ℕ) → Stage
  -- granted to g; up to j all have come or are lost, n more are on their way
  moving : (g r : ℕ) (xs : List Piece) (j n : ℕ) → Stage
  -- the same, the grant used up and the EOMS behind
  closing : (g r : ℕ) (xs : List Piece) (j n : ℕ) → Stage
  -- the EOMA, the Abort is on its way back
  acknowledging : (i : ℕ) → Stage
  aborting : (i : ℕ) → Stage
  done : Stage
  aborted : Stage

record Shape : Type 0 where
  transfer : Option Transfer
  forward : List Wire
  backward : List Wire
  session : Option rules.Open
  handed : List Says
  refused : List ℕ
  well : Bool

abbrev shape : Option Transfer → List Wire → List Wire → Option rules.Open → List Says → List ℕ → Bool → Shape
shape t fs bs x h n w = record { transfer = t; forward = fs; backward = bs; session = x; handed = h; refused = n; well = w }

-- p and q: the marks
unfoldable shape_at : Setting → ℕ → Silence → Stage → Shape
shape_at s p q announcing = shape (waiting s p 0 (again 0)) (offer_wire (offer s) ∷ []) [] None [] [] false
shape_at s p q (granting a c r xs i) = shape (waiting s p i (again r)) [] (cts_wire s (a + 1) c ∷ []) (Some (sess s q (a + c) r xs)) [] [] false
shape_at s p q (moving g r xs j n) = shape (busy s p r (j + n) g) (flight s j n false) [] (Some (sess s q g r xs)) [] [] false
shape_at s p q (closing g r xs j n) = shape (waiting s p g true) (flight s j n true) [] (Some (sess s q g r xs)) [] [] false
shape_at s p q (acknowledging i) = shape (waiting s p i true) [] (eoma_wire s ∷ []) None (handed_by Rts s ∷ []) [] false
shape_at s p q (aborting i) = shape (waiting s p i true) [] (abort_wire s requests_spent ∷ []) None [] (21 ∷ []) false
shape_at s p q done = shape None [] [] None (handed_by Rts s ∷ []) [] true
shape_at s p q aborted = shape None [] [] None [] (21 ∷ []) false

abbrev link_at : Setting → Stage → Marks → Link
link_at s stage m = record {
  transfer = (shape_at s m.senders_mark m.receivers_mark stage).transfer;
  forward = (shape_at s m.senders_mark m.receivers_mark stage).forward;
  backward = (shape_at s m.senders_mark m.receivers_mark stage).backward;
  session = (shape_at s m.senders_mark m.receivers_mark stage).session;
  handed = (shape_at s m.senders_mark m.receivers_mark stage).handed;
  refused = (shape_at s m.senders_mark m.receivers_mark stage).refused;
  senders_last = m.senders_last;
  receivers_last = m.receivers_last;
  well = (shape_at s m.senders_mark m.receivers_mark stage).well;
}

-- ---- the numbers that a stage may have; k segments have been lost

record Granting (s : Setting) (k a c r : ℕ) (xs : List Piece) : Type 0 where
  some_more : 1 ≤ c
  small : c ≤ 16
  bound : a + c ≤ count s
  few : r ≤ 5
  good : Good s xs
  fresh : Fresh (a + c) r xs a
  paid : Paid s k (a + c) r xs a

record Moving (s : Setting) (k g r : ℕ) (xs : List Piece) (j n : ℕ) : Type 0 where
  within : j + n ≤ g
  bound : g ≤ count s
  few : r ≤ 5
  good : Good s xs
  fresh : Fresh g r xs j
  paid : Paid s k g r xs j
  -- a grant that is used up is one after which an EOMS is due: else a CTS would be on its way
  unspent : (j < g) ⊎ Last s r g

record Closing (s : Setting) (k g r : ℕ) (xs : List Piece) (j n : ℕ) : Type 0 where
  all : j + n ≡ g
  bound : g ≤ count s
  few : r ≤ 5
  good : Good s xs
  fresh : Fresh g r xs j
  paid : Paid s k g r xs j
  last : Last s r g

abbrev Stands : Setting → ℕ → Stage → Type 0
Stands s k announcing = Unit {0}
Stands s k (granting a c r xs i) = Granting s k a c r xs
Stands s k (moving g r xs j n) = Moving s k g r xs j n
Stands s k (closing g r xs j n) = Closing s k g r xs j n
Stands s k (acknowledging i) = Unit {0}
Stands s k (aborting i) = 6 ≤ k
Stands s k done = Unit {0}
Stands s k aborted = 6 ≤ k

-- ---- from a stage a move led to x; w: it gave, took or lost a frame; k segments have been lost by then

record Moved (s : Setting) (k : ℕ) (before : Stage) (m : Marks) (x : Link) (w : Bool) : Type 0 where
  stage : Stage
  stands : Stands s k stage
  marks : Marks
  same : x ≡ link_at s stage marks
  falls : remaining s (link_at s stage marks) + cond w 1 0 ≤ remaining s (link_at s before m)
  refuses : RefusesOnly Rts s (link_at s before m) (link_at s stage marks)

still : (s : Setting) (k : ℕ) (stage : Stage) → Stands s k stage → (m : Marks) → Moved s k stage m (link_at s stage m) false
still s k stage st m = record { stage = stage; stands = st; marks = m; same = refl; falls = omega arith; refuses = inl refl }

becomes : {s : Setting} {k : ℕ} {before : Stage} {m : Marks} {x : Link} (stage : Stage) (m' : Marks) → Stands s k stage → x ≡ link_at s stage m'
    → remaining s (link_at s stage m') < remaining s (link_at s before m) → RefusesOnly Rts s (link_at s before m) (link_at s stage m') → Moved s k before m x true
becomes stage m' st e l h = record { stage = stage; stands = st; marks = m'; same = e; falls = omega arith; refuses = h }

abbrev Step : Setting → ℕ → Lossy → Stage → Marks → Type 0
Step s k v stage m = Moved s (lost_by k v) stage m (lossy s (link_at s stage m) v) (turns s (link_at s stage m) v)

-- by a move of the link
abbrev Kept : Setting → ℕ → Move → Stage → Marks → Type 0
Kept s k v stage m = Moved s k stage m (step s (link_at s stage m) v) (works s (link_at s stage m) v)

-- ---- asking

nothing_due : (s : Setting) (k : ℕ) (stage : Stage) → Stands s k stage → (m : Marks)
    → Gives s (link_at s stage m).transfer m.senders_last [] (link_at s stage m).transfer false → Kept s k ask stage m
unfolding step works asked
nothing_due s k stage st m d =
    rw (d.frames, d.leaves, d.ends, append-nil (link_at s stage m).forward, or-false (link_at s stage m).well) (still s k stage st m)

module _ (s : Setting) (fair : Fair s) (goes : Goes Rts s.key) (k : ℕ) (m : Marks) where
  module _ (g r : ℕ) (xs : List Piece) (j n : ℕ) where
    asks_segment : Moving s k g r xs j n → j + n < g → Kept s k ask (moving g r xs j n) m
    unfolding step works asked shape_at remaining
    asks_segment st l =
        let z : j + n + 1 ≡ j + suc n = omega arith in
        let b : g ≤ count s = st.bound in
        let a = forth_flight s fair j n false (omega arith) in
        let c = forth_flight s fair j (suc n) false (omega arith) in
        let h : to_send (busy s m.senders_last r (j + suc n) g) + 3 ≤ to_send (busy s m.senders_mark r (j + n) g) =
        rw z at (send_less s m.senders_mark r (j + n) g m.senders_last l) in
        let d = gives_next s m.senders_mark m.senders_last r (j + n) g l b in
        rw (d.frames, d.leaves, d.ends, flight_segment s j n (j + n) refl, z)
        (becomes (moving g r xs j (suc n)) (sends m)
        (record { within = omega arith; bound = b; few = st.few; good = st.good; fresh = st.fresh; paid = st.paid; unspent = st.unspent })
        refl (omega arith) (inl refl))

    asks_eoms : Moving s k g r xs j n → j + n ≡ g → Last s r g → Kept s k ask (moving g r xs j n) m
    unfolding step works asked shape_at remaining
    asks_eoms st e h =
        let b : g ≤ count s = st.bound in
        let a = forth_flight s fair j n false (omega arith) in
        let c = forth_flight s fair j n true (omega arith) in
        let f = send_last s m.senders_mark r (j + n) g e h in
        let y = send_none s m.senders_last g true in
        let d = gives_last s m.senders_mark m.senders_last r (j + n) g goes e h in
        rw (d.frames, d.leaves, d.ends, flight_eoms s j n)
        (becomes (closing g r xs j n) (sends m)
        (record { all = e; bound = b; few = st.few; good = st.good; fresh = st.fresh; paid = st.paid; last = h })
        refl (omega arith) (inl refl))

    asks_nothing : Moving s k g r xs j n → j + n ≡ g → r ≡ 0 → g < count s → Kept s k ask (moving g r xs j n) m
    unfolding shape_at
    asks_nothing st e z l =
        nothing_due s k (moving g r xs j n) st m (rw (e, busy_waits s m.senders_mark r g z l) (waits s m.senders_mark m.senders_last g (again r)))

    asks_moving : Moving s k g r xs j n → Kept s k ask (moving g r xs j n) m
    asks_moving st = go (dec_lt (j + n) g) (last_or_not s r g st.bound) st.within
      where
        go : Dec (j + n < g) → Last s r g ⊎ ((r ≡ 0) × (g < count s)) → j + n ≤ g → Kept s k ask (moving g r xs j n) m
        go (yes l) d w = asks_segment st l
        go (no l) (inl h) w = asks_eoms st (omega arith) h
        go (no l) (inr (z, u)) w = asks_nothing st (omega arith) z u

  asks : (stage : Stage) → Stands s k stage → Kept s k ask stage m
  unfolding shape_at
  asks announcing st = nothing_due s k announcing st m (waits s m.senders_mark m.senders_last 0 (again 0))
  asks (granting a c r xs i) st = nothing_due s k (granting a c r xs i) st m (waits s m.senders_mark m.senders_last i (again r))
  asks (moving g r xs j n) st = asks_moving g r xs j n st
  asks (closing g r xs j n) st = nothing_due s k (closing g r xs j n) st m (waits s m.senders_mark m.senders_last g true)
  asks (acknowledging i) st = nothing_due s k (acknowledging i) st m (waits s m.senders_mark m.senders_last i true)
  asks (aborting i) st = nothing_due s k (aborting i) st m (waits s m.senders_mark m.senders_last i true)
  asks done st = nothing_due s k done st m (ended_gives_none s m.senders_last)
  asks aborted st = nothing_due s k aborted st m (ended_gives_none s m.senders_last)

  -- ---- the receiver takes the oldest frame

  takes_announcement : Kept s k take_forward announcing m
  unfolding step works taken_forward at_receiver shape_at remaining cts sent
  takes_announcement = go (opens_first s fair goes m.receivers_last)
    where
      go : (c : ℕ) × (1 ≤ c) × (c ≤ 16) × (c ≤ count s)
          × (received s None m.receivers_last (offer_wire (offer s)) ≡ (Some (sess s (from m.receivers_last First) c 0 []), cts s.key 1 c s.pgn))
          → Kept s k take_forward announcing m
      go (c, a, b, d, o) =
          let z : 0 + c ≡ c = omega arith in
          let h = answers_first s (from m.receivers_last First) c a d in
          let y = answers_closed s in
          let f = forth_offer s fair [] in
          let i = back_cts s fair 1 c (omega arith) [] in
          rw o
          (becomes (granting 0 c 0 [] 0) (takes First m)
          (record { some_more = a; small = b; bound = omega arith; few = omega arith; good = tt; fresh = fresh_first (0 + c) 0; paid = omega arith })
          (rw z) (rw z (omega arith)) (inl refl))

  module _ (g r : ℕ) (xs : List Piece) (j : ℕ) where
    abbrev more : List Piece
    more = piece_no s (j + 1) ∷ xs

    abbrev Taken : Type 0
    Taken =
        received s (Some (sess s m.receivers_mark g r xs)) m.receivers_last (segment_wire (key_in s) s.message (j + 1))
        ≡ (Some (sess s (from m.receivers_last Second) g r more), plain (took (key_in s) (j + 1)))

    good_more : j < count s → is_taken (j + 1) xs ≡ false → Good s xs → Good s more
    good_more l u h = (omega arith, omega arith, u, refl, h)

    -- a segment that brings no answer
    one_more : (n : ℕ) → Moving s k g r xs j (suc n) → is_taken (j + 1) xs ≡ false → (j + 1 < g) ⊎ Last s r g → Taken → Kept s k take_forward (moving g r xs j (suc n)) m
    unfolding step works taken_forward at_receiver shape_at remaining flight
    one_more n st u o d =
        let z : j + suc n ≡ j + 1 + n = omega arith in
        let w : j + suc n ≤ g = st.within in
        let b : g ≤ count s = st.bound in
        let a = answers_same s m.receivers_mark (from m.receivers_last Second) g r xs more in
        let e = forth_segment s fair j (omega arith) (flight s (j + 1) n false) in
        rw (d, z)
        (becomes (moving g r more (j + 1) n) (takes Second m)
        (record {
          within = omega arith;
          bound = b;
          few = st.few;
          good = good_more (omega arith) u st.good;
          fresh = fresh_next g g r s xs j st.fresh (inl refl);
          paid = paid_taken s k g g r xs j (omega arith) b (inl refl) st.paid;
          unspent = o;
        })
        refl (rw z (omega arith)) (inl refl))

    one_more_closing : (n : ℕ) → Closing s k g r xs j (suc n) → is_taken (j + 1) xs ≡ false → Taken → Kept s k take_forward (closing g r xs j (suc n)) m
    unfolding step works taken_forward at_receiver shape_at remaining flight
    one_more_closing n st u d =
        let w : j + suc n ≡ g = st.all in
        let b : g ≤ count s = st.bound in
        let a = answers_same s m.receivers_mark (from m.receivers_last Second) g r xs more in
        let e = forth_segment s fair j (omega arith) (flight s (j + 1) n true) in
        rw d
        (becomes (closing g r more (j + 1) n) (takes Second m)
        (record {
          all = omega arith;
          bound = b;
          few = st.few;
          good = good_more (omega arith) u st.good;
          fresh = fresh_next g g r s xs j st.fresh (inl refl);
          paid = paid_taken s k g g r xs j (omega arith) b (inl refl) st.paid;
          last = st.last;
        })
        refl (omega arith) (inl refl))

    -- a segment that uses the grant up: it was the last on its way
    next_grant : (n : ℕ) → Moving s k g r xs j (suc n) → is_taken (j + 1) xs ≡ false → j + 1 ≡ g → r ≡ 0 → (c : ℕ) → 1 ≤ c → c ≤ 16 → j + 1 + c ≤ count s
        → received s (Some (sess s m.receivers_mark g r xs)) m.receivers_last (segment_wire (key_in s) s.message (j + 1))
        ≡ (Some (sess s (from m.receivers_last First) (j + 1 + c) r more), cts s.key (j + 1 + 1) c s.pgn)
        → Kept s k take_forward (moving g r xs j (suc n)) m
    unfolding step works taken_forward at_receiver shape_at remaining flight cts sent
    next_grant (suc n) st u a z c b v l d = absurd (omega (arith, st.within))
    next_grant zero st u a z c b v l d =
        let h = answers_next s m.receivers_mark (from m.receivers_last First) g (j + 1 + c) r xs more z (omega arith) l in
        let e = forth_segment s fair j (omega arith) [] in
        let few : count s ≤ 69 = few_segments s fair in
        let f = back_cts s fair (j + 1 + 1) c (omega arith) [] in
        let w : busy s m.senders_mark r (j + 1) g ≡ waiting s m.senders_mark g (again r) = rw a (busy_waits s m.senders_mark r g z (omega arith)) in
        rw (d, w)
        (becomes (granting (j + 1) c r more g) (takes First m)
        (record {
          some_more = b;
          small = v;
          bound = l;
          few = st.few;
          good = good_more (omega arith) u st.good;
          fresh = fresh_next g (j + 1 + c) r s xs j st.fresh (inr z);
          paid = paid_taken s k g (j + 1 + c) r xs j (omega arith) st.bound (inr z) st.paid;
        })
        refl (rw w (omega arith)) (inl refl))

    takes_segment : (n : ℕ) → Moving s k g r xs j (suc n) → Kept s k take_forward (moving g r xs j (suc n)) m
    takes_segment n st =
        let w : j + suc n ≤ g = st.within in
        let b : g ≤ count s = st.bound in
        go (on_segment_any s fair m.receivers_last m.receivers_mark g xs j (omega arith) r (omega arith) b unseen)
      where
        unseen : is_taken (j + 1) xs ≡ false
        unseen = st.fresh (j + 1) (omega arith) (inl (omega (arith, st.within)))

        go : SegmentIn s m.receivers_last m.receivers_mark g r xs j → Kept s k take_forward (moving g r xs j (suc n)) m
        go (quiet o d) = one_more n st unseen o d
        go (grants a z c b v l d) = next_grant n st unseen a z c b v l d

    takes_closing : (n : ℕ) → Closing s k g r xs j (suc n) → Kept s k take_forward (closing g r xs j (suc n)) m
    takes_closing n st =
        let w : j + suc n ≡ g = st.all in
        let b : g ≤ count s = st.bound in
        go (on_segment_any s fair m.receivers_last m.receivers_mark g xs j (omega arith) r (omega arith) b unseen)
      where
        unseen : is_taken (j + 1) xs ≡ false
        unseen = st.fresh (j + 1) (omega arith) (inl (omega (arith, st.all)))

        -- the EOMS has gone out, so no CTS is due
        not_last : r ≡ 0 → g < count s → Last s r g → ⊥
        not_last z l (inl h) = omega arith
        not_last z l (inr h) = omega arith

        go : SegmentIn s m.receivers_last m.receivers_mark g r xs j → Kept s k take_forward (closing g r xs j (suc n)) m
        go (quiet o d) = one_more_closing n st unseen d
        go (grants a z c b v l d) = absurd (not_last z (omega arith) st.last)

    takes_eoms : Closing s k g r xs j 0 → Kept s k take_forward (closing g r xs j 0) m
    unfolding step works taken_forward at_receiver shape_at remaining flight cts sent
    takes_eoms st = go (on_eoms_any s fair m.receivers_last m.receivers_mark g r xs st.few st.good)
      where
        at_end : j ≡ g
        at_end = omega (arith, st.all)

        go : EomsIn s m.receivers_last m.receivers_mark g r xs → Kept s k take_forward (closing g r xs j 0) m
        go (whole_in d) =
            let y = answers_closed s in
            let e = forth_status s fair [] in
            let f = back_eoma s fair [] in
            rw d (becomes (acknowledging g) m tt refl (omega arith) (inl refl))
        go (given_up_lem h d) =
            let y = answers_closed s in
            let e = forth_status s fair [] in
            let f = back_abort s fair requests_spent [] in
            rw d
            (becomes (aborting g) m (paid_up s k m.receivers_mark g r xs j at_end st.last h st.paid) refl (omega arith) (inr (h, refl)))
        go (asks_for_lem l a c b v u f d) =
            let h = answers_request s m.receivers_mark (from m.receivers_last First) g (a + c) r xs l in
            let y = send_none s m.senders_mark g true in
            let z = send_none s m.senders_mark g (again (r + 1)) in
            let e = forth_status s fair [] in
            let few : count s ≤ 69 = few_segments s fair in
            let i = back_cts s fair (a + 1) c (omega arith) [] in
            rw d
            (becomes (granting a c (r + 1) xs g) (takes First m)
            (record {
              some_more = b;
              small = v;
              bound = u;
              few = omega arith;
              good = st.good;
              fresh = f;
              paid = paid_request s k g r xs j a c at_end st.last b st.paid;
            })
            (rw (again_more r)) (omega arith) (inl refl))

  takes_forward : (stage : Stage) → Stands s k stage → Kept s k take_forward stage m
  unfolding step works taken_forward shape_at flight
  takes_forward announcing st = takes_announcement
  takes_forward (granting a c r xs i) st = still s k (granting a c r xs i) st m
  takes_forward (moving g r xs j zero) st = still s k (moving g r xs j zero) st m
  takes_forward (moving g r xs j (suc n)) st = takes_segment g r xs j n st
  takes_forward (closing g r xs j zero) st = takes_eoms g r xs j st
  takes_forward (closing g r xs j (suc n)) st = takes_closing g r xs j n st
  takes_forward (acknowledging i) st = still s k (acknowledging i) st m
  takes_forward (aborting i) st = still s k (aborting i) st m
  takes_forward done st = still s k done st m
  takes_forward aborted st = still s k aborted st m

  -- ---- the sender takes the oldest frame

  by_step : (v : Move) (stage : Stage) → lossy s (link_at s stage m) (keeps v) ≡ step s (link_at s stage m) v → Kept s k v stage m → Step s k (keeps v) stage m
  unfolding turns
  by_step v stage e h = rw e h

  -- it sends nothing
  takes_back : (stage : Stage) → sent_after s (link_at s stage m) (link_at s stage m).backward ≡ [] → Kept s k take_backward stage m → Step s k (keeps take_backward) stage m
  takes_back stage e h = by_step take_backward stage (calm_backward s (link_at s stage m) e) h

  takes_grant : (a c r : ℕ) (xs : List Piece) (i : ℕ) → Granting s k a c r xs → Step s k (keeps take_backward) (granting a c r xs i) m
  unfolding step works taken_backward at_sender shape_at remaining flight
  takes_grant a c r xs i st =
      let z : a + 0 ≡ a = omega arith in
      let b : a + c ≤ count s = st.bound in
      let v : c ≤ 16 = st.small in
      let l : 1 ≤ c = st.some_more in
      let y = send_rest s m.senders_last r (a + 0) (a + c) (omega arith) in
      let few : count s ≤ 69 = few_segments s fair in
      let f = back_cts s fair (a + 1) c (omega arith) [] in
      let h = hears_grant s fair m.senders_mark m.senders_last i r a c l b in
      takes_back (granting a c r xs i) h.sends
      (rw (h.leaves, h.refuses, h.ends)
      (becomes (moving (a + c) r xs a 0) (sends m)
      (record { within = omega arith; bound = b; few = st.few; good = st.good; fresh = st.fresh; paid = st.paid; unspent = inl (omega arith) })
      (rw z) (omega arith) (inl refl)))

  takes_eoma : (i : ℕ) → Step s k (keeps take_backward) (acknowledging i) m
  unfolding step works taken_backward at_sender shape_at remaining
  takes_eoma i =
      let y = send_ended in
      let f = back_eoma s fair [] in
      let h = hears_well s fair m.senders_mark m.senders_last i in
      takes_back (acknowledging i) h.sends
      (rw (h.leaves, h.refuses, h.ends) (becomes done m tt refl (omega arith) (inl refl)))

  takes_abort : (i : ℕ) → 6 ≤ k → Step s k (keeps take_backward) (aborting i) m
  unfolding step works taken_backward at_sender shape_at remaining
  takes_abort i st =
      let y = send_ended in
      let f = back_abort s fair requests_spent [] in
      let h = hears_abort s fair m.senders_mark m.senders_last i true requests_spent in
      takes_back (aborting i) h.sends
      (rw (h.leaves, h.refuses, h.ends) (becomes aborted m st refl (omega arith) (inl refl)))

  takes_backward : (stage : Stage) → Stands s k stage → Step s k (keeps take_backward) stage m
  unfolding step works taken_backward shape_at
  takes_backward announcing st = takes_back announcing refl (still s k announcing st m)
  takes_backward (granting a c r xs i) st = takes_grant a c r xs i st
  takes_backward (moving g r xs j n) st = takes_back (moving g r xs j n) refl (still s k (moving g r xs j n) st m)
  takes_backward (closing g r xs j n) st = takes_back (closing g r xs j n) refl (still s k (closing g r xs j n) st m)
  takes_backward (acknowledging i) st = takes_eoma i
  takes_backward (aborting i) st = takes_abort i st
  takes_backward done st = takes_back done refl (still s k done st m)
  takes_backward aborted st = takes_back aborted refl (still s k aborted st m)

  -- ---- a segment is lost

  module _ (g r : ℕ) (xs : List Piece) (j n : ℕ) where
    loses_moving : Moving s k g r xs j (suc n)
        → MayLoseOldest s (Some (sess s m.receivers_mark g r xs)) (segment_wire (key_in s) s.message (j + 1) ∷ flight s (j + 1) n false)
        → Step s k loses_forward (moving g r xs j (suc n)) m
    unfolding lossy turns queues shape_at remaining flight
    loses_moving st h =
        let z : j + suc n ≡ j + 1 + n = omega arith in
        let w : j + suc n ≤ g = st.within in
        let b : g ≤ count s = st.bound in
        let c = forth_segment s fair j (omega arith) (flight s (j + 1) n false) in
        rw z
        (becomes (moving g r xs (j + 1) n) m
        (record {
          within = omega arith;
          bound = b;
          few = st.few;
          good = st.good;
          fresh = λ i l u. st.fresh i (omega arith) u;
          paid = paid_lost s k g r xs j (omega arith) b st.paid;
          unspent = lost_segment s fair m.receivers_mark g r xs j (omega arith) b (flight s (j + 1) n false) h;
        })
        refl (rw z (omega arith)) (inl refl))

    loses_closing : Closing s k g r xs j (suc n) → Step s k loses_forward (closing g r xs j (suc n)) m
    unfolding lossy turns queues shape_at remaining flight
    loses_closing st =
        let w : j + suc n ≡ g = st.all in
        let b : g ≤ count s = st.bound in
        let c = forth_segment s fair j (omega arith) (flight s (j + 1) n true) in
        becomes (closing g r xs (j + 1) n) m
        (record {
          all = omega arith;
          bound = b;
          few = st.few;
          good = st.good;
          fresh = λ i l u. st.fresh i (omega arith) u;
          paid = paid_lost s k g r xs j (omega arith) b st.paid;
          last = st.last;
        })
        refl (omega arith) (inl refl)

  loses : (stage : Stage) → Stands s k stage → BorneAt s (link_at s stage m) loses_forward → Step s k loses_forward stage m
  unfolding shape_at flight
  loses announcing st h = absurd (offer_kept s fair None [] h)
  loses (granting a c r xs i) st h = absurd h
  loses (moving g r xs j zero) st h = absurd h
  loses (moving g r xs j (suc n)) st h = loses_moving g r xs j n st h
  loses (closing g r xs j zero) st h = absurd (status_kept s fair (Some (sess s m.receivers_mark g r xs)) [] h)
  loses (closing g r xs j (suc n)) st h = loses_closing g r xs j n st
  loses (acknowledging i) st h = absurd h
  loses (aborting i) st h = absurd h
  loses done st h = absurd h
  loses aborted st h = absurd h

  -- ---- every borne move

  reads : (stage : Stage) → Stands s k stage → (p q : ℕ)
      → Moved s k stage m (link_at s stage (receiver_reads q (sender_reads p m))) false
  unfolding remaining
  reads stage st p q = record { stage = stage; stands = st; marks = receiver_reads q (sender_reads p m); same = refl; falls = omega arith; refuses = inl refl }

  moves : (stage : Stage) → Stands s k stage → (v : Lossy) → BorneAt s (link_at s stage m) v → Step s k v stage m
  unfolding lossy turns step works read
  moves stage st (keeps ask) h = asks stage st
  moves stage st (keeps take_forward) h = takes_forward stage st
  moves stage st (keeps take_backward) h = takes_backward stage st
  moves stage st (keeps (read_sender t)) h =
      by_step (read_sender t) stage (calm_sender s (link_at s stage m) t h)
      (rw (kept s.limit t (link_at s stage m).transfer h) (reads stage st t m.receivers_last))
  moves stage st (keeps (read_receiver t)) h =
      by_step (read_receiver t) stage (calm_receiver s (link_at s stage m) t h) (rw h (reads stage st m.senders_last t))
  moves stage st loses_forward h = loses stage st h
  moves stage st loses_backward h = absurd h

  -- ---- the facts at a stage

  rest_at_lem : (stage : Stage) → Stands s k stage → AtRest (link_at s stage m)
      → ((link_at s stage m).session ≡ None) × ((link_at s stage m).transfer ≡ None) × Outcome Rts s k (link_at s stage m)
  unfolding shape_at flight
  rest_at_lem announcing st h = absurd (full _ _ h.forward)
  rest_at_lem (granting a c r xs i) st h = absurd (full _ _ h.backward)
  rest_at_lem (moving g r xs j (suc n)) st h = absurd (full _ _ h.forward)
  rest_at_lem (moving g r xs j zero) st h = absurd (go (dec_lt (j + 0) g) st.unspent st.within)
    where
      none_due : frames_due s (busy s m.senders_mark r (j + 0) g) m.senders_last ≡ []
      none_due = none_given s (busy s m.senders_mark r (j + 0) g) m.senders_last h.nothing

      go : Dec (j + 0 < g) → (j < g) ⊎ Last s r g → j + 0 ≤ g → ⊥
      go (yes l) u w = given s m.senders_last (gives_next s m.senders_mark m.senders_last r (j + 0) g l st.bound) none_due
      go (no l) (inl u) w = omega arith
      go (no l) (inr u) w = given s m.senders_last (gives_last s m.senders_mark m.senders_last r (j + 0) g goes (omega arith) u) none_due
  rest_at_lem (closing g r xs j (suc n)) st h = absurd (full _ _ h.forward)
  rest_at_lem (closing g r xs j zero) st h = absurd (full _ _ h.forward)
  rest_at_lem (acknowledging i) st h = absurd (full _ _ h.backward)
  rest_at_lem (aborting i) st h = absurd (full _ _ h.backward)
  rest_at_lem done st h = (refl, refl, inl (handed_whole Rts s goes, refl, refl))
  rest_at_lem aborted st h = (refl, refl, inr (refl, refl, refl, st))

  falls_at : (stage : Stage) → Stands s k stage → (v : Lossy) → BorneAt s (link_at s stage m) v
      → remaining s (lossy s (link_at s stage m) v) + cond (turns s (link_at s stage m) v) 1 0 ≤ remaining s (link_at s stage m)
  falls_at stage st v h = let q : Step s k v stage m = moves stage st v h in rw q.same q.falls

  refuses_at : (stage : Stage) → Stands s k stage → (v : Lossy) → BorneAt s (link_at s stage m) v → RefusesOnly Rts s (link_at s stage m) (lossy s (link_at s stage m) v)
  refuses_at stage st v h = let q : Step s k v stage m = moves stage st v h in rw q.same q.refuses

  recovers_at : (stage : Stage) → Stands s k stage → Recovers s k (link_at s stage m)
  recovers_at stage st = recovers_as Rts s goes k (link_at s stage m) (refuses_at stage st) (falls_at stage st) (rest_at_lem stage st)

module _ (s : Setting) (fair : Fair s) (goes : Goes Rts s.key) where
  recovers_from : (vs : List Lossy) (k : ℕ) (stage : Stage) → Stands s k stage → (m : Marks) → Borne s (link_at s stage m) vs
      → Recovers s (k + losses vs) (lossy_run s (link_at s stage m) vs)
  unfolding lossy_run
  recovers_from [] k stage st m h = let z : k + losses [] ≡ k = unfold losses in omega arith in rw z (recovers_at s fair goes k m stage st)
  recovers_from (v ∷ vs) k stage st m (h, hs) =
      let q : Step s k v stage m = moves s fair goes k m stage st v h in
      rw (← lost_by_lem k v vs, q.same)
      (recovers_from vs (lost_by k v) q.stage q.stands q.marks (subst (λ (x : Link). Borne s x vs) q.same hs))

  starts : (p q : ℕ) → start s p q ≡ link_at s announcing (record { senders_mark = p; senders_last = p; receivers_mark = from q First; receivers_last = q })
  unfolding start shape_at
  starts p q = rw (announced_waits s goes p)

  -- to one node
  pub recovery_rts : (p q : ℕ) (vs : List Lossy) → Borne s (start s p q) vs → Recovers s (losses vs) (lossy_run s (start s p q) vs)
  recovery_rts p q vs h =
      let z : 0 + losses vs ≡ losses vs = omega arith in
      rw (z, ← starts p q) at (recovers_from vs 0 announcing tt _ (subst (λ (x : Link). Borne s x vs) (starts p q) h))

-- ---- both kinds

-- From the announcement on, however borne moves take turns: every frame given, taken or lost brings the end nearer; an RTS session refuses
-- nothing until five requests are spent; and at rest the message has been handed over and the transfer has ended well, or six segments were
-- lost at least and an RTS session has ended by 21, or one was and a broadcast by 19 or 21.
pub recovery : Recovery
recovery s fair p q vs h =
    by_test (eqb (s.key / 16 % 256) 255) (λ e. recovery_bam s fair e p q vs h) (λ e. recovery_rts s fair e p q vs h)

-- With five segments lost or fewer an RTS arrives.
pub five_lost : FiveLost
five_lost s fair kind p q vs h few rest = go (subst (λ (κ : Kind). Outcome κ s (losses vs) (lossy_run s (start s p q) vs)) kind ((recovery s fair p q vs h).rests rest).2)
  where
    go : Outcome Rts s (losses vs) (lossy_run s (start s p q) vs) → HandedOver s (lossy_run s (start s p q) vs)
    go (inl o) = o
    go (inr (a, b, c, six)) = absurd (omega arith)
