-- What a frame writes into the store: 01, "Segment".
use Rattle.std.specs.Prelude.{None, Option, Some, ℕ}
use Prim.Native.Nat.{ℕ, ◌+◌, ◌*◌, ◌-◌, ◌≤◌, ◌<◌}
use mathlib.Core.Path.{◌≡◌, refl, sym, ap, subst}
use mathlib.Core.Logic.{◌⊎◌}
use mathlib.Core.Bool.{Bool, true, false, cond, not}
use mathlib.Core.List.{List}
use native.Mathlib.Omega.{arith}
use lib.Dec.{eqb}
use lib.ListN.{length, take, drop}
use lib.Seq.{length-paste}
use borrow.Author.Tests.{eqb-true}
use Rattle.laws.specs.Windows.{window_other, window_same}
use Rattle.frame.specs.Judge.{judged as judged-frame}
use Rattle.frame.specs.declared.refusal.Refusal.TheVariants.{FormatIndicator, OutOfBounds}
use Rattle.transport.specs.declared.segment.Segment.{Segment}
use Rattle.transport.specs.Segments.{data_at}
use Rattle.progress.specs.declared.Progress.{Progress}
use Rattle.session.specs.declared.Session.{Session}
use Rattle.session.specs.declared.Change.{Change}
use Rattle.session.specs.declared.Change.TheVariants.{Stays, Opens, Moves, Ends}
use Rattle.session.specs.Segments.{due_of}
use Rattle.session.specs.Decisions.{refused as refuse, if_open, segment_open, segment_to}
use Rattle.session.specs.Laws.{Taking, takes_taking, taken_inside}
use Rattle.session.specs.InBounds.{Sound, sound_of}
use Rattle.session.specs.Bounds.{state_ok}
use Rattle.session.specs.Steps.{moves_takes}
use Rattle.slots.specs.Slots.{key_place, first_free, slot_for, state_in, or_else, is_free, on_state}
use Rattle.slots.specs.Bounds.{values_ok, slots_ok}
use Rattle.receiver.specs.declared.Receiver.{Receiver}
use Rattle.receiver.specs.Bounds.{in_bounds}
use Rattle.receiver.specs.Calls.{Outcome, refused, is_ready, stored, stored_by, on_verdict, frame_all, frame_store}
use Rattle.isolation.specs.OwnFrames.{key_at, frame_key, Body, announce, segment, status, abort, body_of}
use Rattle.isolation.specs.Rules.{due}
use Rattle.isolation.proofs.Tests.{clash, and_left, and_right}
use Rattle.slots.specs.Searches.{lowest_some}
use Rattle.isolation.proofs.Slots.{at, find_some}
use Rattle.isolation.proofs.Same.{due_same}
use Rattle.isolation.proofs.Single.{Reads, body_step}
use Rattle.isolation.proofs.Read.{Takes, frame_agrees}
use Rattle.isolation.proofs.InBounds.{true_all}

-- segment n of key k, with the bytes x, was taken: the data due is at its place in the slot of the key's session, and every part of
-- the store that lies before it or after it is as it was
pub record Writes (r : Receiver) (k n : ℕ) (x m m' : List ℕ) : Type 0 where
  pub slot : ℕ
  pub session : Session
  pub found : key_place (key_at k) r.slots ≡ Some slot
  pub state : at r.slots slot ≡ Some session
  pub long : length m' ≡ length m
  pub data_due : take (due session.announced.total.0 n) (drop (4096 * slot + 60 * (n - 1)) m') ≡ take (due session.announced.total.0 n) x
  pub all_there : due session.announced.total.0 n ≤ length x
  pub in_slot : 60 * (n - 1) + due session.announced.total.0 n ≤ 4096
  pub elsewhere : (a c : ℕ) → (a + c ≤ 4096 * slot + 60 * (n - 1)) ⊎ (4096 * slot + 60 * (n - 1) + due session.announced.total.0 n ≤ a)
      → take c (drop a m') ≡ take c (drop a m)

-- a frame changes nothing of the store, or is a segment that was taken
pub data Stores (r : Receiver) (k : ℕ) (b : Option Body) (m m' : List ℕ) : Type 0 where
  as_it_was : m' ≡ m → Stores r k b m m'
  writes : (n : ℕ) (x : List ℕ) → b ≡ Some (segment 0 n x) → Writes r k n x m m' → Stores r k b m m'

-- the session in a slot of a record in bounds
pub sound_in : (r : Receiver) → in_bounds r ≡ true → (i : ℕ) (s : Session) → at r.slots i ≡ Some s → Sound r.own s
unfolding in_bounds
sound_in r bounds i s e =
    sound_of r.own s
    (subst (λ (y : Option Session). state_ok r.own y ≡ true) e (true_all r.own r.slots (and_right (values_ok r.own r.limits) (slots_ok r.own r.slots) bounds) i))

-- a slot for the key that is open is the one that has the key
pub held_in : (r : Receiver) (k i : ℕ) (s : Session) → slot_for (key_at k) r.slots ≡ Some i → at r.slots i ≡ Some s → key_place (key_at k) r.slots ≡ Some i
held_in r k i s e y = go (key_place (key_at k) r.slots) e
  where
    go : (g : Option ℕ) → or_else g (first_free r.slots) ≡ Some i → g ≡ Some i
    go (Some j) h = h
    go None h = absurd (clash (is_free (at r.slots i)) (ap is_free (lowest_some r.slots i h).0) (ap is_free y))

module _ (r : Receiver) (k : ℕ) (m : List ℕ) (bounds : in_bounds r ≡ true) (eight : length r.slots ≡ 8) (whole : length m ≡ 32768) where
  module _ (format n : ℕ) (x d : List ℕ) (reads : x ≡ data_at d) where
    abbrev sg : Segment
    sg = record { format = format; number = record { 0 = n }; room = length x }

    -- the segment moved its session on, in slot i
    written : (i : ℕ) (s : Session) (p : Progress) → slot_for (key_at k) r.slots ≡ Some i → at r.slots i ≡ Some s → (segment_to (Some s) sg r.last).change ≡ Moves p
        → Writes r k n x m (stored i s n d m)
    written i s p e y c =
        let takes = moves_takes sg r.last s p c in
        let turn : Taking s n (length x) = takes_taking s n (length x) takes in
        let sound : Sound r.own s = sound_in r bounds i s y in
        let f : i < length r.slots = (find_some k r.slots i (held_in r k i s e y)).1 in
        let one : 1 ≤ n = turn.low in
        let same : due s.announced.total.0 n ≡ due_of s.announced.total.0 n = due_same s.announced.total.0 n one in
        let fits : 60 * (n - 1) + due_of s.announced.total.0 n ≤ s.announced.total.0 = taken_inside s n (length x) sound.agreed takes in
        let most : s.announced.total.0 ≤ 4096 = sound.agreed.fits in
        let enough : due_of s.announced.total.0 n ≤ length x = turn.enough in
        let inside : 4096 * i + 60 * (n - 1) + due_of s.announced.total.0 n ≤ length m = omega arith in
        let start : 4096 * i + 60 * (n - 1) ≤ length m = omega arith in
        let room : due_of s.announced.total.0 n ≤ length (data_at d) = rw reads at enough in
        record {
          slot = i;
          session = s;
          found = held_in r k i s e y;
          state = y;
          long = length-paste m (4096 * i + 60 * (n - 1)) (data_at d) (due_of s.announced.total.0 n) inside room;
          data_due = rw (same, reads) (window_same m (4096 * i + 60 * (n - 1)) (data_at d) (due_of s.announced.total.0 n) start room);
          all_there = rw same enough;
          in_slot = rw same (omega arith);
          elsewhere = λ a c h. window_other m (4096 * i + 60 * (n - 1)) (data_at d) (due_of s.announced.total.0 n) start room a c (rw same at h);
        }

    no_move : (p : Progress) → ◌≡◌ {A = Change Session Progress} Stays (Moves p) → ⊥
    no_move p e = let z : ◌≡◌ {A = ℕ} 0 1 = cc in omega arith

    -- 17 moves nothing
    good_format : (y : Option Session) (p : Progress) → (segment_to y sg r.last).change ≡ Moves p → eqb format 0 ≡ true
    unfolding segment_to
    good_format y p c = go (eqb format 0) c
      where
        go : (t : Bool) → (cond (not t) (refuse FormatIndicator) (if_open y (λ s. segment_open s n (length x) r.last))).change ≡ Moves p → t ≡ true
        go true e = refl
        go false e = absurd (no_move p e)

    segment_stores : (f : Option ℕ) → slot_for (key_at k) r.slots ≡ f → (c : Change Session Progress) → (segment_to (state_in f r.slots) sg r.last).change ≡ c
        → Stores r k (Some (segment format n x)) m (stored_by c f (state_in f r.slots) n d m)
    segment_stores f e Stays c = as_it_was refl
    segment_stores f e (Opens s) c = as_it_was refl
    segment_stores f e Ends c = as_it_was refl
    segment_stores None e (Moves p) c = as_it_was refl
    segment_stores (Some i) e (Moves p) c = go (at r.slots i) refl c
      where
        go : (y : Option Session) → at r.slots i ≡ y → (segment_to y sg r.last).change ≡ Moves p
            → Stores r k (Some (segment format n x)) m (on_state y (λ s. stored i s n d m) m)
        go None q u = as_it_was refl
        go (Some s) q u =
            writes n x (ap (λ (g : ℕ). Some (segment g n x)) (eqb-true format 0 (good_format (Some s) p u))) (written i s p e q u)

  body_stores : (b : Body) (d : List ℕ) → Reads d b → Stores r k (Some b) m (body_step r (key_at k) b d m).1
  body_stores (announce a) d e = as_it_was refl
  body_stores (status st) d e = as_it_was refl
  body_stores (abort pgn) d e = as_it_was refl
  body_stores (segment format n x) d e =
      let f : Option ℕ = slot_for (key_at k) r.slots in
      segment_stores format n x d e f refl (segment_to (state_in f r.slots) (record { format = format; number = record { 0 = n }; room = length x }) r.last).change refl

-- Every frame, on every record of eight slots and with every buffer: the store stays as it was, or the frame is a segment that was taken,
-- and no byte changes but its data due.
pub store_kept : (r : Receiver) (id : ℕ) (d m : List ℕ) → length r.slots ≡ 8 → Stores r (frame_key id d) (body_of r.own id d) m (frame_store r id d m)
unfolding frame_all
store_kept r id d m eight = go (is_ready r m) refl
  where
    o : Outcome
    o = on_verdict (judged-frame r.own id (length d)) r d m

    read : is_ready r m ≡ true → (b : Option Body) → Takes r d m (key_at (frame_key id d)) o b → Stores r (frame_key id d) b m o.1
    read e None f = as_it_was (ap (λ (z : Outcome). z.1) f.same)
    read e (Some b) t =
        subst (λ (z : Outcome). Stores r (frame_key id d) (Some b) m z.1) (sym t.0)
        (body_stores r (frame_key id d) m (and_right (eqb (length m) 32768) (in_bounds r) e) eight (eqb-true (length m) 32768 (and_left (eqb (length m) 32768) (in_bounds r) e)) b d t.1)

    go : (t : Bool) → is_ready r m ≡ t → Stores r (frame_key id d) (body_of r.own id d) m (cond t o (refused r OutOfBounds, m)).1
    go true e = read e (body_of r.own id d) (frame_agrees r id d m).does
    go false e = as_it_was refl
