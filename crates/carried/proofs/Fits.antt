-- A record in bounds that is narrow fits, and every call on it leaves it narrow and answers what fits: by the four changes that a session
-- makes, and the one application.
use Rattle.std.specs.Prelude.{Err, None, Ok, Option, Result, Some, ℕ, is_some}
use Prim.Native.Nat.{ℕ, zero, suc, ◌+◌, ◌<◌, ◌≤◌}
use native.Mathlib.Omega.{arith}
use mathlib.Core.Path.{◌≡◌, refl}
use mathlib.Core.Bool.{Bool, true, false, cond, not, ◌&&◌}
use mathlib.Core.List.{List, [], ◌∷◌, map}
use mathlib.Mathlib.Data.Bool.Basic.{and_elim_left, and_elim_right}
use lib.Dec.{eqb, ltb}
use lib.ListN.{length, get_or, set, replicate}
use borrow.Author.Tests.{ltb-true}
use Rattle.progress.specs.declared.wait.IdleLimits.{IdleLimits}
use Rattle.laws.specs.Choice.{each_of}
use Rattle.frame.specs.declared.Address.{Address}
use Rattle.frame.specs.declared.refusal.Refusal.{Refusal}
use Rattle.frame.specs.declared.refusal.Refusal.TheVariants.{Silence, OutOfBounds, TransferLength}
use Rattle.frame.specs.declared.judge.Content.TheVariants as verdict
use Rattle.frame.specs.declared.judge.Route.{Route}
use Rattle.frame.specs.Judge.{judged}
use Rattle.frame.specs.Octets.{low24}
use Rattle.frame.specs.Pgn.{low_byte_ok}
use Rattle.multi_pg.specs.Groups.{GroupsRead, good, bad, groups_read}
use Rattle.transport.specs.declared.Key.{Key}
use Rattle.transport.specs.declared.Kind.TheVariants.{Rts, Bam}
use Rattle.transport.specs.declared.announcement.Announcement.{Announcement}
use Rattle.transport.specs.declared.control.Control.TheVariants as control
use Rattle.transport.specs.declared.segment.Segment.{Segment}
use Rattle.transport.specs.Control.{not_receivers, control_of}
use Rattle.transport.specs.Heads.{control_at, key_of}
use Rattle.transport.specs.Announcements.{announcement_at}
use Rattle.transport.specs.Eoms.{status_at}
use Rattle.transport.specs.Aborts.{role_at, abort_pgn_at}
use Rattle.transport.specs.Segments.{segment_at, data_frame_of}
use Rattle.answer.specs.declared.Answer.{Answer}
use Rattle.session.specs.declared.Session.{Session}
use Rattle.session.specs.declared.Change.{Change}
use Rattle.session.specs.declared.Change.TheVariants.{Stays, Opens, Moves, Ends}
use Rattle.session.specs.declared.Step.{Step}
use Rattle.session.specs.Decisions.{announced_to, segment_to, status_to, abort_to, after, ending_of, is_silent}
use Rattle.session.specs.Bounds.{state_ok}
use Rattle.session.specs.InBounds.{Sound, sound_of}
use Rattle.session.specs.Fits.{StateSmall, ChangeFits, AnswerFits, StepFits, segment_fits, status_fits, abort_fits}
use Rattle.session.proofs.Fits.{announce_fits}
use Rattle.slots.specs.Slots.{Within, slot_for, state_in, free_slot}
use Rattle.slots.specs.Bounds.{values_ok, twin_of, slots_ok}
use Rattle.receiver.specs.declared.Receiver.{Receiver}
use Rattle.receiver.specs.Bounds.{in_bounds}
use Rattle.receiver.specs.Calls.{Outcome, Stepped, Elapsed, refused, with_slot, applied, apply, slot_of, announce_step, status_step, abort_step, on_control, control_step, segment_step, on_data, is_ready, groups_step, on_verdict, frame_all, after_end, expired, stays, reading_kept, reading_step}
use Rattle.record_bytes.specs.Kept.{Bytes}
use Rattle.record_bytes.specs.RoundTrip.{SlotsFit, RecordFits}
use Rattle.dwaebinam.specs.Handed.{for_within}
use Rattle.isolation.proofs.Opening.{allowed}
use Rattle.carried.specs.Fitting.{StateNarrow, SlotsNarrow, Narrow}
use Rattle.frame.specs.declared.judge.Content.{Content}
use Rattle.progress.specs.declared.Progress.{Progress}

-- ---- what fits

state_fits : (own : Address) (x : Option Session) → state_ok own x ≡ true → StateNarrow x → StateSmall x
state_fits own None e h = tt
state_fits own (Some s) e h =
    let ok : Sound own s = sound_of own s e in
    let p : s.announced.pgn < 262144 = ltb-true s.announced.pgn 262144 (and_elim_left (ltb s.announced.pgn 262144) (low_byte_ok s.announced.pgn) ok.agreed.form) in
    let t : s.announced.total.0 ≤ 4096 = ok.agreed.fits in
    let c : s.announced.segments.0 ≤ 4155 = (let z = ok.agreed.count in omega arith) in
    record { total = omega arith; segments = omega arith; pgn = omega arith; progress = h }

slots_fit : (own : Address) (l : List (Option Session)) → slots_ok own l ≡ true → SlotsNarrow l → SlotsFit l
unfolding slots_ok
slots_fit own [] e h = tt
slots_fit own (s ∷ ss) e (h, hs) =
    let p = each_of (state_ok own s ∷ not (twin_of s ss) ∷ slots_ok own ss ∷ []) e in (
      state_fits own s p.0 h,
      slots_fit own ss p.1.1.0 hs,
    )

pub record_fits : (r : Receiver) → in_bounds r ≡ true → length r.slots ≡ 8 → Narrow r → RecordFits r
unfolding in_bounds
record_fits r e eight h =
    let o = and_elim_left (values_ok r.own r.limits) (slots_ok r.own r.slots) e in
    let a = allowed r.own r.limits o in
    let f : r.limits.first ≤ 60000 = a.first_high in
    let s : r.limits.second ≤ 60000 = a.second_high in
    record {
      first = omega arith;
      second = omega arith;
      last = h.last;
      eight = eight;
      slots = slots_fit r.own r.slots (and_elim_right (values_ok r.own r.limits) (slots_ok r.own r.slots) e) h.slots;
    }

-- ---- slots

narrow_set : (l : List (Option Session)) (i : ℕ) (s : Option Session) → SlotsNarrow l → StateNarrow s → SlotsNarrow (set l i s)
narrow_set [] i s h g = tt
narrow_set (x ∷ l) zero s (h, hs) g = (g, hs)
narrow_set (x ∷ l) (suc i) s (h, hs) g = (h, narrow_set l i s hs g)

pub fits_at : (l : List (Option Session)) (i : ℕ) → SlotsFit l → StateSmall (get_or l i free_slot)
fits_at [] i h = tt
fits_at (x ∷ l) zero (h, hs) = h
fits_at (x ∷ l) (suc i) (h, hs) = fits_at l i hs

narrow_expired : (limits : IdleLimits) (t : ℕ) (l : List (Option Session)) → SlotsNarrow l → SlotsNarrow (map (expired limits t) l)
narrow_expired limits t [] h = tt
narrow_expired limits t (x ∷ l) (h, hs) = (go x h, narrow_expired limits t l hs)
  where
    by : (s : Session) → StateNarrow (Some s) → (b : Bool) → StateNarrow (after_end (cond b (Some (ending_of s Silence)) None) (Some s))
    by s h true = tt
    by s h false = h

    go : (st : Option Session) → StateNarrow st → StateNarrow (expired limits t st)
    go None h = tt
    go (Some s) h = by s h (is_silent limits t s)

-- ---- a step applied to its slot

-- a number of three bytes
low24_small : (d : List ℕ) → Bytes d → (i : ℕ) → low24 d i < 16777216
low24_small d h i =
    let a : get_or d i 0 < 256 = h i in
    let b : get_or d (i + 1) 0 < 256 = h (i + 1) in
    let c : get_or d (i + 2) 0 < 256 = h (i + 2) in
    omega arith

small_of : (n : ℕ) → n < 16777216 → n < 4294967296
small_of n h = omega arith

-- the next record is narrow, and the answer's numbers have their places
pub record Well (x : Stepped) : Type 0 where
  pub narrow : Narrow x.next
  pub answer : AnswerFits x.answer

module _ (r : Receiver) (h : Narrow r) (f : RecordFits r) where
  after_narrow : (x : Option Session) (c : Change Session Progress) → StateNarrow x → ChangeFits c → StateNarrow (after x c)
  after_narrow x Stays n g = n
  after_narrow x (Opens s) n g = g
  after_narrow None (Moves p) n g = tt
  after_narrow (Some s) (Moves p) n g = g
  after_narrow x Ends n g = tt

  narrow_at : (l : List (Option Session)) (i : ℕ) → SlotsNarrow l → StateNarrow (get_or l i free_slot)
  narrow_at [] i n = tt
  narrow_at (x ∷ l) zero (n, ns) = n
  narrow_at (x ∷ l) (suc i) (n, ns) = narrow_at l i ns

  put : (i : ℕ) (c : Change Session Progress) → ChangeFits c → Narrow (with_slot r i (after (get_or r.slots i free_slot) c))
  put i c g = record {
    last = h.last;
    slots = narrow_set r.slots i (after (get_or r.slots i free_slot) c) h.slots
        (after_narrow (get_or r.slots i free_slot) c (narrow_at r.slots i h.slots) g);
  }

  applied_narrow : (i : ℕ) (c : Change Session Progress) → ChangeFits c → Narrow (applied r i c)
  applied_narrow i Stays g = h
  applied_narrow i (Opens s) g = put i (Opens s) g
  applied_narrow i (Moves p) g = put i (Moves p) g
  applied_narrow i Ends g = put i Ends g

  well : (g : Option ℕ) (st : Step) → StepFits st → Well (apply r g st)
  well (Some i) st s = record { narrow = applied_narrow i st.change s.change; answer = s.answer }
  well None st s = record { narrow = h; answer = s.answer }

  refused_well : (n : Refusal) → Well (refused r n)
  refused_well n = record { narrow = h; answer = tt }

  -- ---- a frame, by the slot for its key

  state_small : (g : Option ℕ) → StateSmall (state_in g r.slots)
  state_small None = tt
  state_small (Some i) = fits_at r.slots i f.slots

  slot_small : (g : Option ℕ) → Within g 8 → slot_of g < 256
  slot_small None w = omega arith
  slot_small (Some i) w = omega arith

  announces : (k : Key) (a : Announcement) → a.pgn < 4294967296 → a.segments.0 < 4294967296 → Well (announce_step r k a)
  unfolding announce_step
  announces k a p g' =
      let g : Option ℕ = slot_for k r.slots in
      well g (announced_to (state_in g r.slots) (is_some g) k a r.last) (announce_fits k a r.last p g' h.last (state_in g r.slots) (is_some g))

  controls : (route : Route) (d : List ℕ) → Bytes d → Well (control_step r route d)
  unfolding control_step control_of status_step abort_step
  controls route d b = go (not (eqb (length d) 12)) (eqb (control_at d) 0) (eqb (control_at d) 4) (eqb (control_at d) 2) (eqb (control_at d) 15 && eqb (role_at d) 0)
    where
      K : Key
      K = key_of route d

      G : Option ℕ
      G = slot_for (key_of route d) r.slots

      go : (t u v w x : Bool)
          → Well (on_control (cond t (Err TransferLength)
          (cond u (Ok (control.Announce (announcement_at Rts d)))
          (cond v (Ok (control.Announce (announcement_at Bam d)))
          (cond w (Ok (control.EndOfMessage (status_at d))) (cond x (Ok (control.Abort (abort_pgn_at d))) (Err (not_receivers d))))))) r (key_of route d))
      go true u v w x = refused_well TransferLength
      go false true v w x = announces K (announcement_at Rts d) (small_of (low24 d 9) (low24_small d b 9)) (small_of (low24 d 4) (low24_small d b 4))
      go false false true w x = announces K (announcement_at Bam d) (small_of (low24 d 9) (low24_small d b 9)) (small_of (low24 d 4) (low24_small d b 4))
      go false false false true x =
          well G (status_to (state_in G r.slots) (slot_of G) (status_at d) r.last)
          (status_fits (state_in G r.slots) (slot_of G) (status_at d) r.last (state_small G) (slot_small G (for_within K r.slots 8 f.eight)) h.last)
      go false false false false true = well G (abort_to (state_in G r.slots) (abort_pgn_at d)) (abort_fits (state_in G r.slots) (abort_pgn_at d))
      go false false false false false = refused_well (not_receivers d)

  segments : (k : Key) (sg : Segment) (d m : List ℕ) → sg.number.0 < 16777216 → Well (segment_step r k sg d m).0
  unfolding segment_step
  segments k sg d m few =
      let g : Option ℕ = slot_for k r.slots in
      well g (segment_to (state_in g r.slots) sg r.last) (segment_fits (state_in g r.slots) sg r.last (state_small g) few h.last)

  pub frame_well : (id : ℕ) (d m : List ℕ) → Bytes d → Well (frame_all r id d m).0
  unfolding frame_all data_frame_of
  frame_well id d m b = go (is_ready r m) (judged r.own id (length d))
    where
      groups : (x : GroupsRead) (route : Route) → Well (groups_step x route r)
      groups (good gs) route = record { narrow = h; answer = tt }
      groups (bad n) route = refused_well n

      datas : (t : Bool) (route : Route) → Well (on_data (cond t (Err TransferLength) (Ok (segment_at d))) r (key_of route d) d m).0
      datas true route = refused_well TransferLength
      datas false route = segments (key_of route d) (segment_at d) d m (low24_small d b 1)

      go : (t : Bool) (v : Result Content Refusal) → Well (cond t (on_verdict v r d m) (refused r OutOfBounds, m)).0
      go false v = refused_well OutOfBounds
      go true (Ok (verdict.MultiPg route)) = groups (groups_read d) route
      go true (Ok (verdict.Control route)) = controls route d b
      go true (Ok (verdict.Data route)) = datas (ltb (length d) 5) route
      go true (Err n) = refused_well n

  -- ---- a reading

  pub reading_narrow : (t : ℕ) (m : List ℕ) → t < 4294967296 → Narrow (reading_step r t m).next
  unfolding reading_step
  reading_narrow t m e = go (is_ready r m)
    where
      go : (b : Bool) → let x : Elapsed = cond b (reading_kept r t) (record { next = r; answer = Err OutOfBounds; ends = replicate 8 stays }) in
          Narrow x.next
      go true = record { last = e; slots = narrow_expired r.limits t r.slots h.slots }
      go false = h
