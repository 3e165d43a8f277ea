-- On a record in bounds every address, session number and count that an answer shows has 32 bits; and a store of bytes stays one.
use Rattle.std.specs.Prelude.{Err, None, Ok, Option, Result, Some, ℕ, ⊤, is_some}
use Prim.Native.Nat.{ℕ, zero, suc, ◌+◌, ◌-◌, ◌*◌, ◌≤◌, min}
use native.Mathlib.Omega.{arith}
use mathlib.Core.Path.{◌≡◌, refl}
use mathlib.Core.Bool.{Bool, true, false, cond, not, ◌&&◌}
use mathlib.Core.List.{List, [], ◌∷◌, ◌++◌, map}
use mathlib.Mathlib.Data.Bool.Basic.{and_elim_left, and_elim_right}
use lib.Dec.{eqb, leb, ltb}
use lib.ListN.{length, get_or, take, drop, replicate, length-take}
use lib.Seq.{paste}
use borrow.Author.Tests.{eqb-true, leb-true, ltb-false}
use Rattle.progress.specs.declared.wait.IdleLimits.{IdleLimits}
use Rattle.laws.specs.Choice.{each_of}
use Rattle.segments.specs.declared.Segments.{Segments}
use Rattle.segments.specs.Model.{first_missing, run_from}
use Rattle.segments.specs.Laws.{run_is}
use Rattle.frame.specs.declared.Address.{Address}
use Rattle.frame.specs.declared.refusal.Refusal.{Refusal}
use Rattle.frame.specs.declared.refusal.Refusal.TheVariants.{AnnouncementForm, FormatIndicator, KeyNotOpen, KeyOpen, SlotsFull, Silence, OutOfBounds}
use Rattle.frame.specs.declared.judge.Route.{Route}
use Rattle.frame.specs.declared.judge.Content.TheVariants as verdict
use Rattle.frame.specs.Identifiers.{identifier_of}
use Rattle.frame.specs.Lengths.{is_length}
use Rattle.frame.specs.Judge.{route_taken, by_format, route_of, judged}
use Rattle.multi_pg.specs.Groups.{GroupsRead, good, bad, groups_read}
use Rattle.transport.specs.Kinds.{is_rts}
use Rattle.transport.specs.declared.Key.{Key}
use Rattle.transport.specs.declared.announcement.Announcement.{Announcement}
use Rattle.transport.specs.declared.eoms.Status.{Status}
use Rattle.transport.specs.declared.control.Control.TheVariants as control
use Rattle.transport.specs.declared.segment.Segment.{Segment}
use Rattle.transport.specs.Control.{control_of}
use Rattle.transport.specs.Heads.{key_of}
use Rattle.transport.specs.Segments.{data_at, data_frame_of}
use Rattle.answer.specs.declared.Answer.{Answer}
use Rattle.answer.specs.declared.Answer.TheVariants as answer
use Rattle.answer.specs.Places.{place_of, cut_of, place_bytes}
use Rattle.progress.specs.Forward.{grant_of, cts_due}
use Rattle.progress.specs.Requests.{asked_count}
use Rattle.session.specs.declared.Session.{Session}
use Rattle.session.specs.declared.Change.{Change}
use Rattle.session.specs.declared.Change.TheVariants.{Stays, Opens, Moves, Ends}
use Rattle.session.specs.declared.Step.{Step}
use Rattle.session.specs.declared.segment.Judged.{Judged}
use Rattle.session.specs.declared.segment.Judged.TheVariants as judgement
use Rattle.session.specs.Announcements.{misdirected, form_of, first_cts}
use Rattle.session.specs.Segments.{due_of, judged_of, next_cts}
use Rattle.session.specs.Cases.{by_status}
use Rattle.session.specs.Decisions.{stays, ended, if_open, rejection, accepted_if, is_restart, for_key, on_form, announced_to, on_judged, segment_open, segment_to, message_of, status_to, abort_to, ending_of, is_silent}
use Rattle.session.specs.Bounds.{state_ok, session_ok}
use Rattle.session.specs.InBounds.{sound_of}
use Rattle.session.specs.Fits.{Small}
use Rattle.slots.specs.Slots.{slot_for, state_in, free_slot}
use Rattle.slots.specs.Bounds.{values_ok, twin_of, slots_ok}
use Rattle.receiver.specs.declared.Receiver.{Receiver}
use Rattle.receiver.specs.Bounds.{in_bounds}
use Rattle.receiver.specs.Calls as calls
use Rattle.receiver.specs.Calls.{refused, slot_of, announce_step, status_step, abort_step, on_control, control_step, stored_by, segment_step, on_data}
use Rattle.receiver.specs.Calls.{is_ready, groups_step, on_verdict, frame_all, end_of, Elapsed, reading_kept, reading_step}
use Rattle.record_bytes.specs.Kept.{Bytes}
use Rattle.trace.specs.NumberTrips.{bytes_drop}
use Rattle.isolation.proofs.Many.{own_small}
use Rattle.program.proofs.Long.{KeySmall, RouteSmall, AnswerSmall, EndSmall, EndsSmall}
use Rattle.frame.specs.declared.judge.Content.{Content}
use Rattle.transport.specs.declared.control.Control.{Control}
use Rattle.progress.specs.declared.Progress.{Progress}

-- ---- the frame's own numbers

abbrev VerdictSmall : Result Content Refusal → Type 0
VerdictSmall (Ok (verdict.MultiPg route)) = RouteSmall route
VerdictSmall (Ok (verdict.Control route)) = RouteSmall route
VerdictSmall (Ok (verdict.Data route)) = RouteSmall route
VerdictSmall (Err n) = Unit {0}

either_verdict : (t : Bool) (a b : Result Content Refusal) → VerdictSmall a → VerdictSmall b → VerdictSmall (cond t a b)
either_verdict true a b p q = p
either_verdict false a b p q = q

verdict_small : (own : Address) (id n : ℕ) → VerdictSmall (judged own id n)
unfolding judged by_format
verdict_small own id n =
    let route : RouteSmall (route_of (identifier_of id)) = (omega arith, omega arith) in
    either_verdict (leb 536870912 id) _ _ tt
    (either_verdict (not (is_length n)) _ _ tt
    (either_verdict (not (route_taken own (identifier_of id))) _ _ tt
    (either_verdict (eqb (identifier_of id).pf 37) _ _ route
    (either_verdict (eqb (identifier_of id).pf 77) _ _ route
    (either_verdict (eqb (identifier_of id).pf 78) _ _ route tt)))))

key_small : (route : Route) (d : List ℕ) → RouteSmall route → KeySmall (key_of route d)
key_small route d (a, b) = (a, (b, omega arith))

-- ---- an open session's key

abbrev StateKeys : Option Session → Type 0
StateKeys None = Unit {0}
StateKeys (Some s) = KeySmall s.announced.key

abbrev SlotsKeys : List (Option Session) → Type 0
SlotsKeys [] = Unit {0}
SlotsKeys (s ∷ ss) = StateKeys s × SlotsKeys ss

session_key : (own : Address) (s : Session) → own.0 ≤ 253 → session_ok own s ≡ true → KeySmall s.announced.key
session_key own s h ok =
    let t = each_of (leb s.announced.key.sa.0 253 ∷ not (eqb s.announced.key.sa.0 own.0) ∷ eqb s.announced.key.da.0
    (cond (is_rts s.announced.kind) own.0 255) ∷ leb s.announced.key.session.0 15 ∷ []) (sound_of own s ok).key in
    let a : s.announced.key.sa.0 ≤ 253 = leb-true s.announced.key.sa.0 253 t.0 in
    let b : s.announced.key.da.0 ≡ cond (is_rts s.announced.kind) own.0 255 = eqb-true s.announced.key.da.0 (cond (is_rts s.announced.kind) own.0 255) t.1.1.0 in
    let c : s.announced.key.session.0 ≤ 15 = leb-true s.announced.key.session.0 15 t.1.1.1.0 in
    let e : cond (is_rts s.announced.kind) own.0 255 ≤ 255 = either (is_rts s.announced.kind) in
    (omega arith, (omega arith, omega arith))
  where
    either : (b : Bool) → cond b own.0 255 ≤ 255
    either true = omega arith
    either false = omega arith

state_key : (own : Address) (x : Option Session) → own.0 ≤ 253 → state_ok own x ≡ true → StateKeys x
state_key own None h e = tt
state_key own (Some s) h e = session_key own s h e

slots_keys : (own : Address) (l : List (Option Session)) → own.0 ≤ 253 → slots_ok own l ≡ true → SlotsKeys l
unfolding slots_ok
slots_keys own [] h e = tt
slots_keys own (s ∷ ss) h e =
    let p = each_of (state_ok own s ∷ not (twin_of s ss) ∷ slots_ok own ss ∷ []) e in (
      state_key own s h p.0,
      slots_keys own ss h p.1.1.0,
    )

record_keys : (r : Receiver) → in_bounds r ≡ true → SlotsKeys r.slots
unfolding in_bounds
record_keys r e =
    let o = and_elim_left (values_ok r.own r.limits) (slots_ok r.own r.slots) e in
    slots_keys r.own r.slots (own_small r.own r.limits o) (and_elim_right (values_ok r.own r.limits) (slots_ok r.own r.slots) e)

keys_at : (l : List (Option Session)) (i : ℕ) → SlotsKeys l → StateKeys (get_or l i free_slot)
keys_at [] i h = tt
keys_at (x ∷ l) zero (h, hs) = h
keys_at (x ∷ l) (suc i) (h, hs) = keys_at l i hs

keys_in : (f : Option ℕ) (l : List (Option Session)) → SlotsKeys l → StateKeys (state_in f l)
keys_in None l h = tt
keys_in (Some i) l h = keys_at l i h

-- ---- what a session answers

either : (t : Bool) (a b : Answer) → AnswerSmall a → AnswerSmall b → AnswerSmall (cond t a b)
either true a b p q = p
either false a b p q = q

grant_small : (max left : ℕ) → Small (grant_of max left)
unfolding grant_of
grant_small max left = omega arith

announce_small : (x : Option Session) (room : Bool) (k : Key) (a : Announcement) (last : ℕ) → KeySmall k → AnswerSmall (announced_to x room k a last).answer
unfolding announced_to
announce_small x room k a last h = go (misdirected k.da a.kind) (form_of a)
  where
    rejects : (n : Refusal) → AnswerSmall (rejection k a n)
    rejects n = either (is_rts a.kind) _ _ h tt

    accepted : (t : Bool) (n : Refusal) → AnswerSmall (accepted_if t n k a last).answer
    accepted true n = either (is_rts a.kind) (answer.Grant (first_cts k a)) (answer.Opened k) (h, grant_small a.max a.segments.0) h
    accepted false n = rejects n

    for_key_lem : (x : Option Session) (room : Bool) → AnswerSmall (for_key x room k a last).answer
    for_key_lem (Some s) room = accepted (is_restart s a) KeyOpen
    for_key_lem None room = accepted room SlotsFull

    go : (t : Bool) (f : Result ⊤ Refusal) → AnswerSmall (cond t (stays (answer.Refused AnnouncementForm)) (on_form f x room k a last)).answer
    go true f = tt
    go false (Ok tt) = for_key_lem x room
    go false (Err n) = rejects n

segment_small : (x : Option Session) (sg : Segment) (last : ℕ) → StateKeys x → AnswerSmall (segment_to x sg last).answer
unfolding segment_to
segment_small x sg last h = go x h (not (eqb sg.format 0))
  where
    judges : (s : Session) → KeySmall s.announced.key → (j : Judged) → AnswerSmall (on_judged j s sg.number.0 last).answer
    judges s k (judgement.Refused n) = tt
    judges s k (judgement.Ends n) = k
    judges s k judgement.Takes =
        either (cts_due s.progress s.announced sg.number.0) (answer.Grant (next_cts s.announced sg.number.0))
        (answer.Taken (record { key = s.announced.key; number = record { 0 = sg.number.0 } })) (k, grant_small _ _) k

    go : (x : Option Session) → StateKeys x → (t : Bool) → AnswerSmall (cond t (stays (answer.Refused FormatIndicator)) (if_open x (λ s. segment_open s sg.number.0 sg.room last))).answer
    go x h true = tt
    go None h false = tt
    go (Some s) h false = judges s h (judged_of s sg.number.0 sg.room)

-- one CTS asks for 16 segments at most
asked_small : (t : Segments) (c max : ℕ) → Small (asked_count t c max)
asked_small t c max = go (leb 1 (first_missing t c) && leb (first_missing t c) c)
  where
    go : (b : Bool) → Small (cond b (run_from t (first_missing t c) (min (min max 16) (c + 1 - first_missing t c))) 0)
    go true = omega (arith, (run_is t (first_missing t c) (min (min max 16) (c + 1 - first_missing t c))).most)
    go false = omega arith

status_small : (x : Option Session) (slot : ℕ) (st : Status) (last : ℕ) → StateKeys x → AnswerSmall (status_to x slot st last).answer
unfolding status_to
status_small None slot st last h = tt
status_small (Some s) slot st last h =
    by_status (λ (r : Step). AnswerSmall r.answer) s slot st last h (λ _ _. h) (λ _ _ _. (h, asked_small s.progress.taken s.announced.segments.0 s.announced.max)) h

abort_small : (x : Option Session) (pgn : ℕ) → StateKeys x → AnswerSmall (abort_to x pgn).answer
unfolding abort_to
abort_small None pgn h = tt
abort_small (Some s) pgn h = go (eqb pgn s.announced.pgn)
  where
    go : (t : Bool) → AnswerSmall (cond t (record { change = Ends; answer = answer.Aborted s.announced.key }) (stays (answer.Refused KeyNotOpen))).answer
    go true = h
    go false = tt

-- ---- a frame

module _ (r : Receiver) (h : SlotsKeys r.slots) where
  controls : (c : Result Control Refusal) (k : Key) → KeySmall k → AnswerSmall (on_control c r k).answer
  unfolding announce_step status_step abort_step
  controls (Ok (control.Announce a)) k g =
      let f : Option ℕ = slot_for k r.slots in announce_small (state_in f r.slots) (is_some f) k a r.last g
  controls (Ok (control.EndOfMessage st)) k g =
      let f : Option ℕ = slot_for k r.slots in status_small (state_in f r.slots) (slot_of f) st r.last (keys_in f r.slots h)
  controls (Ok (control.Abort pgn)) k g =
      let f : Option ℕ = slot_for k r.slots in abort_small (state_in f r.slots) pgn (keys_in f r.slots h)
  controls (Err n) k g = tt

  datas : (x : Result Segment Refusal) (k : Key) (d m : List ℕ) → AnswerSmall (on_data x r k d m).0.answer
  unfolding segment_step
  datas (Ok sg) k d m =
      let f : Option ℕ = slot_for k r.slots in segment_small (state_in f r.slots) sg r.last (keys_in f r.slots h)
  datas (Err n) k d m = tt

  by_verdict_lem : (v : Result Content Refusal) (d m : List ℕ) → VerdictSmall v → AnswerSmall (on_verdict v r d m).0.answer
  unfolding control_step
  by_verdict_lem (Ok (verdict.MultiPg route)) d m g = go (groups_read d)
    where
      go : (x : GroupsRead) → AnswerSmall (groups_step x route r).answer
      go (good gs) = g
      go (bad n) = tt
  by_verdict_lem (Ok (verdict.Control route)) d m g = controls (control_of d) (key_of route d) (key_small route d g)
  by_verdict_lem (Ok (verdict.Data route)) d m g = datas (data_frame_of d) (key_of route d) d m
  by_verdict_lem (Err n) d m g = tt

pub frame_small : (r : Receiver) → in_bounds r ≡ true → (id : ℕ) (d m : List ℕ) → AnswerSmall (frame_all r id d m).0.answer
unfolding frame_all
frame_small r e id d m = go (is_ready r m)
  where
    go : (t : Bool) → AnswerSmall (cond t (on_verdict (judged r.own id (length d)) r d m) (refused r OutOfBounds, m)).0.answer
    go true = by_verdict_lem r (record_keys r e) (judged r.own id (length d)) d m (verdict_small r.own id (length d))
    go false = tt

-- ---- a reading

ends_small : (limits : IdleLimits) (t : ℕ) (l : List (Option Session)) → SlotsKeys l → EndsSmall (map (end_of limits t) l)
ends_small limits t [] h = tt
ends_small limits t (x ∷ l) (h, hs) = (go x h, ends_small limits t l hs)
  where
    by : (s : Session) → KeySmall s.announced.key → (b : Bool) → EndSmall (cond b (Some (ending_of s Silence)) None)
    by s k true = k
    by s k false = tt

    go : (st : Option Session) → StateKeys st → EndSmall (end_of limits t st)
    go None k = tt
    go (Some s) k = by s k (is_silent limits t s)

pub reading_small : (r : Receiver) → in_bounds r ≡ true → (t : ℕ) (m : List ℕ) → EndsSmall (reading_step r t m).ends
unfolding reading_step
reading_small r e t m = go (is_ready r m)
  where
    go : (b : Bool) → let x : Elapsed = cond b (reading_kept r t) (record { next = r; answer = Err OutOfBounds; ends = replicate 8 calls.stays }) in
        EndsSmall x.ends
    go true = ends_small r.limits t r.slots (record_keys r e)
    go false = (tt, (tt, (tt, (tt, (tt, (tt, (tt, (tt, tt))))))))

-- ---- bytes

bytes_append : (xs ys : List ℕ) → Bytes xs → Bytes ys → Bytes (xs ++ ys)
bytes_append [] ys h g i = g i
bytes_append (x ∷ xs) ys h g zero = h zero
bytes_append (x ∷ xs) ys h g (suc i) = bytes_append xs ys (λ j. h (suc j)) g i

pub bytes_take : (n : ℕ) (l : List ℕ) → Bytes l → Bytes (take n l)
bytes_take zero l h i = omega arith
bytes_take (suc n) [] h i = omega arith
bytes_take (suc n) (x ∷ l) h zero = h zero
bytes_take (suc n) (x ∷ l) h (suc i) = bytes_take n l (λ j. h (suc j)) i

pub bytes_front : (xs ys : List ℕ) → Bytes (xs ++ ys) → Bytes xs
bytes_front [] ys h i = omega arith
bytes_front (x ∷ xs) ys h zero = h zero
bytes_front (x ∷ xs) ys h (suc i) = bytes_front xs ys (λ j. h (suc j)) i

bytes_paste : (m : List ℕ) (at : ℕ) (s : List ℕ) (n : ℕ) → Bytes m → Bytes s → Bytes (paste m at s n)
bytes_paste m at s n h g =
    bytes_append (take at m ++ take n s) (drop (at + n) m) (bytes_append (take at m) (take n s) (bytes_take at m h) (bytes_take n s g)) (bytes_drop m (at + n) h)

pub bytes_zeros : (n : ℕ) → Bytes (replicate n 0)
bytes_zeros zero i = omega arith
bytes_zeros (suc n) zero = omega arith
bytes_zeros (suc n) (suc i) = bytes_zeros n i

-- the store after a frame of bytes
module _ (d m : List ℕ) (b : Bytes d) (c : Bytes m) where
  stored_bytes : (g : Change Session Progress) (f : Option ℕ) (x : Option Session) (n : ℕ) → Bytes (stored_by g f x n d m)
  stored_bytes (Moves p) (Some i) (Some s) n = bytes_paste m (4096 * i + 60 * (n - 1)) (data_at d) (due_of s.announced.total.0 n) c (bytes_drop d 4 b)
  stored_bytes (Moves p) (Some i) None n = c
  stored_bytes (Moves p) None x n = c
  stored_bytes Stays f x n = c
  stored_bytes (Opens s) f x n = c
  stored_bytes Ends f x n = c

  pub frame_bytes : (r : Receiver) (id : ℕ) → Bytes (frame_all r id d m).1
  unfolding frame_all segment_step
  frame_bytes r id = go (is_ready r m) (judged r.own id (length d))
    where
      datas_bytes : (x : Result Segment Refusal) (k : Key) → Bytes (on_data x r k d m).1
      datas_bytes (Ok sg) k =
          let f : Option ℕ = slot_for k r.slots in
          let x : Option Session = state_in f r.slots in
          stored_bytes (segment_to x sg r.last).change f x sg.number.0
      datas_bytes (Err n) k = c

      go : (t : Bool) (v : Result Content Refusal) → Bytes (cond t (on_verdict v r d m) (refused r OutOfBounds, m)).1
      go false v = c
      go true (Ok (verdict.MultiPg route)) = c
      go true (Ok (verdict.Control route)) = c
      go true (Ok (verdict.Data route)) = datas_bytes (data_frame_of d) (key_of route d)
      go true (Err n) = c

-- ---- the bytes of an answer: a message's, at most 4,096

pub record Few (l : List ℕ) : Type 0 where
  pub bytes : Bytes l
  pub few : length l ≤ 4096

few_none : Few []
few_none = record { bytes = λ i. omega arith; few = omega arith }

few_if : (t : Bool) (a b : List ℕ) → Few a → (t ≡ false → Few b) → Few (cond t a b)
few_if true a b p q = p
few_if false a b p q = q refl

few_cut : (s : List ℕ) (start n : ℕ) → Bytes s → n ≤ 4096 → Few (cut_of s start n)
few_cut s start n h g =
    few_if (ltb (length s) start) [] _ few_none (λ _.
    few_if (ltb (length s - start) n) [] (take n (drop start s)) few_none (λ _.
    let e : length (take n (drop start s)) ≡ min n (length (drop start s)) = length-take n (drop start s) in
    record { bytes = bytes_take n (drop start s) (bytes_drop s start h); few = omega arith }))

pub place_few : (a : Answer) (d m : List ℕ) → Bytes m → Few (place_bytes (place_of a) d m)
place_few (answer.HandedOver x) d m h =
    few_if (leb 8 x.slot) [] _ few_none (λ _.
    few_if (ltb 4096 x.total.0) [] _ few_none (λ e.
    few_cut m (4096 * x.slot) x.total.0 h (ltb-false 4096 x.total.0 e)))
place_few (answer.Groups route) d m h = few_none
place_few (answer.Opened k) d m h = few_none
place_few (answer.Taken t) d m h = few_none
place_few (answer.Grant c) d m h = few_none
place_few (answer.Aborted k) d m h = few_none
place_few (answer.Ended e) d m h = few_none
place_few (answer.RefusedRts j) d m h = few_none
place_few (answer.Refused n) d m h = few_none
