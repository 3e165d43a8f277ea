-- A run that 01's opening begins never loses a record: the lines of every record have the room that is kept free for them.
use Prim.Native.Nat.{ℕ, ◌≤◌, min}
use native.Mathlib.Omega.{arith}
use mathlib.Core.Path.{◌≡◌, sym, ap, subst, ◌∙◌}
use mathlib.Core.Bool.{Bool, true, false}
use mathlib.Core.List.{List}
use lib.ListN.{length, take, drop, replicate, length-take}
use Rattle.answer.specs.declared.Answer.{Answer}
use Rattle.answer.specs.Places.{place_of, place_bytes}
use Rattle.receiver.specs.declared.Receiver.{Receiver}
use Rattle.receiver.specs.Calls.{frame_all, reading_step}
use Rattle.record_bytes.specs.Kept.{Bytes}
use Rattle.std.specs.Prelude.{Option, Some, None, Result, Ok, Err}
use Rattle.trace.specs.declared.Fault.{Fault}
use Rattle.trace.specs.declared.Fault.TheVariants.{Cut}
use Rattle.trace.specs.declared.record.Record.{Record}
use Rattle.trace.specs.declared.record.Record.TheVariants as trace
use Rattle.trace.specs.NumberTrips as numbers
use Rattle.trace.specs.Records as records
use Rattle.carried.proofs.Fits.{frame_well}
use Rattle.carried.proofs.Answers.{reading_eight}
use Rattle.carried.proofs.Run.{Fine, fine_fits}
use Rattle.run.specs.Lines.{the_receiver, Done, framed, elapsed, Turn, took, over, cut, bad, turn_by, turn_at, State}
use Rattle.run.specs.Steps.{in_bytes}
use Rattle.run.specs.Within.{Within, record_within}
use Rattle.run.specs.Goes.{Goes, none, more, record_room, Stops}
use Rattle.run.specs.Takes.{is_long, TakesOr}
use Rattle.run.specs.Feeds.{GoesOn}
use Rattle.run.specs.declared.piece.Stop.{Stop}
use Rattle.run.specs.declared.piece.Stop.TheVariants as stop
use Rattle.run.specs.declared.piece.Went.{Went}
use Rattle.program.specs.Opening.{opened_bytes}
use Rattle.program.specs.Calls.{Call, Reached, opens, goes_on}
use Rattle.program.proofs.Long.{answer_short, reading_short}
use Rattle.program.proofs.Numbers.{Few, frame_small, reading_small, bytes_take, bytes_zeros, frame_bytes, place_few}
use Rattle.program.proofs.Program.{Same, SameTurn, both_took, both_over, both_cut, both_bad, same_turn, first, opening_same}

-- ---- one record, taken by the receiver

-- its lines have room, and the store is one of bytes
abbrev Brief : Turn Receiver → Type 0
Brief (took y next) = (length y.lines ≤ record_room) × Bytes y.store
Brief over = Unit {0}
Brief cut = Unit {0}
Brief bad = Unit {0}

module _ (r : Receiver) (m : List ℕ) (h : Fine r m) (c : Bytes m) where
  frame_brief : (id : ℕ) (d : List ℕ) (next : ℕ) → Bytes d → length d ≤ 64 → Brief (took (framed d (the_receiver.frame r id d m)) next)
  frame_brief id d next b l =
      let a : Answer = (frame_all r id d m).0.answer in
      let s : Bytes (frame_all r id d m).1 = frame_bytes d m b c r id in
      let p : Few (place_bytes (place_of a) d (frame_all r id d m).1) = place_few a d (frame_all r id d m).1 s in (
        answer_short d a (place_bytes (place_of a) d (frame_all r id d m).1) b l (frame_well r h.narrow (fine_fits r m h) id d m b).answer (frame_small r h.bounds id d m) p.bytes p.few,
        s,
      )

  reading_brief : (t next : ℕ) → Brief (took (elapsed m (the_receiver.reading r t m)) next)
  reading_brief t next = (
    reading_short (reading_step r t m).answer (reading_step r t m).ends (reading_eight r (fine_fits r m h) t m) (reading_small r h.bounds t m),
    c,
  )

  brief_by : (d : List ℕ) (at : ℕ) → Bytes d → (q : Result (Option Record) Fault) → Within d at q → Brief (turn_by the_receiver r m d q)
  brief_by d at w (Ok (Some (trace.Reading t next))) g = reading_brief t next
  brief_by d at w (Ok (Some (trace.Frame id begin n next))) (low, same, high, few) =
      let l : length (take n (drop begin d)) ≡ min n (length (drop begin d)) = length-take n (drop begin d) in
      frame_brief id (take n (drop begin d)) next (bytes_take n (drop begin d) (numbers.bytes_drop d begin w)) (omega arith)
  brief_by d at w (Ok None) g = tt
  brief_by d at w (Err Cut) g = tt
  brief_by d at w (Err f) g = tt

  brief_turn : (d : List ℕ) (at : ℕ) → Bytes d → Brief (turn_at the_receiver r m d at)
  unfolding turn_at
  brief_turn d at w = brief_by d at w (records.record_at d at) (record_within d at)

-- ---- the same over lent bytes

-- the bytes b hold a record in bounds beside a whole store of bytes m
pub record Held (b m : List ℕ) : Type 0 where
  pub receiver : Receiver
  pub same : Same b receiver m
  pub bytes : Bytes m

pub opening_held : Held opened_bytes (replicate 32768 0)
opening_held = record { receiver = first; same = opening_same; bytes = bytes_zeros 32768 }

abbrev Safe : Turn (List ℕ) → Type 0
Safe (took x next) = (length x.lines ≤ record_room) × Held x.receiver x.store
Safe over = Unit {0}
Safe cut = Unit {0}
Safe bad = Unit {0}

safe_by : {t : Turn (List ℕ)} {u : Turn Receiver} → SameTurn t u → Brief u → Safe t
safe_by (both_took x y n l s h) (few, b) = (
  subst (λ (z : List ℕ). length z ≤ record_room) (sym l) few,
  subst (Held x.receiver) (sym s) (record { receiver = y.receiver; same = h; bytes = b }),
)
safe_by both_over g = tt
safe_by both_cut g = tt
safe_by both_bad g = tt

module _ (d : List ℕ) (w : Bytes d) where
  -- every record's lines have room, and what it leaves is held again
  pub room_enough : (b m : List ℕ) (at : ℕ) → Held b m → (x : Done (List ℕ)) (next : ℕ) → turn_at in_bytes b m d at ≡ took x next
      → (length x.lines ≤ record_room) × Held x.receiver x.store
  room_enough b m at h x next e =
      subst Safe e (safe_by (same_turn b h.receiver m h.same d at w) (brief_turn h.receiver m h.same.fine h.bytes d at w))

  goes_held : {s t : State (List ℕ)} {l : List ℕ} → Goes in_bytes d s l t → Held s.receiver s.store → Held t.receiver t.store
  goes_held none h = h
  goes_held (more {l} {t} x next g e) h = (room_enough t.receiver t.store t.place (goes_held g h) x next e).1

-- ---- one call of `take`

module _ {s : State (List ℕ)} {d : List ℕ} (w : Bytes d) (h : Held s.receiver s.store) (c : Call s d) where
  abbrev StopsAs : Stop → Type 0
  StopsAs z = Stops d c.takes.to (length c.buffer) c.takes.end z c.receiver c.store

  last_held : Held c.takes.to.receiver c.takes.to.store
  last_held = goes_held d w c.takes.goes h

  lost_by_lem : (z : Stop) → StopsAs z → z ≡ stop.Lost → ⊥
  lost_by_lem stop.Lost (x, next, e, room, short, f, g) q =
      let t : State (List ℕ) = c.takes.to in
      let few : length x.lines ≤ record_room = (room_enough d w t.receiver t.store t.place last_held x next e).0 in
      omega arith
  lost_by_lem stop.Bytes g q = absurd (let y : ◌≡◌ {A = ℕ} 0 1 = cc in omega arith)
  lost_by_lem stop.Room g q = absurd (let y : ◌≡◌ {A = ℕ} 0 1 = cc in omega arith)
  lost_by_lem stop.Bad g q = absurd (let y : ◌≡◌ {A = ℕ} 0 1 = cc in omega arith)
  lost_by_lem stop.Long g q = g

  held_by : (z : Stop) → GoesOn z → StopsAs z → Held c.receiver c.store
  held_by stop.Bytes g (a, e, f) = rw (e, f) last_held
  held_by stop.Room g (a, e, f) = rw (e, f) last_held
  held_by stop.Bad g q = absurd g
  held_by stop.Lost g q = absurd g
  held_by stop.Long g q = absurd g

  pub call_not_lost : c.went.stop ≡ stop.Lost → ⊥
  call_not_lost e = lost_by_lem c.went.stop c.takes.stops e

  pub call_held : GoesOn c.went.stop → Held c.receiver c.store
  call_held g = held_by c.went.stop g c.takes.stops

-- ---- a run

reached_held : {s : State (List ℕ)} → Reached s → Held s.receiver s.store
reached_held opens = opening_held
reached_held (goes_on x w c g) = call_held w (reached_held x) c g

-- NOTHING IS LOST. In a run from 01's opening no call of `take`, over any bytes and with any buffer for the lines, stops with `Lost`.
module _ (s : State (List ℕ)) (d o : List ℕ) (p : ℕ) (r : Went) (b m o' : List ℕ) where
  pub never_lost : Reached s → Bytes d → TakesOr (is_long s.records s.place (length d)) d s.records s.place s.receiver s.store o p r b m o'
      → r.stop ≡ stop.Lost → ⊥
  never_lost x w t e = go (is_long s.records s.place (length d)) t
    where
      go : (u : Bool) → TakesOr u d s.records s.place s.receiver s.store o p r b m o' → ⊥
      go true (f, same_b, same_m, same_o) =
          let z : stop.Long ≡ stop.Lost = sym (ap (λ (y : Went). y.stop) f) ∙ e in
          absurd (let y : ◌≡◌ {A = ℕ} 0 1 = cc in omega arith)
      go false t = call_not_lost w (reached_held x) (record { buffer = o; from = p; went = r; receiver = b; store = m; written = o'; takes = t }) e
