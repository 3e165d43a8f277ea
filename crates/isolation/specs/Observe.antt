-- What the receiver shows for one key over a list of calls, leaving out slots and places in the store.
use Rattle.std.specs.Prelude.{ℕ, Bool, true, false, cond, not, ◌&&◌, ◌||◌, List, [], ◌∷◌, ◌++◌, map, eqb, None, Option, Some}
use Rattle.frame.specs.Refusals.{number_of}
use Rattle.transport.specs.declared.Key.{Key}
use Rattle.receiver.specs.declared.Receiver.{Receiver}
use Rattle.answer.specs.declared.Ending.{Ending}
use Rattle.answer.specs.declared.Answer.{Answer}
use Rattle.answer.specs.declared.Answer.TheVariants.{Groups, Opened, Taken, Grant, HandedOver, Aborted, Ended, RefusedRts, Refused}
use Rattle.receiver.specs.Calls.{Elapsed}
use Rattle.receiver.specs.Calls.{Outcome, frame_all, reading_step}
use Rattle.answer.specs.Answers.{answer_number, acceptance_number, answer_sends, end_sends, wire_of}
use Rattle.answer.specs.Places.{place_of, place_bytes}
use Rattle.isolation.specs.OwnFrames.{key_at, frame_key, Body, body_of}
use Rattle.isolation.specs.Replies.{Reply, Says, nothing, opened, took, granted, handed, aborted, ended, rejected}
use Rattle.isolation.specs.Rules.{Values, Seen, answer, reading, stray}
use Rattle.isolation.specs.World.{frame, clock, Call, lent, elsewhere}
use Rattle.session.specs.declared.Session.{Session}

-- ---- keys

-- the key of number k: SA, DA and session number, all three
abbrev pub is_key : ℕ → Key → Bool
is_key k κ =
    eqb κ.sa.0 (key_at k).sa.0 && eqb κ.da.0 (key_at k).da.0 && eqb κ.session.0 (key_at k).session.0

abbrev pub open_at : ℕ → Option Session → Bool
open_at k None = false
open_at k (Some s) = is_key k s.announced.key

-- some slot has the key open
unfoldable pub open_in : ℕ → List (Option Session) → Bool
open_in k [] = false
open_in k (s ∷ ss) = open_at k s || open_in k ss

-- ---- answers

-- a message's bytes are the part of the store that its place names; the frame lent beside it is not looked at
unfoldable pub says_of : Answer → List ℕ → Says
says_of (Groups route) m = nothing
says_of (Opened k) m = opened k
says_of (Taken t) m = took t.key t.number.0
says_of (Grant c) m = granted c.key c.next.0 c.count c.pgn
says_of (HandedOver x) m =
    handed x.key x.kind x.total.0 x.segments.0 x.pgn (place_bytes (place_of (HandedOver x)) [] m)
says_of (Aborted k) m = aborted k
says_of (Ended e) m = ended e.key e.kind e.pgn
says_of (RefusedRts j) m = rejected j.key j.pgn
says_of (Refused n) m = nothing

-- number, values and frame sent; m is the store as the call returns
unfoldable pub reply_of : Answer → List ℕ → Reply
reply_of a m = record { number = answer_number a; says = says_of a m; sends = wire_of (answer_sends a) }

-- an answer that carries the key, whatever it says of it
unfoldable pub touches : ℕ → Answer → Bool
touches k (Groups route) = false
touches k (Opened j) = is_key k j
touches k (Taken t) = is_key k t.key
touches k (Grant c) = is_key k c.key
touches k (HandedOver x) = is_key k x.key
touches k (Aborted j) = is_key k j
touches k (Ended e) = is_key k e.key
touches k (RefusedRts j) = is_key k j.key
touches k (Refused n) = false

-- ---- a frame

-- the frame is the key's own, by the document
unfoldable pub is_body : Option Body → Bool
is_body None = false
is_body (Some b) = true

unfoldable pub is_own : Values → ℕ → ℕ → List ℕ → Bool
is_own v k id d = is_body (body_of v.own id d) && eqb (frame_key id d) k

-- the key is open in the record before a call, and not in the record after it
unfoldable pub lost : ℕ → Receiver → Receiver → Bool
lost k r r' = open_in k r.slots && not (open_in k r'.slots)

-- a frame that is not the key's own shows only that it was answered with the key, or that by the records it ended the key's session
-- (y: the reply, as it is read)
abbrev pub strays_as : ℕ → Receiver → Outcome → Reply → List Seen
strays_as k r o y = cond (touches k o.0.answer || lost k r o.0.next) (stray y ∷ []) []

unfoldable pub strays : ℕ → Receiver → Outcome → List Seen
strays k r o = strays_as k r o (reply_of o.0.answer o.1)

abbrev pub frame_seen_as : Values → ℕ → Receiver → ℕ → List ℕ → Outcome → Reply → List Seen
frame_seen_as v k r id d o y = cond (is_own v k id d) (answer y ∷ []) (strays_as k r o y)

unfoldable pub frame_seen : Values → ℕ → Receiver → ℕ → List ℕ → Outcome → List Seen
frame_seen v k r id d o = frame_seen_as v k r id d o (reply_of o.0.answer o.1)

-- ---- a reading

unfoldable pub end_reply : Ending → Reply
end_reply e =
    record {
      number = number_of e.refusal;
      says = ended e.key e.kind e.pgn;
      sends = wire_of (end_sends (Some e));
    }

-- the endings of key k, of one slot and of all
unfoldable pub ending_of : ℕ → Option Ending → List Reply
ending_of k None = []
ending_of k (Some e) = cond (is_key k e.key) (end_reply e ∷ []) []

unfoldable pub endings_of : ℕ → List (Option Ending) → List Reply
endings_of k [] = []
endings_of k (s ∷ ss) = ending_of k s ++ endings_of k ss

-- its number and the key's endings
abbrev pub reading_seen_as : ℕ → List Reply → List Seen
reading_seen_as n ends = reading n ends ∷ []

unfoldable pub reading_seen : ℕ → Elapsed → List Seen
reading_seen k e = reading_seen_as (acceptance_number e.answer) (endings_of k e.ends)

-- ---- a call that is lent another buffer: left out because its answer is 23

unfoldable pub is_bounds_refusal : Answer → Bool
is_bounds_refusal (Refused n) = eqb (number_of n) 23
is_bounds_refusal (Groups route) = false
is_bounds_refusal (Opened k) = false
is_bounds_refusal (Taken t) = false
is_bounds_refusal (Grant c) = false
is_bounds_refusal (HandedOver x) = false
is_bounds_refusal (Aborted k) = false
is_bounds_refusal (Ended e) = false
is_bounds_refusal (RefusedRts j) = false

abbrev pub frame_elsewhere_as : Values → ℕ → Receiver → ℕ → List ℕ → Outcome → Reply → List Seen
frame_elsewhere_as v k r id d o y =
    cond (is_bounds_refusal o.0.answer) (strays_as k r o y) (frame_seen_as v k r id d o y)

unfoldable pub frame_elsewhere : Values → ℕ → Receiver → ℕ → List ℕ → Outcome → List Seen
frame_elsewhere v k r id d o = frame_elsewhere_as v k r id d o (reply_of o.0.answer o.1)

abbrev pub reading_elsewhere_as : ℕ → Receiver → Receiver → ℕ → List Reply → List Seen
reading_elsewhere_as k r r' n ends =
    cond (eqb n 23 && not (lost k r r')) (map stray ends) (reading_seen_as n ends)

unfoldable pub reading_elsewhere : ℕ → Receiver → Elapsed → List Seen
reading_elsewhere k r e = reading_elsewhere_as k r e.next (acceptance_number e.answer) (endings_of k e.ends)

-- ---- calls, made one after another: each gets the record that the last one returned, and the store that it left or another buffer

unfoldable pub shows : Values → ℕ → Receiver → List ℕ → Call → List Seen
shows v k r m (lent (frame id d)) = frame_seen v k r id d (frame_all r id d m)
shows v k r m (lent (clock t)) = reading_seen k (reading_step r t m)
shows v k r m (elsewhere b e (frame id d)) = frame_elsewhere v k r id d (frame_all r id d b)
shows v k r m (elsewhere b e (clock t)) = reading_elsewhere k r (reading_step r t b)

unfoldable pub record_after : Receiver → List ℕ → Call → Receiver
record_after r m (lent (frame id d)) = (frame_all r id d m).0.next
record_after r m (lent (clock t)) = (reading_step r t m).next
record_after r m (elsewhere b e (frame id d)) = (frame_all r id d b).0.next
record_after r m (elsewhere b e (clock t)) = (reading_step r t b).next

-- a reading writes nothing, and a call that is lent another buffer has no way to the store
unfoldable pub store_after : Receiver → List ℕ → Call → List ℕ
store_after r m (lent (frame id d)) = (frame_all r id d m).1
store_after r m (lent (clock t)) = m
store_after r m (elsewhere b e c) = m

unfoldable pub observed : Values → ℕ → Receiver → List ℕ → List Call → List Seen
observed v k r m [] = []
observed v k r m (c ∷ cs) = shows v k r m c ++ observed v k (record_after r m c) (store_after r m c) cs

-- the record and the store after a list of calls
unfoldable pub record_over : Receiver → List ℕ → List Call → Receiver
record_over r m [] = r
record_over r m (c ∷ cs) = record_over (record_after r m c) (store_after r m c) cs

unfoldable pub store_over : Receiver → List ℕ → List Call → List ℕ
store_over r m [] = m
store_over r m (c ∷ cs) = store_over (record_after r m c) (store_after r m c) cs
