-- What the theorem asks of the records and of each move, and what it says of a system that such moves have reached: 02, E2.
use Rattle.std.specs.Prelude.{ℕ, ◌+◌, ◌*◌, ◌<◌, ◌≤◌, ◌≡◌, ◌⊎◌, Bool, true, false, ◌&&◌, List, [], ◌∷◌, length, Err, None, Ok, Option, Result, Some, is_some}
use Rattle.frame.specs.declared.judge.Content.TheVariants as verdict
use Rattle.frame.specs.declared.refusal.Refusal.{Refusal}
use Rattle.frame.specs.declared.refusal.Refusal.TheVariants.{KeyNotOpen}
use Rattle.frame.specs.Judge.{judged}
use Rattle.transport.specs.declared.Key.{Key}
use Rattle.transport.specs.declared.response.ResponseRead.TheVariants as response
use Rattle.transport.specs.Heads.{session_key_of}
use Rattle.transport.specs.Responses.{response_of}
use Rattle.slots.specs.Slots.{same_key, first_free}
use Rattle.transfer.specs.declared.Reply.TheVariants.{Announced, Refused}
use Rattle.sender_bytes.specs.Layout.{Sender}
use Rattle.sender.specs.Transfers as sender
use Rattle.sender.specs.Model.{key_of}
use Rattle.receiver.specs.declared.Receiver.{Receiver}
use Rattle.receiver.specs.Bounds.{in_bounds}
use Rattle.receiver.specs.Calls.{reading_step}
use Rattle.isolation.specs.OwnFrames.{Body}
use Rattle.isolation.specs.Replies.{Wire}
use Rattle.isolation.specs.World.{is_announcement}
use Rattle.isolation.specs.Observe.{is_own, lost, open_in}
use Rattle.isolation.specs.Stands.{values_of}
use Rattle.delivery.specs.Link.{Setting, key_in, body_for, offer}
use Rattle.delivery.specs.Arrival.{Unended, NothingIsDue, is_full, unsent, whole}
use Rattle.delivery.specs.System.{System, state_for, Move, ask, take_forward, take_backward, read_sender, read_receiver, frame_aside, announce_aside, ask_aside, hear_aside, asks_for, given, announced_by, step}
use Rattle.frame.specs.declared.judge.Content.{Content}
use Rattle.transport.specs.declared.response.ResponseRead.{ResponseRead}

-- ---- before the start

-- p: the sender's record; r and m: the receiver's record and its store
pub record Starts (s : Setting) (p : Sender) (r : Receiver) (m : List ℕ) : Type 0 where
  -- both records are in bounds
  pub sender_ready : sender.in_bounds p ≡ true
  pub receiver_ready : in_bounds r ≡ true
  pub eight : length r.slots ≡ 8
  pub store : length m ≡ 32768
  -- the key's SA, the idle limit and the opening values are theirs
  pub own : p.own ≡ (key_in s).sa
  pub limit : p.limit ≡ s.limit
  pub values : values_of r ≡ s.values
  -- two addresses, and the message goes to the other or to all
  pub apart : p.own.0 ≡ r.own.0 → ⊥
  pub aimed : ((key_in s).da.0 ≡ r.own.0) ⊎ ((key_in s).da.0 ≡ 255)
  -- the announcement is accepted; the key is not open at the receiver
  pub accepted : (announced_by s p).0 ≡ Announced (offer s)
  pub unknown : open_in s.key r.slots ≡ false

-- ---- through the run

abbrev pub announces : Option Body → Bool
announces None = false
announces (Some b) = is_announcement b

-- when the announcement is taken a slot is free
abbrev pub HasRoom : Setting → List Wire → Receiver → Type 0
HasRoom s [] r = Unit {0}
HasRoom s (f ∷ fs) r = announces (body_for s f) ≡ true → is_some (first_free r.slots) ≡ true

abbrev pub is_response : Result ResponseRead Refusal → Bool
is_response (Ok (response.Cts f)) = true
is_response (Ok (response.Eoma f)) = true
is_response (Ok (response.Abort f)) = true
is_response (Err n) = false

-- a response to the transfer of a key: CTS, EOMA, or the responder's Abort
abbrev pub responds_to : Key → Result Content Refusal → List ℕ → Bool
responds_to κ (Ok (verdict.Control route)) d = same_key (session_key_of route d) κ && is_response (response_of route d)
responds_to κ (Ok (verdict.MultiPg route)) d = false
responds_to κ (Ok (verdict.Data route)) d = false
responds_to κ (Err n) d = false

abbrev pub MeetsAt : Setting → System → Move → Type 0
MeetsAt s y ask = Unit {0}
MeetsAt s y take_forward = HasRoom s y.forward y.receiver
MeetsAt s y take_backward = Unit {0}
-- no reading ends the transfer or the session
MeetsAt s y (read_sender t) = Unended y.sender.limit t (state_for (key_in s) y.sender)
MeetsAt s y (read_receiver t) = lost s.key y.receiver (reading_step y.receiver t y.store).next ≡ false
-- no frame of the key or of the transfer but out of the queues
MeetsAt s y (frame_aside id d) = is_own s.values s.key id d ≡ false
MeetsAt s y (hear_aside id d) = responds_to (key_in s) (judged y.sender.own id (length d)) d ≡ false
-- no second announcement, and every ask for the transfer is lent its message
MeetsAt s y (announce_aside da session pgn n) = same_key (key_of y.sender da session) (key_in s) ≡ false
MeetsAt s y (ask_aside da session n) = same_key (key_of y.sender da session) (key_in s) ≡ false

abbrev pub Meets : Setting → System → List Move → Type 0
Meets s y [] = Unit {0}
Meets s y (v ∷ vs) = MeetsAt s y v × Meets s (step s y v) vs

-- ---- a move that gives a frame of the transfer or takes one out of a queue

unfoldable pub works : Setting → System → Move → Bool
works s y ask = is_full (given s (asks_for s y.sender))
works s y take_forward = is_full y.forward
works s y take_backward = is_full y.backward
works s y (read_sender t) = false
works s y (read_receiver t) = false
works s y (frame_aside id d) = false
works s y (announce_aside da session pgn n) = false
works s y (ask_aside da session n) = false
works s y (hear_aside id d) = false

unfoldable pub measure : Setting → System → ℕ
measure s y = 3 * unsent (state_for (key_in s) y.sender) + 2 * length y.forward + length y.backward

pub record AtRest (s : Setting) (y : System) : Type 0 where
  pub forward : y.forward ≡ []
  pub backward : y.backward ≡ []
  pub nothing : NothingIsDue (state_for (key_in s) y.sender) y.sender.last

-- ---- the four facts

pub record Arrives (s : Setting) (y : System) : Type 0 where
  -- 1. no frame out of a queue was refused at either end, and an ask is refused only with 16, once the transfer has ended
  pub unrefused : y.refused ≡ []
  pub answered : (n : Refusal) → (asks_for s y.sender).0 ≡ Refused n → (n ≡ KeyNotOpen) × (state_for (key_in s) y.sender ≡ None)
  -- 2. nothing was handed over for the key, or the message, once
  pub once : (y.handed ≡ []) ⊎ (y.handed ≡ whole s ∷ [])
  -- 3. every frame given or taken lowers the measure, and no other move raises it
  pub falls : (v : Move) → MeetsAt s y v
      → (works s y v ≡ true → measure s (step s y v) < measure s y) × (works s y v ≡ false → measure s (step s y v) ≤ measure s y)
  -- 4. at rest the message is there, and the transfer has ended well
  pub arrived : AtRest s y → (y.handed ≡ whole s ∷ []) × (y.well ≡ true)
