-- The system over queues that lose frames, and whose ends may fall silent: what the theorems ask of each move, and what they say of a system
-- that such moves have reached. 02, E6. The start is that of Whole, and but for losses and silences so are the premises.
use Rattle.std.specs.Prelude.{ℕ, suc, ◌≤◌, ◌<◌, ◌≡◌, ◌⊎◌, Bool, true, false, cond, List, [], ◌∷◌, ◌++◌, None, Option, Some}
use Rattle.transport.specs.declared.Key.{Key}
use Rattle.transport.specs.declared.Kind.TheVariants.{Rts}
use Rattle.slots.specs.Slots.{same_key}
use Rattle.transfer.specs.Transfers.{kind_of}
use Rattle.sender_bytes.specs.Layout.{Sender}
use Rattle.sender.specs.Model as sender
use Rattle.receiver.specs.declared.Receiver.{Receiver}
use Rattle.receiver.specs.Calls.{reading_step}
use Rattle.isolation.specs.Replies.{Wire}
use Rattle.isolation.specs.Rules as rules
use Rattle.isolation.specs.Observe.{endings_of}
use Rattle.isolation.specs.Stands.{stands_for}
use Rattle.delivery.specs.Link.{Setting, key_in, Link}
use Rattle.delivery.specs.Arrival.{is_full, whole}
use Rattle.delivery.specs.Losses.{without_oldest, ending_frames, sent_in, MayLoseOldest, remaining, RefusesOnly, HandedOver, Outcome}
use Rattle.delivery.specs.System.{System, state_for, Move, ask, take_forward, take_backward, read_sender, read_receiver, frame_aside, announce_aside, ask_aside, hear_aside, given, start, step}
use Rattle.delivery.specs.Whole.{Starts, MeetsAt, works, AtRest}
use Rattle.answer.specs.declared.Ending.{Ending}

-- ---- moves: those of the system, whatever a reading ends, and losses

pub data Lossy : Type 0 where
  keeps : Move → Lossy
  -- the oldest frame to the receiver, to the sender is lost
  loses_forward : Lossy
  loses_backward : Lossy

-- the system with these frames on their way
unfoldable pub queues : System → List Wire → List Wire → System
queues y fs bs = record {
  sender = y.sender;
  receiver = y.receiver;
  store = y.store;
  forward = fs;
  backward = bs;
  handed = y.handed;
  refused = y.refused;
  well = y.well;
}

-- ---- the Aborts of ends that end, which the moves of `step` do not have; they join the queue as other frames do

-- a silence ends the transfer by 22: of all endings at the sender the key's
abbrev pub ending_for : Key → Option Ending → List Wire
ending_for κ None = []
ending_for κ (Some e) = cond (same_key e.key κ) (ending_frames (Some e)) []

abbrev pub endings_for : Key → List (Option Ending) → List Wire
endings_for κ [] = []
endings_for κ (e ∷ es) = ending_for κ e ++ endings_for κ es

-- a frame ends the transfer by a refusal, as a CTS for what the message does not have would by 27
abbrev pub sent_after : Setting → System → List Wire → List Wire
sent_after s y [] = []
sent_after s y (f ∷ rest) = given s (sender.frame_step y.sender f.0 f.1)

-- ---- the lossy system

unfoldable pub lossy : Setting → System → Lossy → System
lossy s y (keeps ask) = step s y ask
lossy s y (keeps take_forward) = step s y take_forward
lossy s y (keeps take_backward) =
    let z : System = step s y take_backward in queues z (z.forward ++ sent_after s y y.backward) z.backward
lossy s y (keeps (read_sender t)) =
    let z : System = step s y (read_sender t) in
    queues z (z.forward ++ endings_for (key_in s) (sender.reading_step y.sender t).0) z.backward
-- a silence ends the session by 22: of all endings at the receiver the key's
lossy s y (keeps (read_receiver t)) =
    let z : System = step s y (read_receiver t) in
    queues z z.forward (z.backward ++ sent_in (endings_of s.key (reading_step y.receiver t y.store).ends))
lossy s y (keeps (frame_aside id d)) = step s y (frame_aside id d)
lossy s y (keeps (announce_aside da session pgn n)) = step s y (announce_aside da session pgn n)
lossy s y (keeps (ask_aside da session n)) = step s y (ask_aside da session n)
lossy s y (keeps (hear_aside id d)) = step s y (hear_aside id d)
lossy s y loses_forward = queues y (without_oldest y.forward) y.backward
lossy s y loses_backward = queues y y.forward (without_oldest y.backward)

unfoldable pub lossy_run : Setting → System → List Lossy → System
lossy_run s y [] = y
lossy_run s y (v ∷ vs) = lossy_run s (lossy s y v) vs

-- ---- safety: whatever is lost, and whatever silence ends either end

-- the premises of Whole, but that a reading may end the transfer or the session, and any frame be lost
abbrev pub AllowsAt : Setting → System → Lossy → Type 0
AllowsAt s y (keeps ask) = MeetsAt s y ask
-- when the announcement is taken a slot is free: else it would be refused by 15, and nothing handed over
AllowsAt s y (keeps take_forward) = MeetsAt s y take_forward
AllowsAt s y (keeps take_backward) = MeetsAt s y take_backward
AllowsAt s y (keeps (read_sender t)) = Unit {0}
AllowsAt s y (keeps (read_receiver t)) = Unit {0}
AllowsAt s y (keeps (frame_aside id d)) = MeetsAt s y (frame_aside id d)
AllowsAt s y (keeps (announce_aside da session pgn n)) = MeetsAt s y (announce_aside da session pgn n)
AllowsAt s y (keeps (ask_aside da session n)) = MeetsAt s y (ask_aside da session n)
AllowsAt s y (keeps (hear_aside id d)) = MeetsAt s y (hear_aside id d)
AllowsAt s y loses_forward = Unit {0}
AllowsAt s y loses_backward = Unit {0}

abbrev pub Allows : Setting → System → List Lossy → Type 0
Allows s y [] = Unit {0}
Allows s y (v ∷ vs) = AllowsAt s y v × Allows s (lossy s y v) vs

-- nothing was handed over for the key, or the message, once
abbrev pub Once : Setting → System → Type 0
Once s y = (y.handed ≡ []) ⊎ (y.handed ≡ whole s ∷ [])

abbrev pub SafeWhole : Type 0
SafeWhole =
    (s : Setting) (p : Sender) (r : Receiver) (m : List ℕ) → Starts s p r m → (vs : List Lossy) → Allows s (start s p r m) vs
    → Once s (lossy_run s (start s p r m) vs)

-- ---- recovery

-- this transfer, with a session x, as the link of which Losses speaks
abbrev pub link_with : Setting → System → Option rules.Open → Link
link_with s y x = record {
  transfer = state_for (key_in s) y.sender;
  forward = y.forward;
  backward = y.backward;
  session = x;
  handed = y.handed;
  refused = y.refused;
  senders_last = y.sender.last;
  receivers_last = y.receiver.last;
  well = y.well;
}

-- with the key's session as its slot and the slot's bytes have it
abbrev pub link_in : Setting → System → Link
link_in s y = link_with s y (stands_for y.receiver y.store s.key).session

-- the premises of Whole, so that no reading ends the transfer or the session; and of losses those that are borne, as in Losses: data frames
-- only, and none that the session waits for to grant more
abbrev pub BorneAt : Setting → System → Lossy → Type 0
BorneAt s y (keeps v) = MeetsAt s y v
BorneAt s y loses_forward = MayLoseOldest s (link_in s y).session y.forward
BorneAt s y loses_backward = ⊥

abbrev pub Borne : Setting → System → List Lossy → Type 0
Borne s y [] = Unit {0}
Borne s y (v ∷ vs) = BorneAt s y v × Borne s (lossy s y v) vs

-- how many frames were lost: where the moves are borne, each is a data frame
unfoldable pub losses : List Lossy → ℕ
losses [] = 0
losses (keeps v ∷ vs) = losses vs
losses (loses_forward ∷ vs) = suc (losses vs)
losses (loses_backward ∷ vs) = suc (losses vs)

-- a move that gives a frame of the transfer, takes one out of a queue or loses one
unfoldable pub turns : Setting → System → Lossy → Bool
turns s y (keeps v) = works s y v
turns s y loses_forward = is_full y.forward
turns s y loses_backward = is_full y.backward

-- of a system that borne moves have reached; so many segments were lost
pub record Recovers (s : Setting) (lost : ℕ) (y : System) : Type 0 where
  -- 1. what is refused: for an RTS only the EOMS with which five requests are spent and segments missing, by 21
  pub refuses : (v : Lossy) → BorneAt s y v → RefusesOnly (kind_of (key_in s).da) s (link_in s y) (link_in s (lossy s y v))
  -- 2. every frame given, taken or lost lowers the measure, and no other borne move raises it
  pub falls : (v : Lossy) → BorneAt s y v
      → (turns s y v ≡ true → remaining s (link_in s (lossy s y v)) < remaining s (link_in s y))
      × (turns s y v ≡ false → remaining s (link_in s (lossy s y v)) ≤ remaining s (link_in s y))
  -- 3. at rest both ends have ended, and how
  pub rests : AtRest s y → ((link_in s y).session ≡ None) × ((link_in s y).transfer ≡ None) × Outcome (kind_of (key_in s).da) s lost (link_in s y)

abbrev pub RecoversWhole : Type 0
RecoversWhole =
    (s : Setting) (p : Sender) (r : Receiver) (m : List ℕ) → Starts s p r m → (vs : List Lossy) → Borne s (start s p r m) vs
    → Recovers s (losses vs) (lossy_run s (start s p r m) vs)

-- so with five segments lost or fewer an RTS arrives
abbrev pub FiveLostWhole : Type 0
FiveLostWhole =
    (s : Setting) (p : Sender) (r : Receiver) (m : List ℕ) → Starts s p r m → kind_of (key_in s).da ≡ Rts → (vs : List Lossy) → Borne s (start s p r m) vs
    → losses vs ≤ 5 → AtRest s (lossy_run s (start s p r m) vs) → HandedOver s (link_in s (lossy_run s (start s p r m) vs))
