-- A sender's record and, at another address, a receiver's record and store, joined by two queues of frames: the calls themselves, one after
-- another. What is counted is what concerns one transfer; the records may be busy with others.
use Rattle.std.specs.Prelude.{ℕ, Bool, false, cond, ◌&&◌, ◌||◌, List, [], ◌∷◌, ◌++◌, length, Option}
use Rattle.frame.specs.declared.Address.{Address}
use Rattle.frame.specs.declared.SessionNumber.{SessionNumber}
use Rattle.transport.specs.declared.Key.{Key}
use Rattle.transfer.specs.declared.Reply.{Reply}
use Rattle.transfer.specs.Sends.{sends}
use Rattle.sender_bytes.specs.Layout.{Sender}
use Rattle.sender.specs.Transfers.{is_free, key_place, state_in}
use Rattle.sender.specs.Model as sender
use Rattle.sender.specs.Model.{Stepped, announce_step, ask_step}
use Rattle.receiver.specs.declared.Receiver.{Receiver}
use Rattle.receiver.specs.Calls.{Outcome, frame_all, reading_step}
use Rattle.isolation.specs.Replies as replies
use Rattle.isolation.specs.Replies.{Wire, Says, nothing, opened, took, granted, handed, aborted, ended, rejected}
use Rattle.isolation.specs.Observe.{is_key, reply_of}
use Rattle.delivery.specs.Link.{Setting, key_in, queued, refusals, is_good, numbers}
use Rattle.transfer.specs.declared.Transfer.{Transfer}

pub record System : Type 0 where
  pub sender : Sender
  pub receiver : Receiver
  pub store : List ℕ
  -- to the receiver and to the sender, the oldest first
  pub forward : List Wire
  pub backward : List Wire
  -- the hand-overs of the key, and the numbers by which frames out of a queue were refused at either end
  pub handed : List Says
  pub refused : List ℕ
  -- the transfer has ended by an EOMA, or by the EOMS of a BAM
  pub well : Bool

-- what the sender knows of a key
abbrev pub state_for : Key → Sender → Option Transfer
state_for κ p = state_in (key_place κ p.transfers) p.transfers

pub data Move : Type 0 where
  -- the sender is asked for the frame due of the transfer
  ask : Move
  -- the receiver, the sender takes the oldest frame
  take_forward : Move
  take_backward : Move
  -- a reading at either end
  read_sender : ℕ → Move
  read_receiver : ℕ → Move
  -- a frame at the receiver that is in no queue
  frame_aside : ℕ → List ℕ → Move
  -- at the sender: an announcement of a message of n bytes, an ask with one, a frame that is in no queue
  announce_aside : Address → SessionNumber → ℕ → ℕ → Move
  ask_aside : Address → SessionNumber → ℕ → Move
  hear_aside : ℕ → List ℕ → Move

-- ---- calls at the sender

-- the record alone
abbrev pub with_sender : System → Sender → System
with_sender y p = record {
  sender = p;
  receiver = y.receiver;
  store = y.store;
  forward = y.forward;
  backward = y.backward;
  handed = y.handed;
  refused = y.refused;
  well = y.well;
}

-- a good reply, and the transfer is not open any more
abbrev pub is_well : Setting → Stepped → Bool
is_well s a = is_free (state_for (key_in s) a.1) && is_good a.0

abbrev pub asks_for : Setting → Sender → Stepped
asks_for s p = ask_step p (key_in s).da (key_in s).session (length s.message)

abbrev pub given : Setting → Stepped → List Wire
given s a = queued (sends (key_in s) s.message a.0)

unfoldable pub asked : Setting → System → Stepped → System
asked s y a = record {
  sender = a.1;
  receiver = y.receiver;
  store = y.store;
  forward = y.forward ++ given s a;
  backward = y.backward;
  handed = y.handed;
  refused = y.refused;
  well = y.well || is_well s a;
}

unfoldable pub heard : Setting → System → List Wire → Stepped → System
heard s y rest a = record {
  sender = a.1;
  receiver = y.receiver;
  store = y.store;
  forward = y.forward;
  backward = rest;
  handed = y.handed;
  refused = y.refused ++ refusals a.0;
  well = y.well || is_well s a;
}

-- an empty queue: nothing moves
unfoldable pub taken_backward : Setting → System → List Wire → System
taken_backward s y [] = y
taken_backward s y (f ∷ rest) = heard s y rest (sender.frame_step y.sender f.0 f.1)

-- ---- calls at the receiver

-- a message of key k
abbrev pub handed_for : ℕ → Says → List Says
handed_for k nothing = []
handed_for k (opened κ) = []
handed_for k (took κ n) = []
handed_for k (granted κ n c pgn) = []
handed_for k (handed κ kind total segments pgn d) = cond (is_key k κ) (handed κ kind total segments pgn d ∷ []) []
handed_for k (aborted κ) = []
handed_for k (ended κ kind pgn) = []
handed_for k (rejected κ pgn) = []

-- what the call answers, with the store as it returns
abbrev pub answer_of : Outcome → replies.Reply
answer_of o = reply_of o.0.answer o.1

unfoldable pub taken : Setting → System → List Wire → Outcome → System
taken s y rest o = record {
  sender = y.sender;
  receiver = o.0.next;
  store = o.1;
  forward = rest;
  backward = y.backward ++ queued (answer_of o).sends;
  handed = y.handed ++ handed_for s.key (answer_of o).says;
  refused = y.refused ++ numbers (answer_of o).number;
  well = y.well;
}

unfoldable pub taken_forward : Setting → System → List Wire → System
taken_forward s y [] = y
taken_forward s y (f ∷ rest) = taken s y rest (frame_all y.receiver f.0 f.1 y.store)

-- what it sends is another's; what it refuses came out of no queue
unfoldable pub aside : Setting → System → Outcome → System
aside s y o = record {
  sender = y.sender;
  receiver = o.0.next;
  store = o.1;
  forward = y.forward;
  backward = y.backward;
  handed = y.handed ++ handed_for s.key (answer_of o).says;
  refused = y.refused;
  well = y.well;
}

abbrev pub with_receiver : System → Receiver → System
with_receiver y r = record {
  sender = y.sender;
  receiver = r;
  store = y.store;
  forward = y.forward;
  backward = y.backward;
  handed = y.handed;
  refused = y.refused;
  well = y.well;
}

-- ---- the start: the sender is given the announcement, and its frame goes out

abbrev pub announced_by : Setting → Sender → Stepped
announced_by s p = announce_step p (key_in s).da (key_in s).session s.pgn (length s.message)

unfoldable pub start : Setting → Sender → Receiver → List ℕ → System
start s p r m = record {
  sender = (announced_by s p).1;
  receiver = r;
  store = m;
  forward = given s (announced_by s p);
  backward = [];
  handed = [];
  refused = [];
  well = false;
}

-- ---- moves

unfoldable pub step : Setting → System → Move → System
step s y ask = asked s y (asks_for s y.sender)
step s y take_forward = taken_forward s y y.forward
step s y take_backward = taken_backward s y y.backward
step s y (read_sender t) = with_sender y (sender.reading_step y.sender t).1
step s y (read_receiver t) = with_receiver y (reading_step y.receiver t y.store).next
step s y (frame_aside id d) = aside s y (frame_all y.receiver id d y.store)
step s y (announce_aside da session pgn n) = with_sender y (announce_step y.sender da session pgn n).1
step s y (ask_aside da session n) = with_sender y (ask_step y.sender da session n).1
step s y (hear_aside id d) = with_sender y (sender.frame_step y.sender id d).1

unfoldable pub run : Setting → System → List Move → System
run s y [] = y
run s y (v ∷ vs) = run s (step s y v) vs
