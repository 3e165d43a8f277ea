-- Sender and receiver joined by two queues of frames, moved in any order.
use Rattle.std.specs.Prelude.{ℕ, ◌+◌, ◌*◌, Bool, true, false, cond, ◌&&◌, ◌||◌, List, [], ◌∷◌, ◌++◌, eqb, length, Err, None, Ok, Option, Result, Some}
use Rattle.frame.specs.declared.refusal.Refusal.TheVariants.{NotTaken, KeyNotOpen}
use Rattle.frame.specs.Refusals.{number_of}
use Rattle.frame.specs.Identifiers.{identifier_of}
use Rattle.frame.specs.Judge.{route_of}
use Rattle.transport.specs.declared.Key.{Key}
use Rattle.transport.specs.declared.response.ResponseRead.TheVariants as response
use Rattle.transport.specs.Responses.{response_of}
use Rattle.transfer.specs.declared.Offer.{Offer}
use Rattle.session.specs.declared.Change.{Change}
use Rattle.session.specs.declared.Change.TheVariants.{Stays, Opens, Moves, Ends}
use Rattle.transfer.specs.declared.Reply.{Reply}
use Rattle.transfer.specs.declared.Reply.TheVariants as reply
use Rattle.transfer.specs.declared.Step.{Step}
use Rattle.transfer.specs.Transfers.{transfer_of}
use Rattle.transfer.specs.Decisions.{offer_of, after, refused, next_frame, hears, end_at}
use Rattle.transfer.specs.Sends.{offer_wire, sends}
use Rattle.isolation.specs.OwnFrames.{key_at, frame_key, Body, body_of}
use Rattle.isolation.specs.Replies.{Wire, Says, nothing, opened, took, granted, handed, aborted, ended, rejected, refuse}
use Rattle.isolation.specs.Rules as rules
use Rattle.isolation.specs.Rules.{Values, Out, rule, judged_at}
use Rattle.answer.specs.declared.Ending.{Ending}
use Rattle.frame.specs.declared.refusal.Refusal.{Refusal}
use Rattle.transfer.specs.declared.Transfer.{Transfer}
use Rattle.transport.specs.declared.response.ResponseRead.{ResponseRead}
use Rattle.transfer.specs.declared.Course.{Course}

-- the receiver's opening values, the key as a number, the sender's idle limit, the PGN and the message
pub record Setting : Type 0 where
  pub values : Values
  pub key : ℕ
  pub limit : ℕ
  pub pgn : ℕ
  pub message : List ℕ

abbrev pub key_in : Setting → Key
key_in s = key_at s.key

pub record Link : Type 0 where
  pub transfer : Option Transfer
  -- to the receiver and to the sender, the oldest first
  pub forward : List Wire
  pub backward : List Wire
  pub session : Option rules.Open
  -- the hand-overs, and the numbers by which frames out of a queue were refused at either end
  pub handed : List Says
  pub refused : List ℕ
  -- the last reading at each end
  pub senders_last : ℕ
  pub receivers_last : ℕ
  -- the transfer has ended by an EOMA, or by the EOMS of a BAM
  pub well : Bool

pub data Move : Type 0 where
  -- the sender is asked for the frame due
  ask : Move
  -- the receiver, the sender takes the oldest frame
  take_forward : Move
  take_backward : Move
  -- a reading at either end
  read_sender : ℕ → Move
  read_receiver : ℕ → Move

-- ---- a step of the transfer

abbrev pub queued : Option Wire → List Wire
queued None = []
queued (Some f) = f ∷ []

abbrev pub refusals : Reply → List ℕ
refusals (reply.Announced o) = []
refusals (reply.Segment n) = []
refusals (reply.Status o) = []
refusals reply.NothingDue = []
refusals reply.Granted = []
refusals (reply.Acknowledged κ) = []
refusals (reply.Aborted κ) = []
refusals (reply.Ended e) = number_of e.refusal ∷ []
refusals (reply.Refused n) = number_of n ∷ []

abbrev pub is_end : Change Transfer Course → Bool
is_end Stays = false
is_end (Opens t) = false
is_end (Moves c) = false
is_end Ends = true

abbrev pub is_good : Reply → Bool
is_good (reply.Announced o) = false
is_good (reply.Segment n) = false
is_good (reply.Status o) = true
is_good reply.NothingDue = false
is_good reply.Granted = false
is_good (reply.Acknowledged κ) = true
is_good (reply.Aborted κ) = false
is_good (reply.Ended e) = false
is_good (reply.Refused n) = false

abbrev pub ends_well : Step → Bool
ends_well r = is_end r.change && is_good r.reply

-- ---- the sender is asked

-- a transfer that has ended answers 16, and nothing moves
unfoldable pub answered : Option Transfer → ℕ → Step
answered None last = refused KeyNotOpen
answered (Some t) last = next_frame t last

abbrev pub frames_due : Setting → Option Transfer → ℕ → List Wire
frames_due s x last = queued (sends (key_in s) s.message (answered x last).reply)

unfoldable pub asked : Setting → Link → Link
asked s x = record {
  transfer = after x.transfer (answered x.transfer x.senders_last).change;
  forward = x.forward ++ frames_due s x.transfer x.senders_last;
  backward = x.backward;
  session = x.session;
  handed = x.handed;
  refused = x.refused;
  senders_last = x.senders_last;
  receivers_last = x.receivers_last;
  well = x.well || ends_well (answered x.transfer x.senders_last);
}

-- ---- the receiver takes a frame

-- what a frame of the key says
unfoldable pub body_for : Setting → Wire → Option Body
body_for s f = cond (eqb (frame_key f.0 f.1) s.key) (body_of s.values.own f.0 f.1) None

abbrev pub by_body : Setting → Option rules.Open → ℕ → Option Body → Out
by_body s x last None = (x, refuse (number_of NotTaken))
by_body s x last (Some b) = rule s.values s.key last false x b

abbrev pub received : Setting → Option rules.Open → ℕ → Wire → Out
received s x last f = by_body s x last (body_for s f)

abbrev pub hand_overs : Says → List Says
hand_overs nothing = []
hand_overs (opened κ) = []
hand_overs (took κ n) = []
hand_overs (granted κ n c pgn) = []
hand_overs (handed κ kind total segments pgn d) = handed κ kind total segments pgn d ∷ []
hand_overs (aborted κ) = []
hand_overs (ended κ kind pgn) = []
hand_overs (rejected κ pgn) = []

abbrev pub numbers : ℕ → List ℕ
numbers n = cond (eqb n 0) [] (n ∷ [])

-- these frames are left
unfoldable pub at_receiver : Link → List Wire → Out → Link
at_receiver x rest r = record {
  transfer = x.transfer;
  forward = rest;
  backward = x.backward ++ queued r.1.sends;
  session = r.0;
  handed = x.handed ++ hand_overs r.1.says;
  refused = x.refused ++ numbers r.1.number;
  senders_last = x.senders_last;
  receivers_last = x.receivers_last;
  well = x.well;
}

-- an empty queue: nothing moves
unfoldable pub taken_forward : Setting → Link → List Wire → Link
taken_forward s x [] = x
taken_forward s x (f ∷ rest) = at_receiver x rest (received s x.session x.receivers_last f)

-- ---- the sender takes a frame

abbrev pub key_number : Key → ℕ
key_number κ = κ.sa.0 * 4096 + κ.da.0 * 16 + κ.session.0

-- what is no response has no key, and `hears` refuses it
abbrev pub is_for : ℕ → Result ResponseRead Refusal → Bool
is_for k (Ok (response.Cts f)) = eqb (key_number f.cts.key) k
is_for k (Ok (response.Eoma f)) = eqb (key_number f.key) k
is_for k (Ok (response.Abort f)) = eqb (key_number f.key) k
is_for k (Err n) = true

abbrev pub if_for : ℕ → Option Transfer → ℕ → Result ResponseRead Refusal → Step
if_for k x last r = cond (is_for k r) (hears x r last) (refused KeyNotOpen)

unfoldable pub heard : Setting → Option Transfer → ℕ → Wire → Step
heard s x last f = if_for s.key x last (response_of (route_of (identifier_of f.0)) f.1)

unfoldable pub at_sender : Link → List Wire → Step → Link
at_sender x rest r = record {
  transfer = after x.transfer r.change;
  forward = x.forward;
  backward = rest;
  session = x.session;
  handed = x.handed;
  refused = x.refused ++ refusals r.reply;
  senders_last = x.senders_last;
  receivers_last = x.receivers_last;
  well = x.well || ends_well r;
}

unfoldable pub taken_backward : Setting → Link → List Wire → Link
taken_backward s x [] = x
taken_backward s x (f ∷ rest) = at_sender x rest (heard s x.transfer x.senders_last f)

-- ---- readings

abbrev pub unless_ended : Option Transfer → Option Ending → Option Transfer
unless_ended x None = x
unless_ended x (Some e) = None

unfoldable pub kept_at : ℕ → ℕ → Option Transfer → Option Transfer
kept_at limit t None = None
kept_at limit t (Some x) = unless_ended (Some x) (end_at limit t x)

-- the transfer and the session as they are after it, and the last readings
unfoldable pub read : Link → Option Transfer → Option rules.Open → ℕ → ℕ → Link
read x transfer session p q = record {
  transfer = transfer;
  forward = x.forward;
  backward = x.backward;
  session = session;
  handed = x.handed;
  refused = x.refused;
  senders_last = p;
  receivers_last = q;
  well = x.well;
}

-- ---- moves

unfoldable pub step : Setting → Link → Move → Link
step s x ask = asked s x
step s x take_forward = taken_forward s x x.forward
step s x take_backward = taken_backward s x x.backward
step s x (read_sender t) = read x (kept_at s.limit t x.transfer) x.session t x.receivers_last
step s x (read_receiver t) = read x x.transfer (judged_at s.values t x.session) x.senders_last t

unfoldable pub run : Setting → Link → List Move → Link
run s x [] = x
run s x (v ∷ vs) = run s (step s x v) vs

abbrev pub offer : Setting → Offer
offer s = offer_of (key_in s) s.pgn (length s.message)

-- the announcement has gone out, and nothing else has happened; p and q are the readings before
unfoldable pub start : Setting → ℕ → ℕ → Link
start s p q = record {
  transfer = Some (transfer_of (offer s) p);
  forward = offer_wire (offer s) ∷ [];
  backward = [];
  session = None;
  handed = [];
  refused = [];
  senders_last = p;
  receivers_last = q;
  well = false;
}
