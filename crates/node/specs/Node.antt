-- Which end a frame is for, and what the node's frame call does: 02, E2.
use Rattle.std.specs.Prelude.{ℕ, Bool, cond, not, ◌&&◌, ◌||◌, List, eqb, length}
use Rattle.frame.specs.Identifiers.{identifier_of}
use Rattle.frame.specs.declared.refusal.Refusal.TheVariants.{OutOfBounds}
use Rattle.transport.specs.Control.{is_response}
use Rattle.answer.specs.declared.Answer.TheVariants as answer
use Rattle.lent_record.specs.Ready as receiver
use Rattle.engine.specs.InBytes.{InBytes, frame_in}
use Rattle.transfer.specs.declared.Reply.{Reply}
use Rattle.transfer.specs.declared.Reply.TheVariants as reply
use Rattle.sender.specs.Transfers as sender
use Rattle.sender.specs.Calls.{hear_in}
use Rattle.node.specs.declared.NodeAnswer.{NodeAnswer}
use Rattle.node.specs.declared.NodeAnswer.TheVariants.{Receiver, Sender}

-- PF 77, 12 bytes, a responder's
abbrev pub is_responders : ℕ → List ℕ → Bool
is_responders id d =
    eqb (length d) 12
    && (eqb (identifier_of id).pf 77 && is_response d)

-- a frame becomes the sender's call if it is for it or its record must refuse it, and the receiver's record and store, which come first, are
-- in bounds
unfoldable pub is_senders : List ℕ → ℕ → List ℕ → ℕ → List ℕ → Bool
is_senders b n s id d = (not (sender.ready_in s) || is_responders id d) && receiver.ready_in b n

-- the answer; the receiver's record and store, and the sender's record
abbrev pub NodeCalled : Type 0
NodeCalled = NodeAnswer × (List ℕ × (List ℕ × List ℕ))

abbrev pub by_sender : List ℕ → List ℕ → Reply × List ℕ → NodeCalled
by_sender b m x = (Sender x.0, (b, (m, x.1)))

abbrev pub by_receiver : List ℕ → InBytes → NodeCalled
by_receiver s x = (Receiver x.0, (x.1.0, (x.1.1, s)))

-- 23 whole, then by the end that the frame is for: what goes to the sender leaves the receiver's record and store, and the other way round
unfoldable pub node_in : List ℕ → List ℕ → List ℕ → ℕ → List ℕ → NodeCalled
node_in b m s id d =
    cond (not (receiver.ready_in b (length m))) (Receiver (answer.Refused OutOfBounds), (b, (m, s)))
    (cond (not (sender.ready_in s)) (Sender (reply.Refused OutOfBounds), (b, (m, s)))
    (cond (is_responders id d) (by_sender b m (hear_in s id d))
    (by_receiver s (frame_in b id d m))))
