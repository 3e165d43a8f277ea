-- The node's frame call over lent bytes (02, E2): the answer is that of the end that the frame was for, and its code says which.
use Rattle.std.specs.Prelude.{ℕ, cond, not, List, eqb, length}
use Rattle.answer.specs.Answers.{answer_number}
use Rattle.answer_bytes.specs.Places.{answer_length}
use Rattle.answer_bytes.specs.Answers.{answer_bytes}
use Rattle.reply_bytes.specs.Replies.{reply_number, reply_bytes}
use Rattle.node.specs.declared.NodeAnswer.{NodeAnswer}
use Rattle.node.specs.declared.NodeAnswer.TheVariants.{Receiver, Sender}
use Rattle.node.specs.Node.{NodeCalled, node_in}

abbrev pub node_number : NodeAnswer → ℕ
node_number (Receiver x) = answer_number x
node_number (Sender x) = reply_number x

abbrev pub node_bytes : NodeAnswer → List ℕ
node_bytes (Receiver x) = answer_bytes x
node_bytes (Sender x) = reply_bytes x

-- number; the receiver's record and store, the sender's record, and the answer
abbrev pub NodeFramed : Type 0
NodeFramed = ℕ × (List ℕ × (List ℕ × (List ℕ × List ℕ)))

abbrev pub node_told : NodeCalled → NodeFramed
node_told x = (node_number x.0, (x.1.0, (x.1.1.0, (x.1.1.1, node_bytes x.0))))

-- 23 for room for an answer of another length: all stays as it was
unfoldable pub node_framed_in : List ℕ → ℕ → List ℕ → List ℕ → List ℕ → List ℕ → NodeFramed
node_framed_in b id d m s a = cond (not (eqb (length a) answer_length)) (23, (b, (m, (s, a)))) (node_told (node_in b m s id d))
