-- The receiver's calls within a list of a node's calls (02, E2): what goes to the sender is no session's and is left out, and so is a call that
-- is refused for the sender's record or for the length of its message, since it counts as not made.
use Rattle.std.specs.Prelude.{ℕ, Bool, true, false, cond, List, [], ◌∷◌, None, Option, Some}
use Rattle.sender.specs.Transfers.{ready_in}
use Rattle.sender.specs.Calls.{hear_in}
use Rattle.node.specs.Node.{is_responders}
use Rattle.isolation.specs.World.{frame, lent, elsewhere}
use Rattle.carried.specs.Crossed.{Lending}
use Rattle.together.specs.Calls.{NodeCall, receiver, node, node_elsewhere, sender, lent_of, kept_of, sending_leaves}

-- a frame, by whether the sender's record is in bounds and whether the frame is for the sender: else it is the receiver's call l
abbrev pub frame_received : Bool → Bool → Lending → Option Lending
frame_received false responders l = None
frame_received true true l = None
frame_received true false l = Some l

-- the receiver's call that a node's call is, if it is one; where another buffer is in the store's place the receiver's own 23 comes first
unfoldable pub received_of : List ℕ → NodeCall → Option Lending
received_of s (receiver l) = Some l
received_of s (node id d a w) = frame_received (ready_in (lent_of w s)) (is_responders id d) (lent (frame id d), a)
received_of s (node_elsewhere o e id d a w) = Some (elsewhere o e (frame id d), a)
received_of s (sender c w) = None

-- the sender's record after a frame of a node, by the sender alone
abbrev pub frame_heard : List ℕ → ℕ → List ℕ → List ℕ
frame_heard s id d = cond (is_responders id d) (hear_in s id d).1 s

-- the sender's record after a node's call, by the sender alone
unfoldable pub heard_of : List ℕ → NodeCall → List ℕ
heard_of s (receiver l) = s
heard_of s (node id d a w) = kept_of w s (frame_heard (lent_of w s) id d)
heard_of s (node_elsewhere o e id d a w) = s
heard_of s (sender c w) = kept_of w s (sending_leaves (lent_of w s) c)

abbrev pub with_call : Option Lending → List Lending → List Lending
with_call None ls = ls
with_call (Some l) ls = l ∷ ls

unfoldable pub received : List ℕ → List NodeCall → List Lending
received s [] = []
received s (c ∷ cs) = with_call (received_of s c) (received (heard_of s c) cs)

unfoldable pub heard_end : List ℕ → List NodeCall → List ℕ
heard_end s [] = s
heard_end s (c ∷ cs) = heard_end (heard_of s c) cs
