-- What a list of a node's calls shows for one key: of the receiver's answers what they show by themselves; of the sender's nothing, unless
-- the call moved a byte of the receiver's record or store.
use Rattle.std.specs.Prelude.{ℕ, Bool, true, false, cond, ◌&&◌, List, [], ◌∷◌, ◌++◌, eqb, leb, get_or}
use Rattle.record_bytes.specs.Layout.{record_at}
use Rattle.answer_bytes.specs.Places.{code_place}
use Rattle.dwaebinam.specs.Node.{NodeFramed, node_framed_in}
use Rattle.isolation.specs.Rules.{Values, Seen, stray}
use Rattle.isolation.specs.Observe.{frame_seen_as, frame_elsewhere_as}
use Rattle.carried.specs.Shown.{outcome_of, reply_in, shown}
use Rattle.together.specs.Calls.{NodeCall, receiver, node, node_elsewhere, sender, lent_of, record_next, store_next, sender_next}

abbrev pub same_bytes : List ℕ → List ℕ → Bool
same_bytes [] [] = true
same_bytes [] (y ∷ ys) = false
same_bytes (x ∷ xs) [] = false
same_bytes (x ∷ xs) (y ∷ ys) = eqb x y && same_bytes xs ys

-- number, receiver's record, store and answer
abbrev pub Framed : Type 0
Framed = ℕ × (List ℕ × (List ℕ × List ℕ))

abbrev pub receiver_part : NodeFramed → Framed
receiver_part x = (x.0, (x.1.0, (x.1.1.0, x.1.1.1.1)))

-- the sender's answers have the codes from 10 on
abbrev pub sender_answers : List ℕ → Bool
sender_answers p = leb 10 (get_or p code_place 0)

-- a call answered by the sender, lent the record b and m as the store
abbrev pub sender_seen : List ℕ → List ℕ → Framed → List Seen
sender_seen b m x = cond (same_bytes x.1.0 b && same_bytes x.1.1.0 m) [] (stray (reply_in x) ∷ [])

-- by the end that answered; seen is what is shown if it was the receiver
abbrev pub seen_by : List ℕ → List ℕ → Framed → List Seen → List Seen
seen_by b m x seen = cond (sender_answers x.1.1.1) (sender_seen b m x) seen

abbrev pub node_seen : Values → ℕ → List ℕ → List ℕ → ℕ → List ℕ → Framed → List Seen
node_seen v k b m id d x = seen_by b m x (frame_seen_as v k (record_at b) id d (outcome_of x) (reply_in x))

abbrev pub node_elsewhere_seen : Values → ℕ → List ℕ → List ℕ → ℕ → List ℕ → Framed → List Seen
node_elsewhere_seen v k b o id d x = seen_by b o x (frame_elsewhere_as v k (record_at b) id d (outcome_of x) (reply_in x))

-- a call of the sender's own is lent nothing of the receiver's
unfoldable pub seen : Values → ℕ → List ℕ → List ℕ → List ℕ → NodeCall → List Seen
seen v k b m s (receiver l) = shown v k b m l
seen v k b m s (node id d a w) = node_seen v k b m id d (receiver_part (node_framed_in b id d m (lent_of w s) a))
seen v k b m s (node_elsewhere o e id d a w) = node_elsewhere_seen v k b o id d (receiver_part (node_framed_in b id d o (lent_of w s) a))
seen v k b m s (sender c w) = []

unfoldable pub seen_over : Values → ℕ → List ℕ → List ℕ → List ℕ → List NodeCall → List Seen
seen_over v k b m s [] = []
seen_over v k b m s (c ∷ cs) = seen v k b m s c ++ seen_over v k (record_next b m s c) (store_next b m s c) (sender_next b m s c) cs
