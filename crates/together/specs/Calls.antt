-- The calls of a node with both ends, as a program in C makes them over the bytes that it lends, and what each leaves (02, E2).
-- b is the receiver's record, m its store, s the sender's record.
use Rattle.std.specs.Prelude.{ℕ, ◌≡◌, false, List, [], ◌∷◌, eqb, length}
use Rattle.record_bytes.specs.Kept.{Bytes}
use Rattle.answer_bytes.specs.Places.{answer_length}
use Rattle.dwaebinam.specs.Sending.{sender_opened_in, announced_in, asked_in, heard_in, sender_read_in}
use Rattle.dwaebinam.specs.Node.{node_framed_in}
use Rattle.carried.specs.Crossed.{Lending, Proper, bytes_after, store_left}

-- ---- the calls

-- the sender's record as the calls before left it, or any other bytes in its place, which are not kept
pub data SenderBytes : Type 0 where
  kept : SenderBytes
  others : List ℕ → SenderBytes

-- a call to the sender alone, with what it is lent besides its record
pub data Sending : Type 0 where
  -- own address, limit, first reading
  opening : ℕ → ℕ → ℕ → Sending
  -- destination, session number, PGN; message, output, room for the answer
  announcement : ℕ → ℕ → ℕ → List ℕ → List ℕ → List ℕ → Sending
  -- destination, session number; message, output, room
  next_frame : ℕ → ℕ → List ℕ → List ℕ → List ℕ → Sending
  -- identifier, bytes, room
  control : ℕ → List ℕ → List ℕ → Sending
  -- reading, room
  reading : ℕ → List ℕ → Sending

pub data NodeCall : Type 0 where
  -- the receiver's own call
  receiver : Lending → NodeCall
  -- the node's frame call, lent the store: identifier, bytes, room, sender's record
  node : ℕ → List ℕ → List ℕ → SenderBytes → NodeCall
  -- the same, lent a buffer of another length in the store's place
  node_elsewhere : (buffer : List ℕ) → eqb (length buffer) 32768 ≡ false → ℕ → List ℕ → List ℕ → SenderBytes → NodeCall
  -- the sender's own call
  sender : Sending → SenderBytes → NodeCall

-- as of the receiver's calls: room of the right length and a frame of bytes; nothing is asked of the sender's calls
abbrev pub Suits : NodeCall → Type 0
Suits (receiver l) = Proper l
Suits (node id d a w) = (length a ≡ answer_length) × Bytes d
Suits (node_elsewhere o e id d a w) = (length a ≡ answer_length) × Bytes d
Suits (sender c w) = Unit {0}

abbrev pub AllSuit : List NodeCall → Type 0
AllSuit [] = Unit {0}
AllSuit (c ∷ cs) = Suits c × AllSuit cs

-- ---- what each leaves

-- the bytes that a call is lent as the sender's record
abbrev pub lent_of : SenderBytes → List ℕ → List ℕ
lent_of kept s = s
lent_of (others o) s = o

-- the sender's record after a call that leaves x in the bytes that it was lent
abbrev pub kept_of : SenderBytes → List ℕ → List ℕ → List ℕ
kept_of kept s x = x
kept_of (others o) s x = s

unfoldable pub sending_leaves : List ℕ → Sending → List ℕ
sending_leaves s (opening own limit t) = (sender_opened_in own limit t s).1
sending_leaves s (announcement da session pgn m out a) = (announced_in s da session pgn m out a).1.0
sending_leaves s (next_frame da session m out a) = (asked_in s da session m out a).1.0
sending_leaves s (control id d a) = (heard_in s id d a).1.0
sending_leaves s (reading t a) = (sender_read_in s t a).1.0

unfoldable pub record_next : List ℕ → List ℕ → List ℕ → NodeCall → List ℕ
record_next b m s (receiver l) = bytes_after b m l
record_next b m s (node id d a w) = (node_framed_in b id d m (lent_of w s) a).1.0
record_next b m s (node_elsewhere o e id d a w) = (node_framed_in b id d o (lent_of w s) a).1.0
record_next b m s (sender c w) = b

unfoldable pub store_next : List ℕ → List ℕ → List ℕ → NodeCall → List ℕ
store_next b m s (receiver l) = store_left b m l
store_next b m s (node id d a w) = (node_framed_in b id d m (lent_of w s) a).1.1.0
store_next b m s (node_elsewhere o e id d a w) = m
store_next b m s (sender c w) = m

unfoldable pub sender_next : List ℕ → List ℕ → List ℕ → NodeCall → List ℕ
sender_next b m s (receiver l) = s
sender_next b m s (node id d a w) = kept_of w s (node_framed_in b id d m (lent_of w s) a).1.1.1.0
sender_next b m s (node_elsewhere o e id d a w) = kept_of w s (node_framed_in b id d o (lent_of w s) a).1.1.1.0
sender_next b m s (sender c w) = kept_of w s (sending_leaves (lent_of w s) c)

-- ---- a list: each call is lent all three as the last one left them

unfoldable pub record_end : List ℕ → List ℕ → List ℕ → List NodeCall → List ℕ
record_end b m s [] = b
record_end b m s (c ∷ cs) = record_end (record_next b m s c) (store_next b m s c) (sender_next b m s c) cs

unfoldable pub store_end : List ℕ → List ℕ → List ℕ → List NodeCall → List ℕ
store_end b m s [] = m
store_end b m s (c ∷ cs) = store_end (record_next b m s c) (store_next b m s c) (sender_next b m s c) cs

unfoldable pub sender_end : List ℕ → List ℕ → List ℕ → List NodeCall → List ℕ
sender_end b m s [] = s
sender_end b m s (c ∷ cs) = sender_end (record_next b m s c) (store_next b m s c) (sender_next b m s c) cs
