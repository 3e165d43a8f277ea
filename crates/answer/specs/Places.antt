-- Where the bytes of an answer are: 01, the last paragraph of "Life of a session". What does not lie there gives no byte.
use Rattle.std.specs.Prelude.{ℕ, ◌-◌, ◌*◌, cond, List, [], leb, ltb, length, take, drop, None, Option, Some}
use Rattle.answer.specs.declared.Answer.{Answer}
use Rattle.answer.specs.declared.Answer.TheVariants as answer
use Rattle.answer.specs.declared.place.Place.{Place}
use Rattle.answer.specs.declared.place.Place.TheVariants.{Group, Message}

-- the message that an answer hands over is in its slot; no other answer has bytes of its own
abbrev pub place_of : Answer → Option Place
place_of (answer.Groups route) = None
place_of (answer.Opened k) = None
place_of (answer.Taken t) = None
place_of (answer.Grant c) = None
place_of (answer.HandedOver m) = Some (Message m.slot m.total)
place_of (answer.Aborted k) = None
place_of (answer.Ended e) = None
place_of (answer.RefusedRts j) = None
place_of (answer.Refused n) = None

-- the len bytes from start on, where the list has them
abbrev pub cut_of : List ℕ → ℕ → ℕ → List ℕ
cut_of s start len =
    cond (ltb (length s) start) [] (cond (ltb (length s - start) len) [] (take len (drop start s)))

-- the first total bytes of a slot: there are eight, of 4,096 bytes each
abbrev pub message_cut : List ℕ → ℕ → ℕ → List ℕ
message_cut store slot total =
    cond (leb 8 slot) [] (cond (ltb 4096 total) [] (cut_of store (4096 * slot) total))

abbrev pub place_bytes : Option Place → List ℕ → List ℕ → List ℕ
place_bytes (Some (Group start len)) frame store = cut_of frame start len
place_bytes (Some (Message slot total)) frame store = message_cut store slot total.0
place_bytes None frame store = []
