-- What a list of calls over lent bytes shows for one key. It is said as of the receiver itself, but of what a program in C has: the
-- answers and the frames sent as they are read off the bytes given, the records that its buffer holds, and the store as the calls leave it.
use Rattle.std.specs.Prelude.{ℕ, zero, suc, cond, List, [], ◌∷◌, ◌++◌, eqb, get_or, take, drop}
use Rattle.receiver.specs.Calls.{Outcome}
use Rattle.record_bytes.specs.Layout.{kind_at, record_at}
use Rattle.words.specs.Words.{low32}
use Rattle.answer_bytes.specs.Places.{answer_length, number_place, code_place, kind_place, pgn_place}
use Rattle.dwaebinam.specs.Calls.{framed_in}
use Rattle.dwaebinam.specs.Reading.{read_in}
use Rattle.isolation.specs.Rules as rules
use Rattle.isolation.specs.Rules.{Values}
use Rattle.isolation.specs.World.{frame, clock, lent, elsewhere}
use Rattle.isolation.specs.Replies.{Reply, ended}
use Rattle.isolation.specs.Observe.{is_key, says_of, frame_seen_as, frame_elsewhere_as, reading_seen_as, reading_elsewhere_as}
use Rattle.carried.specs.Crossed.{Lending, bytes_after, store_left}
use Rattle.carried.specs.ReadBack.{key_in, answer_at, wire_at}

-- a frame: number, record, store and answer
abbrev pub outcome_of : ℕ × (List ℕ × (List ℕ × List ℕ)) → Outcome
outcome_of x = (record { next = record_at x.1.0; answer = answer_at x.1.1.1 }, x.1.1.0)

-- the reply in the bytes p of an answer, with the store m: the number in its first byte, and the frame sent by its own bytes
abbrev pub reply_at : List ℕ → List ℕ → Reply
reply_at p m = record { number = get_or p number_place 0; says = says_of (answer_at p) m; sends = wire_at p }

abbrev pub reply_in : ℕ × (List ℕ × (List ℕ × List ℕ)) → Reply
reply_in x = reply_at x.1.1.1 x.1.1.0

-- a reading: the ending that is in the bytes of a slot, if it is the key's
abbrev pub end_reply_at : List ℕ → Reply
end_reply_at p = record { number = get_or p number_place 0; says = ended (key_in p) (kind_at (get_or p kind_place 0)) (low32 p pgn_place); sends = wire_at p }

abbrev pub ending_at : ℕ → List ℕ → List Reply
ending_at k p = cond (eqb (get_or p code_place 0) 7) (cond (is_key k (key_in p)) (end_reply_at p ∷ []) []) []

abbrev pub endings_at : ℕ → ℕ → List ℕ → List Reply
endings_at k zero b = []
endings_at k (suc n) b = ending_at k (take answer_length b) ++ endings_at k n (drop answer_length b)

unfoldable pub shown : Values → ℕ → List ℕ → List ℕ → Lending → List rules.Seen
shown v k b m (lent (frame id d), a) =
    frame_seen_as v k (record_at b) id d (outcome_of (framed_in b id d m a)) (reply_in (framed_in b id d m a))
shown v k b m (lent (clock t), a) = reading_seen_as (read_in b t m a).0 (endings_at k 8 (read_in b t m a).1.1)
shown v k b m (elsewhere o e (frame id d), a) =
    frame_elsewhere_as v k (record_at b) id d (outcome_of (framed_in b id d o a)) (reply_in (framed_in b id d o a))
shown v k b m (elsewhere o e (clock t), a) =
    reading_elsewhere_as k (record_at b) (record_at (read_in b t o a).1.0) (read_in b t o a).0 (endings_at k 8 (read_in b t o a).1.1)

unfoldable pub shown_over : Values → ℕ → List ℕ → List ℕ → List Lending → List rules.Seen
shown_over v k b m [] = []
shown_over v k b m (l ∷ ls) = shown v k b m l ++ shown_over v k (bytes_after b m l) (store_left b m l) ls
