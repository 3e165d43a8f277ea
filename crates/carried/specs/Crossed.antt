-- A list of calls as a program in C makes them, over the bytes that it lends, and what each gives; and the same of the receiver.
use Rattle.std.specs.Prelude.{ℕ, ◌<◌, ◌≡◌, List, [], ◌∷◌, map, length}
use Rattle.receiver.specs.declared.Receiver.{Receiver}
use Rattle.answer.specs.declared.Answer.{Answer}
use Rattle.receiver.specs.Calls.{Elapsed}
use Rattle.receiver.specs.Calls.{frame_step, reading_step}
use Rattle.answer.specs.Answers.{answer_number, acceptance_number}
use Rattle.record_bytes.specs.Kept.{Bytes}
use Rattle.answer_bytes.specs.Places.{answer_length, answers_length}
use Rattle.answer_bytes.specs.Answers.{answer_bytes}
use Rattle.answer_bytes.specs.Ends.{ends_bytes}
use Rattle.dwaebinam.specs.Calls.{framed_in}
use Rattle.dwaebinam.specs.Reading.{read_in}
use Rattle.isolation.specs.World.{frame, clock, Call, lent, elsewhere}
use Rattle.isolation.specs.Observe.{record_after, store_after}

-- number, and bytes of the answer or of the answers
abbrev pub Given : Type 0
Given = ℕ × List ℕ

-- ---- over lent bytes: b the record, m the store, a the room for the answer

-- a call with the room that it is lent
abbrev pub Lending : Type 0
Lending = Call × List ℕ

-- room of the right length, a frame of bytes, and a reading of 32 bits
abbrev pub Proper : Lending → Type 0
Proper (lent (frame id d), a) = (length a ≡ answer_length) × Bytes d
Proper (lent (clock t), a) = (length a ≡ answers_length) × (t < 4294967296)
Proper (elsewhere o e (frame id d), a) = (length a ≡ answer_length) × Bytes d
Proper (elsewhere o e (clock t), a) = (length a ≡ answers_length) × (t < 4294967296)

abbrev pub AllProper : List Lending → Type 0
AllProper [] = Unit {0}
AllProper (l ∷ ls) = Proper l × AllProper ls

abbrev pub frame_gives : ℕ × (List ℕ × (List ℕ × List ℕ)) → Given
frame_gives x = (x.0, x.1.1.1)

abbrev pub reading_gives : ℕ × (List ℕ × List ℕ) → Given
reading_gives x = (x.0, x.1.1)

unfoldable pub gives : List ℕ → List ℕ → Lending → Given
gives b m (lent (frame id d), a) = frame_gives (framed_in b id d m a)
gives b m (lent (clock t), a) = reading_gives (read_in b t m a)
gives b m (elsewhere o e (frame id d), a) = frame_gives (framed_in b id d o a)
gives b m (elsewhere o e (clock t), a) = reading_gives (read_in b t o a)

unfoldable pub bytes_after : List ℕ → List ℕ → Lending → List ℕ
bytes_after b m (lent (frame id d), a) = (framed_in b id d m a).1.0
bytes_after b m (lent (clock t), a) = (read_in b t m a).1.0
bytes_after b m (elsewhere o e (frame id d), a) = (framed_in b id d o a).1.0
bytes_after b m (elsewhere o e (clock t), a) = (read_in b t o a).1.0

unfoldable pub store_left : List ℕ → List ℕ → Lending → List ℕ
store_left b m (lent (frame id d), a) = (framed_in b id d m a).1.1.0
store_left b m (lent (clock t), a) = m
store_left b m (elsewhere o e c, a) = m

-- each call is lent the record's bytes and the store as the last one left them
unfoldable pub gives_over : List ℕ → List ℕ → List Lending → List Given
gives_over b m [] = []
gives_over b m (l ∷ ls) = gives b m l ∷ gives_over (bytes_after b m l) (store_left b m l) ls

unfoldable pub bytes_over : List ℕ → List ℕ → List Lending → List ℕ
bytes_over b m [] = b
bytes_over b m (l ∷ ls) = bytes_over (bytes_after b m l) (store_left b m l) ls

unfoldable pub left_over : List ℕ → List ℕ → List Lending → List ℕ
left_over b m [] = m
left_over b m (l ∷ ls) = left_over (bytes_after b m l) (store_left b m l) ls

-- ---- of the receiver, whose record is a value

abbrev pub calls_of : List Lending → List Call
calls_of ls = map (λ (l : Lending). l.0) ls

abbrev pub answer_given : Answer → Given
answer_given x = (answer_number x, answer_bytes x)

abbrev pub ends_given : Elapsed → Given
ends_given x = (acceptance_number x.answer, ends_bytes x.ends)

unfoldable pub answers : Receiver → List ℕ → Call → Given
answers r m (lent (frame id d)) = answer_given (frame_step r id d m).answer
answers r m (lent (clock t)) = ends_given (reading_step r t m)
answers r m (elsewhere o e (frame id d)) = answer_given (frame_step r id d o).answer
answers r m (elsewhere o e (clock t)) = ends_given (reading_step r t o)

unfoldable pub answers_over : Receiver → List ℕ → List Call → List Given
answers_over r m [] = []
answers_over r m (c ∷ cs) = answers r m c ∷ answers_over (record_after r m c) (store_after r m c) cs
