-- The sender's calls over lent bytes: what each answers, and every byte that it writes (02, E2).
use Rattle.std.specs.Prelude.{ℕ, cond, not, List, eqb, length, replicate, Err, None, Ok, Option, Result}
use Rattle.frame.specs.Refusals.{number_of}
use Rattle.frame.specs.declared.refusal.Refusal.{Refusal}
use Rattle.answer.specs.declared.Ending.{Ending}
use Rattle.answer.specs.Answers.{acceptance_number}
use Rattle.answer_bytes.specs.Places.{answer_length}
use Rattle.transfer.specs.declared.Reply.{Reply}
use Rattle.sender.specs.Calls.{Called, open_in, announce_in, ask_in, hear_in}
use Rattle.sender.specs.Clock.{reading_in}
use Rattle.reply_bytes.specs.Places.{transfer_answers_length}
use Rattle.reply_bytes.specs.Replies.{reply_number, reply_bytes, given_bytes, transfer_ends_bytes}

-- an opening: the number, and the record's bytes
abbrev pub sender_opened_in : ℕ → ℕ → ℕ → List ℕ → ℕ × List ℕ
sender_opened_in own limit reading b =
    (acceptance_number (open_in (record { 0 = own }) limit reading b).0, (open_in (record { 0 = own }) limit reading b).1)

-- ---- a call that may give a frame: number; record, output and answer

abbrev pub Laid : Type 0
Laid = ℕ × (List ℕ × (List ℕ × List ℕ))

abbrev pub laid : Called → Laid
laid x = (reply_number x.0.reply, (x.1.0, (x.1.1, given_bytes x.0)))

-- 23 for room for an answer of another length: all stays as it was
unfoldable pub announced_in : List ℕ → ℕ → ℕ → ℕ → List ℕ → List ℕ → List ℕ → Laid
announced_in b da session pgn m out a =
    cond (not (eqb (length a) answer_length)) (23, (b, (out, a))) (laid (announce_in b (record { 0 = da }) (record { 0 = session }) pgn m out))

unfoldable pub asked_in : List ℕ → ℕ → ℕ → List ℕ → List ℕ → List ℕ → Laid
asked_in b da session m out a =
    cond (not (eqb (length a) answer_length)) (23, (b, (out, a))) (laid (ask_in b (record { 0 = da }) (record { 0 = session }) m out))

-- ---- a control frame, and a reading: number; record and answer

abbrev pub replied : Reply × List ℕ → ℕ × (List ℕ × List ℕ)
replied x = (reply_number x.0, (x.1, reply_bytes x.0))

unfoldable pub heard_in : List ℕ → ℕ → List ℕ → List ℕ → ℕ × (List ℕ × List ℕ)
heard_in b id d a = cond (not (eqb (length a) answer_length)) (23, (b, a)) (replied (hear_in b id d))

-- the ending of each transfer, none where the reading is refused
abbrev pub ends_of : Result (List (Option Ending)) Refusal → List (Option Ending)
ends_of (Ok ends) = ends
ends_of (Err n) = replicate 4 None

abbrev pub taken_number : Result (List (Option Ending)) Refusal → ℕ
taken_number (Ok ends) = 0
taken_number (Err n) = number_of n

abbrev pub elapsed_by : Result (List (Option Ending)) Refusal × List ℕ → ℕ × (List ℕ × List ℕ)
elapsed_by x = (taken_number x.0, (x.1, transfer_ends_bytes (ends_of x.0)))

unfoldable pub sender_read_in : List ℕ → ℕ → List ℕ → ℕ × (List ℕ × List ℕ)
sender_read_in b t a = cond (not (eqb (length a) transfer_answers_length)) (23, (b, a)) (elapsed_by (reading_in b t))
