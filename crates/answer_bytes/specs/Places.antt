-- What is where in an answer's bytes: the lengths and the places, named once.
use Rattle.std.specs.Prelude.{ℕ, ◌*◌}

-- an answer, and the answers of a reading: one for each slot
abbrev pub answer_length : ℕ
answer_length = 36

abbrev pub answers_length : ℕ
answers_length = 288

abbrev pub answer_place : ℕ → ℕ
answer_place i = answer_length * i

-- the fields
abbrev pub number_place : ℕ
number_place = 0

abbrev pub code_place : ℕ
code_place = 1

abbrev pub sa_place : ℕ
sa_place = 2

abbrev pub da_place : ℕ
da_place = 3

abbrev pub session_place : ℕ
session_place = 4

abbrev pub kind_place : ℕ
kind_place = 5

abbrev pub extra_place : ℕ
extra_place = 6

abbrev pub pgn_place : ℕ
pgn_place = 7

abbrev pub total_place : ℕ
total_place = 11

abbrev pub segment_place : ℕ
segment_place = 15

-- the control frame that is due, after the fields: whether there is one, its identifier, its data
abbrev pub sent_place : ℕ
sent_place = 19

abbrev pub identifier_place : ℕ
identifier_place = 20

abbrev pub data_place : ℕ
data_place = 24

abbrev pub sent_length : ℕ
sent_length = 17

abbrev pub data_length : ℕ
data_length = 12
