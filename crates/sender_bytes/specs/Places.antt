-- What is where in a sender's record: the lengths and the places, named once.
use Rattle.std.specs.Prelude.{ℕ, ◌+◌, ◌*◌}

-- the record, its head, and a transfer
abbrev pub record_length : ℕ
record_length = 113

abbrev pub head_length : ℕ
head_length = 9

abbrev pub transfer_length : ℕ
transfer_length = 26

-- in the head: own address, idle limit, last reading
abbrev pub own_place : ℕ
own_place = 0

abbrev pub limit_place : ℕ
limit_place = 1

abbrev pub last_place : ℕ
last_place = 5

-- in a transfer: whether it is open, then what was announced
abbrev pub state_place : ℕ
state_place = 0

abbrev pub da_place : ℕ
da_place = 1

abbrev pub session_place : ℕ
session_place = 2

abbrev pub total_place : ℕ
total_place = 3

abbrev pub pgn_place : ℕ
pgn_place = 7

-- how far it has come: the rest of its bytes
abbrev pub complete_place : ℕ
complete_place = 11

abbrev pub reported_place : ℕ
reported_place = 12

abbrev pub owed_place : ℕ
owed_place = 13

abbrev pub next_place : ℕ
next_place = 14

abbrev pub granted_place : ℕ
granted_place = 18

abbrev pub mark_place : ℕ
mark_place = 22

abbrev pub offer_length : ℕ
offer_length = 11

abbrev pub course_length : ℕ
course_length = 15

-- where transfer i is, and where its course is
abbrev pub transfer_place : ℕ → ℕ
transfer_place i = head_length + transfer_length * i

abbrev pub course_place : ℕ → ℕ
course_place i = transfer_place i + offer_length
