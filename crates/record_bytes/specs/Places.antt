-- What is where in a record's bytes: the lengths and the places, named once.
use Rattle.std.specs.Prelude.{ℕ, ◌+◌, ◌*◌}

-- the record, its head, and a slot
abbrev pub record_length : ℕ
record_length = 373

abbrev pub head_length : ℕ
head_length = 13

abbrev pub slot_length : ℕ
slot_length = 45

-- in the head: own address, both idle limits, last reading
abbrev pub own_place : ℕ
own_place = 0

abbrev pub first_limit_place : ℕ
first_limit_place = 1

abbrev pub second_limit_place : ℕ
second_limit_place = 5

abbrev pub last_place : ℕ
last_place = 9

-- in a slot: the codes of its state and of its kind, then the rest of what was announced
abbrev pub state_place : ℕ
state_place = 0

abbrev pub kind_place : ℕ
kind_place = 1

abbrev pub sa_place : ℕ
sa_place = 2

abbrev pub da_place : ℕ
da_place = 3

abbrev pub session_place : ℕ
session_place = 4

abbrev pub total_place : ℕ
total_place = 5

abbrev pub segments_place : ℕ
segments_place = 9

abbrev pub max_place : ℕ
max_place = 13

abbrev pub pgn_place : ℕ
pgn_place = 14

-- a session's progress: the last bytes of its slot
abbrev pub next_place : ℕ
next_place = 18

abbrev pub granted_place : ℕ
granted_place = 22

abbrev pub mark_place : ℕ
mark_place = 26

abbrev pub wait_place : ℕ
wait_place = 30

-- of an RTS: which of segments 1 to 64 are in, and which of 65 to 69; how many are not; the requests made for them
abbrev pub taken_place : ℕ
taken_place = 31

abbrev pub taken_high_place : ℕ
taken_high_place = 39

abbrev pub missing_place : ℕ
missing_place = 40

abbrev pub requests_place : ℕ
requests_place = 44

abbrev pub announced_length : ℕ
announced_length = next_place

abbrev pub progress_length : ℕ
progress_length = 27

abbrev pub gathered_length : ℕ
gathered_length = 14

-- slot i, and the progress of its session
abbrev pub slot_place : ℕ → ℕ
slot_place i = head_length + slot_length * i

abbrev pub progress_place : ℕ → ℕ
progress_place i = head_length + announced_length + slot_length * i
