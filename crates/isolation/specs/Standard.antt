-- What the rules hold of the papers by themselves, and do not take from the receiver: a frame's lengths, the form of a PGN, and the number
-- and the wire reason of each cause for which an Abort goes out.
use Rattle.std.specs.Prelude.{ℕ, ◌/◌, ◌%◌, ◌^◌, Bool, true, false, cond, ◌&&◌, ◌||◌, List, [], ◌∷◌, eqb, ltb}

-- ---- lengths of a frame: 01, "Numbers that hold everywhere"; 001, 6.3.3.2

unfoldable pub fd_lengths : List ℕ
fd_lengths = 0 ∷ 1 ∷ 2 ∷ 3 ∷ 4 ∷ 5 ∷ 6 ∷ 7 ∷ 8 ∷ 12 ∷ 16 ∷ 20 ∷ 24 ∷ 32 ∷ 48 ∷ 64 ∷ []

unfoldable pub is_one_of : ℕ → List ℕ → Bool
is_one_of n [] = false
is_one_of n (x ∷ xs) = eqb n x || is_one_of n xs

-- ---- the form of a PGN: 01, "Groups in one frame" and "Announcement"; 001, 6.1.3

-- page bits and PF, then a byte that is 0 where PF is below 240: 18 bits in all
unfoldable pub in_pgn_form : ℕ → Bool
in_pgn_form pgn = ltb pgn (2 ^ 18) && cond (ltb (pgn / 2 ^ 8 % 2 ^ 8) 240) (eqb (pgn % 2 ^ 8) 0) true

-- ---- why a request or a session is refused by an Abort: 01, "Life of a session"

pub data Cause : Type 0 where
  -- an announcement's PGN is in no good form
  pgn_wrong : Cause
  -- its numbers do not agree, or it grants nothing
  numbers_wrong : Cause
  -- it is longer than 4,096 bytes
  too_long : Cause
  -- it has assurance data
  assured : Cause
  -- its key is open, and it does not start the session anew
  key_open : Cause
  -- eight sessions are open
  eight_open : Cause
  -- a segment comes beyond the last, or in a broadcast beyond the next one
  out_of_order : Cause
  -- the end of message status is not as announced, or comes early in a broadcast
  unlike_announced : Cause
  -- it comes early, and missing segments were asked for five times
  requests_spent : Cause
  -- nothing came for as long as the idle limit
  silent : Cause

-- 01, "Numbered refusals"
unfoldable pub number_for : Cause → ℕ
number_for pgn_wrong = 8
number_for numbers_wrong = 11
number_for too_long = 12
number_for assured = 13
number_for key_open = 14
number_for eight_open = 15
number_for out_of_order = 19
number_for unlike_announced = 21
number_for requests_spent = 21
number_for silent = 22

-- 001, Table 11: 1 no further session, 3 too late, 5 all requests spent, 7 a wrong segment number, 9 larger than there is room for; 250 for
-- what has no line of its own (01, "Transfer frames")
unfoldable pub reason_for : Cause → ℕ
reason_for pgn_wrong = 250
reason_for numbers_wrong = 250
reason_for too_long = 9
reason_for assured = 250
reason_for key_open = 250
reason_for eight_open = 1
reason_for out_of_order = 7
reason_for unlike_announced = 250
reason_for requests_spent = 5
reason_for silent = 3
