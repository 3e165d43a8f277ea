-- The form of a parameter group number: 01, "Groups in one frame" and "Life of a session".
use Rattle.std.specs.Prelude.{ℕ, ◌/◌, ◌%◌, Bool, ◌&&◌, ◌||◌, eqb, leb, ltb}

-- with PF below 240 the low byte is 0
abbrev pub low_byte_ok : ℕ → Bool
low_byte_ok pgn = leb 240 (pgn / 256 % 256) || eqb (pgn % 256) 0

abbrev pub pgn_ok : ℕ → Bool
pgn_ok pgn = ltb pgn 262144 && low_byte_ok pgn
