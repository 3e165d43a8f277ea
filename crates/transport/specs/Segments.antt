-- Data frames: 01, "Transfer frames"; 001, Figures 37 and 38.
use Rattle.std.specs.Prelude.{ℕ, ◌+◌, ◌-◌, ◌%◌, ◌≤◌, ◌<◌, cond, List, [], ◌∷◌, ◌++◌, ltb, length, get_or, drop, replicate, Err, Ok, Result}
use Rattle.frame.specs.Lengths.{frame_length}
use Rattle.frame.specs.Octets.{low3, low24}
use Rattle.frame.specs.declared.refusal.Refusal.TheVariants.{TransferLength}
use Rattle.transport.specs.declared.Key.{Key}
use Rattle.transport.specs.declared.segment.Segment.{Segment}
use Rattle.transport.specs.Heads.{head}
use Rattle.frame.specs.declared.refusal.Refusal.{Refusal}

-- byte 1: the format indicator in the low 4 bits (the session number above it is session_at of Heads)
abbrev pub format_at : List ℕ → ℕ
format_at d = get_or d 0 0 % 16

-- bytes 2 to 4
abbrev pub number_at : List ℕ → ℕ
number_at d = low24 d 1

-- data from byte 5 on
abbrev pub data_at : List ℕ → List ℕ
data_at d = drop 4 d

abbrev pub segment_at : List ℕ → Segment
segment_at d = record { format = format_at d; number = record { 0 = number_at d }; room = length d - 4 }

unfoldable pub data_frame_of : List ℕ → Result Segment Refusal
data_frame_of d = cond (ltb (length d) 5) (Err TransferLength) (Ok (segment_at d))

-- the number is one of three bytes, and the data lies in the frame
abbrev pub Fits : List ℕ → Result Segment Refusal → Type 0
Fits d (Ok sg) = (sg.number.0 < 16777216) × (4 + sg.room ≤ length d)
Fits d (Err n) = Unit {0}

-- ---- written: format indicator 0, the number, the data, then AA hex to the next length that CAN FD has (6.3.3.2)

abbrev pub front_of : Key → ℕ → List ℕ
front_of k n = head 0 k ∷ low3 n []

-- what fills up a frame of so many bytes
abbrev pub filler : ℕ → List ℕ
filler need = replicate (frame_length need - need) 170

unfoldable pub segment_bytes : Key → ℕ → List ℕ → List ℕ
segment_bytes k n d = front_of k n ++ (d ++ filler (4 + length d))
