-- The numbers that 01, "Program", gives, and its edges: computed.
use Rattle.std.specs.Prelude.{◌≡◌, refl, [], ◌∷◌, Some, None, Ok, Err}
use Rattle.trace.specs.declared.Fault.TheVariants.{Cut, NotShortest, TooLarge, Kind, Length}
use Rattle.trace.specs.declared.record.Record.TheVariants.{Reading, Frame}
use Rattle.trace.specs.Numbers.{number_at, number_bytes, group_bytes}
use Rattle.trace.specs.Records.{record_at, record_bytes, frame}

-- 300 is AC 02
pub number_300 : number_at (0xAC ∷ 0x02 ∷ []) 0 ≡ Ok (300, 2)
unfolding number_at
number_300 = refl

pub bytes_300 : number_bytes 300 ≡ 0xAC ∷ 0x02 ∷ []
unfolding number_bytes group_bytes
bytes_300 = refl

-- 127 is 7F
pub number_127 : number_at (0x7F ∷ []) 0 ≡ Ok (127, 1)
unfolding number_at
number_127 = refl

pub bytes_127 : number_bytes 127 ≡ 0x7F ∷ []
unfolding number_bytes group_bytes
bytes_127 = refl

-- 128 is 80 01
pub number_128 : number_at (0x80 ∷ 0x01 ∷ []) 0 ≡ Ok (128, 2)
unfolding number_at
number_128 = refl

pub bytes_128 : number_bytes 128 ≡ 0x80 ∷ 0x01 ∷ []
unfolding number_bytes group_bytes
bytes_128 = refl

-- 80 00 is bad
pub number_80_00 : number_at (0x80 ∷ 0x00 ∷ []) 0 ≡ Err NotShortest
unfolding number_at
number_80_00 = refl

-- the largest number, and the next
pub number_largest : number_at (0xFF ∷ 0xFF ∷ 0xFF ∷ 0xFF ∷ 0x0F ∷ []) 0 ≡ Ok (4294967295, 5)
unfolding number_at
number_largest = refl

pub number_too_large : number_at (0x80 ∷ 0x80 ∷ 0x80 ∷ 0x80 ∷ 0x10 ∷ []) 0 ≡ Err TooLarge
unfolding number_at
number_too_large = refl

pub number_cut : number_at (0xFF ∷ 0xFF ∷ []) 0 ≡ Err Cut
unfolding number_at
number_cut = refl

-- the whole case's reading 0
pub record_reading : record_at (0x00 ∷ 0x00 ∷ []) 0 ≡ Ok (Some (Reading 0 2))
unfolding record_at number_at
record_reading = refl

-- its fourth record: identifier 1C4E2180 hex, five bytes
pub record_frame : record_at (0x01 ∷ 0x80 ∷ 0xC3 ∷ 0xB8 ∷ 0xE2 ∷ 0x01 ∷ 0x05 ∷ 0x30 ∷ 0x02 ∷ 0x00 ∷ 0x00 ∷ 0x11 ∷ []) 0 ≡ Ok (Some (Frame 0x1C4E2180 7 5 12))
unfolding record_at number_at
record_frame = refl

pub bytes_frame : record_bytes (frame 0x1C4E2180 (0x30 ∷ 0x02 ∷ 0x00 ∷ 0x00 ∷ 0x11 ∷ []))
    ≡ 0x01 ∷ 0x80 ∷ 0xC3 ∷ 0xB8 ∷ 0xE2 ∷ 0x01 ∷ 0x05 ∷ 0x30 ∷ 0x02 ∷ 0x00 ∷ 0x00 ∷ 0x11 ∷ []
unfolding number_bytes group_bytes
bytes_frame = refl

-- between records, inside one, another kind, 65 bytes
pub record_end_lem : record_at (0x00 ∷ 0x00 ∷ []) 2 ≡ Ok None
unfolding record_at number_at
record_end_lem = refl

pub record_more : record_at (0x00 ∷ []) 0 ≡ Err Cut
unfolding record_at number_at
record_more = refl

pub record_kind : record_at (0x02 ∷ []) 0 ≡ Err Kind
unfolding record_at number_at
record_kind = refl

pub record_length_lem : record_at (0x01 ∷ 0x00 ∷ 0x41 ∷ []) 0 ≡ Err Length
unfolding record_at number_at
record_length_lem = refl
