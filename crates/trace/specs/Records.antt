-- The records of a trace: 01, "Program". Number 0 and a reading; or number 1, identifier, length (at most 64), then that many bytes.
-- A record is judged from the left, and the first fault decides. Where the bytes end first, more are needed.
use Rattle.std.specs.Prelude.{ℕ, ◌+◌, ◌-◌, ◌<◌, ◌≤◌, cond, List, ◌++◌, eqb, leb, ltb, length, take, drop, Option, Some, None, Result, Ok, Err}
use Rattle.trace.specs.declared.Fault.{Fault}
use Rattle.trace.specs.declared.Fault.TheVariants.{Cut, Kind, Length}
use Rattle.trace.specs.declared.record.Record.{Record as Found}
use Rattle.trace.specs.declared.record.Record.TheVariants.{Reading, Frame}
use Rattle.trace.specs.Numbers.{number_at, number_bytes}

-- a number, then what goes by it and the place after it
abbrev pub on_number : Result (ℕ × ℕ) Fault → (ℕ → ℕ → Result Found Fault) → Result Found Fault
on_number (Ok (n, next)) rest = rest n next
on_number (Err f) rest = Err f

abbrev pub reading_found : ℕ → ℕ → Result Found Fault
reading_found value next = Ok (Reading value next)

abbrev pub reading_at : List ℕ → ℕ → Result Found Fault
reading_at d at = on_number (number_at d at) reading_found

-- n bytes from a place on, of bytes that end at `end`
abbrev pub bytes_at : ℕ → ℕ → ℕ → ℕ → Result Found Fault
bytes_at end identifier n start =
    cond (ltb 64 n) (Err Length)
    (cond (ltb (end - start) n) (Err Cut)
    (Ok (Frame identifier start n (start + n))))

abbrev pub length_at : List ℕ → ℕ → ℕ → Result Found Fault
length_at d identifier at = on_number (number_at d at) (bytes_at (length d) identifier)

abbrev pub frame_at : List ℕ → ℕ → Result Found Fault
frame_at d at = on_number (number_at d at) (length_at d)

abbrev pub by_kind : List ℕ → ℕ → ℕ → Result Found Fault
by_kind d kind at =
    cond (eqb kind 0) (reading_at d at)
    (cond (eqb kind 1) (frame_at d at)
    (Err Kind))

-- where bytes are, a record or a fault is found
abbrev pub found : Result Found Fault → Result (Option Found) Fault
found (Ok x) = Ok (Some x)
found (Err f) = Err f

-- The record at a place of a list; none where no byte is there. The fault Cut says that the bytes end inside a record that is good so far,
-- so that more of them may make it one; any other fault, that it is no record, whatever follows
unfoldable pub record_at : List ℕ → ℕ → Result (Option Found) Fault
record_at d at = cond (leb (length d) at) (Ok None) (found (on_number (number_at d at) (by_kind d)))

-- ---- written

-- what a record says
pub data Record : Type 0 where
  reading : ℕ → Record
  frame : ℕ → List ℕ → Record

-- its bytes
abbrev pub record_bytes : Record → List ℕ
record_bytes (reading value) = number_bytes 0 ++ number_bytes value
record_bytes (frame identifier bytes) = number_bytes 1 ++ (number_bytes identifier ++ (number_bytes (length bytes) ++ bytes))

-- a record that the format has
abbrev pub Good : Record → Type 0
Good (reading value) = value < 4294967296
Good (frame identifier bytes) = (identifier < 4294967296) × (length bytes ≤ 64)

-- what the record that was read from d says, with the place after it; or nothing
pub data Said : Type 0 where
  says : Record → ℕ → Said
  nothing : Said

abbrev pub said : List ℕ → Result (Option Found) Fault → Said
said d (Ok (Some (Reading value next))) = says (reading value) next
said d (Ok (Some (Frame identifier start n next))) = says (frame identifier (take n (drop start d))) next
said d (Ok None) = nothing
said d (Err f) = nothing
