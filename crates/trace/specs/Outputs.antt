-- What a writer leaves in the output that it was lent, and what it answers.
use Rattle.std.specs.Prelude.{ℕ, ◌+◌, ◌≡◌, Bool, false, cond, List, ◌++◌, leb, ltb, length, take, drop, Result, Ok, Err}
use Rattle.trace.specs.declared.output.WriteError.{WriteError}
use Rattle.trace.specs.declared.output.WriteError.TheVariants.{NoRoom, TooLong}
use Rattle.trace.specs.Records.{Record, reading, frame, record_bytes}

-- the output d with s at a place, and every other byte as it was
abbrev pub placed : List ℕ → ℕ → List ℕ → List ℕ
placed d at s = take at d ++ s ++ drop (at + length s) d

-- s was put there, where there was room
pub record Put (d : List ℕ) (at : ℕ) (s : List ℕ) (next : ℕ) (output : List ℕ) : Type 0 where
  pub place : next ≡ at + length s
  pub bytes : output ≡ placed d at s

abbrev pub has_room : List ℕ → ℕ → List ℕ → Bool
has_room d at s = leb (at + length s) (length d)

-- s is written whole, or not at all
abbrev pub answer_of : List ℕ → ℕ → List ℕ → Result ℕ WriteError
answer_of d at s = cond (has_room d at s) (Ok (at + length s)) (Err NoRoom)

abbrev pub output_of : List ℕ → ℕ → List ℕ → List ℕ
output_of d at s = cond (has_room d at s) (placed d at s) d

pub record NumberWritten (d : List ℕ) (at : ℕ) (s : List ℕ) (r : Result ℕ WriteError) (output : List ℕ) : Type 0 where
  pub answer : r ≡ answer_of d at s
  pub bytes : output ≡ output_of d at s

-- a frame of more than 64 bytes has no record
abbrev pub too_long : Record → Bool
too_long (reading value) = false
too_long (frame identifier data') = ltb 64 (length data')

pub record RecordWritten (d : List ℕ) (at : ℕ) (x : Record) (r : Result ℕ WriteError) (output : List ℕ) : Type 0 where
  pub answer : r ≡ cond (too_long x) (Err TooLong) (answer_of d at (record_bytes x))
  pub bytes : output ≡ cond (too_long x) d (output_of d at (record_bytes x))
