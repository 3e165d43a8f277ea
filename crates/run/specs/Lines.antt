-- The lines of a trace: 01, "Program". The receiver is opened with own address 33, both limits 1,250 and reading 0; each record gives its lines;
-- last comes the count of the records, or the place of a record that is bad or cut off, and nothing after it.
use Rattle.std.specs.Prelude.{ℕ, zero, suc, ◌+◌, List, [], ◌++◌, length, take, drop, replicate, Option, Some, None, Result, Ok, Err, ⊤}
use Rattle.frame.specs.declared.Address.{Address}
use Rattle.answer.specs.declared.Answer.{Answer}
use Rattle.answer.specs.Places.{place_of, place_bytes}
use Rattle.trace.specs.declared.Fault.{Fault}
use Rattle.trace.specs.declared.Fault.TheVariants.{Cut}
use Rattle.trace.specs.declared.record.Record.{Record}
use Rattle.trace.specs.declared.record.Record.TheVariants.{Reading, Frame}
use Rattle.trace.specs.Records.{record_at}
use Rattle.progress.specs.declared.wait.IdleLimits.{IdleLimits}
use Rattle.receiver.specs.declared.Receiver.{Receiver}
use Rattle.receiver.specs.Bounds.{opened}
use Rattle.receiver.specs.Calls.{Outcome, Elapsed, frame_all, reading_step}
use Rattle.report.specs.Lines.{answer_lines, reading_lines, end_line, bad_line}
use Rattle.answer.specs.declared.Ending.{Ending}
use Rattle.frame.specs.declared.refusal.Refusal.{Refusal}

-- ---- a receiver, whose record is an R: what a frame and what a reading make of it, beside the store

pub record Receives (R : Type 0) : Type 0 where
  pub frame : R → ℕ → List ℕ → List ℕ → Answer × (R × List ℕ)
  pub reading : R → ℕ → List ℕ → ((Result ⊤ Refusal) × List (Option Ending)) × R

abbrev pub framed_by : Outcome → Answer × (Receiver × List ℕ)
framed_by o = (o.0.answer, (o.0.next, o.1))

abbrev pub read_by : Elapsed → ((Result ⊤ Refusal) × List (Option Ending)) × Receiver
read_by x = ((x.answer, x.ends), x.next)

-- the receiver of 01
abbrev pub the_receiver : Receives Receiver
the_receiver =
    record {
      frame = λ (r : Receiver) (id : ℕ) (d m : List ℕ). framed_by (frame_all r id d m);
      reading = λ (r : Receiver) (t : ℕ) (m : List ℕ). read_by (reading_step r t m);
    }

-- ---- one record

-- its lines, and the receiver's record and the store after it
pub record Done (R : Type 0) : Type 0 where
  pub lines : List ℕ
  pub receiver : R
  pub store : List ℕ

abbrev pub framed : {R : Type 0} → List ℕ → Answer × (R × List ℕ) → Done R
framed d x =
    record { lines = answer_lines d x.0 (place_bytes (place_of x.0) d x.1.1); receiver = x.1.0; store = x.1.1 }

abbrev pub elapsed : {R : Type 0} → List ℕ → ((Result ⊤ Refusal) × List (Option Ending)) × R → Done R
elapsed m x = record { lines = reading_lines x.0.0 x.0.1; receiver = x.1; store = m }

-- what is at a place of the trace: a record, with the place after it; the trace's end; a record cut off by it; no record
pub data Turn (R : Type 0) : Type 0 where
  took : Done R → ℕ → Turn R
  over : Turn R
  cut : Turn R
  bad : Turn R

abbrev pub turn_by : {R : Type 0} → Receives R → R → List ℕ → List ℕ → Result (Option Record) Fault → Turn R
turn_by M r m d (Ok None) = over
turn_by M r m d (Ok (Some (Reading t next))) = took (elapsed m (M.reading r t m)) next
turn_by M r m d (Ok (Some (Frame id start n next))) = took (framed (take n (drop start d)) (M.frame r id (take n (drop start d)) m)) next
turn_by M r m d (Err Cut) = cut
turn_by M r m d (Err f) = bad

unfoldable pub turn_at : {R : Type 0} → Receives R → R → List ℕ → List ℕ → ℕ → Turn R
turn_at M r m d at = turn_by M r m d (record_at d at)

-- ---- the whole trace

-- between two records: so many were good, and the next begins at the place
pub record State (R : Type 0) : Type 0 where
  pub receiver : R
  pub store : List ℕ
  pub records : ℕ
  pub place : ℕ

abbrev pub after : {R : Type 0} → ℕ → Done R → ℕ → State R
after k x next = record { receiver = x.receiver; store = x.store; records = k + 1; place = next }

abbrev pub on_turn : {R : Type 0} → State R → Turn R → (State R → List ℕ) → List ℕ
on_turn s (took x next) rest = x.lines ++ rest (after s.records x next)
on_turn s over rest = end_line s.records
on_turn s cut rest = bad_line s.place
on_turn s bad rest = bad_line s.place

-- the lines from s on, of a trace d. The number only ends the count: no trace has more records than bytes
unfoldable pub lines_from : {R : Type 0} → Receives R → ℕ → State R → List ℕ → List ℕ
lines_from M zero s d = []
lines_from M (suc n) s d = on_turn s (turn_at M s.receiver s.store d s.place) (λ t. lines_from M n t d)

unfoldable pub lines_in : {R : Type 0} → Receives R → State R → List ℕ → List ℕ
lines_in M s d = lines_from M (suc (length d)) s d

abbrev pub own : Address
own = record { 0 = 33 }

abbrev pub limits : IdleLimits
limits = record { first = 1250; second = 1250 }

abbrev pub start : State Receiver
start = record { receiver = (opened own limits 0).receiver; store = replicate 32768 0; records = 0; place = 0 }

-- what the program prints
unfoldable pub lines_of : List ℕ → List ℕ
lines_of d = lines_in the_receiver start d
