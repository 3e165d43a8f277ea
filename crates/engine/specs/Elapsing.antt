-- A reading of the receiver, seen in the buffer that holds its record: what it answers, each slot's ending, and the record's bytes.
use Rattle.std.specs.Prelude.{ℕ, cond, List, [], ◌++◌, map, length, get_or, take, replicate, Err, Option}
use Rattle.std.proofs.Math.Seq.{paste}
use Rattle.frame.specs.declared.refusal.Refusal.TheVariants.{OutOfBounds}
use Rattle.progress.specs.declared.wait.IdleLimits.{IdleLimits}
use Rattle.slots.specs.Slots.{free_slot}
use Rattle.receiver.specs.Calls.{Elapsed, expired, end_of, stays, reading_step}
use Rattle.record_bytes.specs.Places.{head_length, slot_length, slot_place}
use Rattle.record_bytes.specs.Layout.{pieces_of, slots_at, record_at}
use Rattle.record_bytes.specs.Keeping.{kept, merged, put_in}
use Rattle.lent_record.specs.Ready.{ready_in}
use Rattle.engine.specs.declared.reading.ReadingAnswer.{ReadingAnswer}
use Rattle.answer.specs.declared.Ending.{Ending}

-- slot i at a reading: its ending, and the slot put over its piece
abbrev pub slot_elapsed : List ℕ → ℕ → IdleLimits → ℕ → Option Ending × List ℕ
slot_elapsed b i limits t = (
  end_of limits t (get_or (slots_at b) i free_slot),
  paste b (slot_place i) (kept (get_or (pieces_of b) i []) (expired limits t (get_or (slots_at b) i free_slot))) slot_length,
)

-- all slots, after the head as it was
abbrev pub slots_elapsed : List ℕ → IdleLimits → ℕ → List (Option Ending) × List ℕ
slots_elapsed b limits t =
    (map (end_of limits t) (slots_at b), take head_length b ++ merged (pieces_of b) (map (expired limits t) (slots_at b)))

abbrev pub elapsed_in : List ℕ → Elapsed → ReadingAnswer × List ℕ
elapsed_in b x = (record { answer = x.answer; ends = x.ends }, put_in b x.next)

-- 23 changes nothing; else the receiver's reading of the record that the buffer holds
unfoldable pub reading_in : List ℕ → ℕ → List ℕ → ReadingAnswer × List ℕ
reading_in b t m =
    cond (ready_in b (length m)) (elapsed_in b (reading_step (record_at b) t m))
    (record { answer = Err OutOfBounds; ends = replicate 8 stays }, b)
