-- A step of the receiver, seen in the buffer that holds its record: the answer, the record's bytes and the store.
use Rattle.std.specs.Prelude.{ℕ, ◌≡◌, true, cond, List, length, Err, Ok, Result, ⊤}
use Rattle.frame.specs.declared.judge.Route.{Route}
use Rattle.frame.specs.declared.refusal.Refusal.TheVariants.{OutOfBounds}
use Rattle.answer.specs.declared.Answer.{Answer}
use Rattle.answer.specs.declared.Answer.TheVariants.{Groups, Refused}
use Rattle.receiver.specs.Calls.{Stepped, Outcome, frame_all}
use Rattle.record_bytes.specs.Layout.{is_record, record_at}
use Rattle.record_bytes.specs.Keeping.{put_in}
use Rattle.record_bytes.specs.Kept.{Bytes}
use Rattle.lent_record.specs.Ready.{ready_in}
use Rattle.frame.specs.declared.refusal.Refusal.{Refusal}

-- a buffer that holds a record
pub record Holds (b : List ℕ) : Type 0 where
  pub codes : is_record b ≡ true
  pub bytes : Bytes b

-- a step that leaves the store as it is
abbrev pub stepped_in : List ℕ → Stepped → Answer × List ℕ
stepped_in b x = (x.answer, put_in b x.next)

abbrev pub InBytes : Type 0
InBytes = Answer × (List ℕ × List ℕ)

abbrev pub outcome_in : List ℕ → Outcome → InBytes
outcome_in b o = (o.0.answer, (put_in b o.0.next, o.1))

-- what a Multi-PG frame answers, whatever the record
abbrev pub groups_answer : Result ⊤ Refusal → Route → Answer
groups_answer (Ok tt) route = Groups route
groups_answer (Err n) route = Refused n

-- 23 changes nothing; else the receiver's step of the record that the buffer holds
unfoldable pub frame_in : List ℕ → ℕ → List ℕ → List ℕ → InBytes
frame_in b id d m =
    cond (ready_in b (length m)) (outcome_in b (frame_all (record_at b) id d m)) (Refused OutOfBounds, (b, m))
