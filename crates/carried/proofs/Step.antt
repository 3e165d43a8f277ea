-- One call over lent bytes is the receiver's own call on the record that the bytes hold.
use Rattle.std.specs.Prelude.{Err}
use Prim.Native.Nat.{ℕ}
use mathlib.Core.Path.{◌≡◌, refl, sym, ap, subst}
use mathlib.Core.Bool.{Bool, true, false, cond, not, ◌&&◌}
use mathlib.Core.List.{List}
use lib.Dec.{eqb}
use lib.ListN.{length, replicate}
use borrow.Author.Tests.{eq-eqb}
use Rattle.laws.specs.Choice.{else}
use Rattle.frame.specs.declared.refusal.Refusal.TheVariants.{OutOfBounds}
use Rattle.frame.specs.Judge.{judged}
use Rattle.receiver.specs.declared.Receiver.{Receiver}
use Rattle.answer.specs.declared.Answer.TheVariants.{Refused}
use Rattle.receiver.specs.Calls.{Elapsed}
use Rattle.receiver.specs.Bounds.{in_bounds}
use Rattle.receiver.specs.Calls.{Outcome, refused, is_ready, on_verdict, frame_all, stays, reading_kept, reading_step}
use Rattle.record_bytes.specs.Layout.{is_record, record_at}
use Rattle.record_bytes.specs.Keeping.{put_in}
use Rattle.record_bytes.specs.Pieces.{record_long}
use Rattle.record_bytes.specs.RoundTrip.{RecordFits}
use Rattle.record_bytes.proofs.PutBack.{put_is_record, put_read}
use Rattle.lent_record.specs.Ready.{ready_in}
use Rattle.engine.specs.declared.reading.ReadingAnswer.{ReadingAnswer}
use Rattle.engine.specs.InBytes.{InBytes, outcome_in, frame_in}
use Rattle.engine.specs.Elapsing.{elapsed_in, reading_in}
use Rattle.answer_bytes.specs.Places.{answer_length, answers_length}
use Rattle.answer_bytes.specs.Ends.{ends_bytes}
use Rattle.dwaebinam.specs.Calls.{told, framed_in}
use Rattle.answer.specs.Answers.{acceptance_number}
use Rattle.dwaebinam.specs.Reading.{read_by, read_in}

-- the bytes after a call are a record, and read as the receiver's next
pub record HasRecord (b : List ℕ) (r : Receiver) : Type 0 where
  pub codes : is_record b ≡ true
  pub reads : record_at b ≡ r

-- ---- a frame

-- answer and store are the receiver's, and the bytes hold its next record
pub record Frames (x : InBytes) (o : Outcome) : Type 0 where
  pub answer : x.0 ≡ o.0.answer
  pub store : x.1.1 ≡ o.1
  pub next : HasRecord x.1.0 o.0.next

-- number and answers are the receiver's, and the bytes hold its next record
pub record Reads (x : ℕ × (List ℕ × List ℕ)) (e : Elapsed) : Type 0 where
  pub number : x.0 ≡ acceptance_number e.answer
  pub answers : x.1.1 ≡ ends_bytes e.ends
  pub next : HasRecord x.1.0 e.next

module _ (b : List ℕ) (is : is_record b ≡ true) where
  pub put_holds : (r : Receiver) → RecordFits r → HasRecord (put_in b r) r
  put_holds r f = record { codes = put_is_record b (record_long b is) r f; reads = put_read b (record_long b is) r f }

  -- One frame, refused or not: 23 too.
  pub frame_step_lem : (id : ℕ) (d m : List ℕ) → RecordFits (frame_all (record_at b) id d m).0.next → Frames (frame_in b id d m) (frame_all (record_at b) id d m)
  unfolding frame_in ready_in frame_all
  frame_step_lem id d m f =
      subst (λ (t : Bool). Frames (cond (t && (eqb (length m) 32768 && in_bounds r)) (outcome_in b (frame_all r id d m)) (Refused OutOfBounds, (b, m))) (frame_all r id d m)) (sym is)
      (go (is_ready r m) f)
    where
      r : Receiver
      r = record_at b

      o : Outcome
      o = on_verdict (judged r.own id (length d)) r d m

      go : (t : Bool) → RecordFits (cond t o (refused r OutOfBounds, m)).0.next
          → Frames (cond t (outcome_in b (cond t o (refused r OutOfBounds, m))) (Refused OutOfBounds, (b, m))) (cond t o (refused r OutOfBounds, m))
      go true f = record { answer = refl; store = refl; next = put_holds o.0.next f }
      go false f = record { answer = refl; store = refl; next = record { codes = is; reads = refl } }

  -- ---- a reading

  reading_reads : (t : ℕ) (m : List ℕ) → RecordFits (reading_step (record_at b) t m).next → Reads (read_by (reading_in b t m)) (reading_step (record_at b) t m)
  unfolding reading_in ready_in reading_step
  reading_reads t m f =
      subst (λ (u : Bool). Reads (read_by (cond (u && (eqb (length m) 32768 && in_bounds r)) (elapsed_in b (reading_step r t m)) (none, b))) (reading_step r t m)) (sym is)
      (go (is_ready r m) f)
    where
      r : Receiver
      r = record_at b

      none : ReadingAnswer
      none = record { answer = Err OutOfBounds; ends = replicate 8 stays }

      by : Bool → Elapsed
      by u = cond u (reading_kept r t) (record { next = r; answer = Err OutOfBounds; ends = replicate 8 stays })

      go : (u : Bool) → RecordFits (by u).next → Reads (read_by (cond u (elapsed_in b (by u)) (none, b))) (by u)
      go true f = record { number = refl; answers = refl; next = put_holds (reading_kept r t).next f }
      go false f = record { number = refl; answers = refl; next = record { codes = is; reads = refl } }

  -- One reading with room of the right length, refused or not.
  pub reading_step_lem : (t : ℕ) (m a : List ℕ) → length a ≡ answers_length → RecordFits (reading_step (record_at b) t m).next → Reads (read_in b t m a) (reading_step (record_at b) t m)
  unfolding read_in
  reading_step_lem t m a room f =
      subst (λ (x : ℕ × (List ℕ × List ℕ)). Reads x (reading_step (record_at b) t m))
      (else (not (eqb (length a) answers_length)) _ _ _ (ap not (eq-eqb _ _ room)) refl)
      (reading_reads t m f)

-- room of the right length for a frame's answer
pub framed_is : (b : List ℕ) (id : ℕ) (d m a : List ℕ) → length a ≡ answer_length → framed_in b id d m a ≡ told (frame_in b id d m)
unfolding framed_in
framed_is b id d m a room = sym (else (not (eqb (length a) answer_length)) _ _ _ (ap not (eq-eqb _ _ room)) refl)
