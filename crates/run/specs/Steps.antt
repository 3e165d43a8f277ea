-- The same of a receiver whose record is in bytes, and one step of it as the code takes it.
use Rattle.std.specs.Prelude.{ℕ, ◌+◌, cond, List, length, None, Option, Result, Ok, Err, Some, ⊤}
use Rattle.text.specs.Line.{fits}
use Rattle.text.specs.Put.{put}
use Rattle.engine.specs.declared.reading.ReadingAnswer.{ReadingAnswer}
use Rattle.engine.specs.InBytes.{frame_in}
use Rattle.engine.specs.Elapsing.{reading_in}
use Rattle.run.specs.Lines.{Receives, Turn, took, over, cut, bad}
use Rattle.run.specs.declared.step.Took.{Took}
use Rattle.run.specs.declared.step.Untaken.{Untaken}
use Rattle.run.specs.declared.step.Untaken.TheVariants as untaken
use Rattle.answer.specs.declared.Ending.{Ending}
use Rattle.frame.specs.declared.refusal.Refusal.{Refusal}

abbrev pub read_in_bytes : ReadingAnswer × List ℕ → ((Result ⊤ Refusal) × List (Option Ending)) × List ℕ
read_in_bytes x = ((x.0.answer, x.0.ends), x.1)

-- the engine, whose record is the bytes of a lent buffer
abbrev pub in_bytes : Receives (List ℕ)
in_bytes =
    record {
      frame = λ (b : List ℕ) (id : ℕ) (d m : List ℕ). frame_in b id d m;
      reading = λ (b : List ℕ) (t : ℕ) (m : List ℕ). read_in_bytes (reading_in b t m);
    }

-- a step's answer with the receiver's bytes, the store and the lines after it
abbrev pub Left : Type 0
Left = Result Took Untaken × (List ℕ × (List ℕ × List ℕ))

-- a record whose lines end at p, and after which the next is at `next`
abbrev pub took_to : ℕ → ℕ → Took
took_to next p = record { next = next; put = p }

abbrev pub stepped : Option ℕ → ℕ → Result Took Untaken
stepped (Some p) next = Ok (took_to next p)
stepped None next = Err untaken.Short

-- With room for all lines of the record they are put at p. Else none is written, and the record is taken all the same
abbrev pub step_of : Turn (List ℕ) → List ℕ → List ℕ → List ℕ → ℕ → Left
step_of (took x next) b m o p = (
  cond (fits o p x.lines) (Ok (took_to next (p + length x.lines))) (Err untaken.Short),
  (x.receiver, (x.store, cond (fits o p x.lines) (put o p x.lines) o)),
)
step_of over b m o p = (Err untaken.End, (b, (m, o)))
step_of cut b m o p = (Err untaken.More, (b, (m, o)))
step_of bad b m o p = (Err untaken.Bad, (b, (m, o)))
