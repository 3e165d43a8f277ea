-- The calls over lent bytes: what each answers, and every byte that it writes.
use Rattle.std.specs.Prelude.{ℕ, cond, not, List, eqb, length, None, Option, Some}
use Rattle.progress.specs.declared.wait.IdleLimits.{IdleLimits}
use Rattle.frame.specs.declared.Address.{Address}
use Rattle.receiver.specs.Bounds.{opened, opened_with}
use Rattle.answer.specs.Answers.{answer_number, acceptance_number}
use Rattle.record_bytes.specs.Places.{record_length}
use Rattle.record_bytes.specs.Layout.{record_bytes}
use Rattle.engine.specs.InBytes.{InBytes, frame_in}
use Rattle.answer_bytes.specs.Places.{answer_length}
use Rattle.answer_bytes.specs.Answers.{answer_bytes}

-- the version of the boundary, in include/dwaebinam.h too
abbrev pub boundary_version : ℕ
boundary_version = 5

abbrev pub least_or : Option ℕ → ℕ
least_or (Some n) = n
least_or None = 255

-- the number of an opening's answer
abbrev pub opening_number : Address → IdleLimits → ℕ → ℕ
opening_number own limits reading = acceptance_number (opened own limits reading).answer

-- The record of a refused opening is out of bounds, so every call refuses it. A buffer of another length stays as it was.
unfoldable pub opened_in : ℕ → IdleLimits → ℕ → List ℕ → ℕ × List ℕ
opened_in own limits reading d =
    cond (not (eqb (length d) record_length)) (23, d)
    (opening_number (record { 0 = own }) limits reading, record_bytes (opened_with (record { 0 = own }) limits reading))

-- what a call in place answers, as number and bytes
abbrev pub told : InBytes → ℕ × (List ℕ × (List ℕ × List ℕ))
told x = (answer_number x.0, (x.1.0, (x.1.1, answer_bytes x.0)))

-- 23 for room for an answer of another length: all stays as it was
unfoldable pub framed_in : List ℕ → ℕ → List ℕ → List ℕ → List ℕ → ℕ × (List ℕ × (List ℕ × List ℕ))
framed_in b id d m a = cond (not (eqb (length a) answer_length)) (23, (b, (m, a))) (told (frame_in b id d m))
