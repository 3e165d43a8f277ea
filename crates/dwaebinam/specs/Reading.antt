-- A reading over lent bytes: 01, "Clock".
use Rattle.std.specs.Prelude.{ℕ, ◌<◌, ◌≡◌, refl, false, cond, not, List, [], ◌∷◌, map, eqb, length, get_or, take, drop, replicate, Err, Option, Some}
use Rattle.std.proofs.Common.{arith, sym, ap, ◌∙◌, eq-eqb}
use Rattle.std.proofs.lemmas.List.{length-map}
use Rattle.std.proofs.Math.ListN.{get_or-map}
use Rattle.laws.specs.Choice.{else}
use Rattle.frame.specs.declared.refusal.Refusal.TheVariants.{Silence, OutOfBounds}
use Rattle.session.specs.declared.Session.{Session}
use Rattle.session.specs.Decisions.{ending_of}
use Rattle.slots.specs.Slots.{free_slot}
use Rattle.receiver.specs.declared.Receiver.{Receiver}
use Rattle.answer.specs.Answers.{acceptance_number}
use Rattle.receiver.specs.Calls.{end_of, stays, reading_kept}
use Rattle.lent_record.specs.Ready.{ready_in}
use Rattle.engine.specs.declared.reading.ReadingAnswer.{ReadingAnswer}
use Rattle.engine.specs.Elapsing.{reading_in}
use Rattle.answer_bytes.specs.Places.{answer_length, answers_length, answer_place}
use Rattle.answer_bytes.specs.Answers.{fields_bytes}
use Rattle.answer_bytes.specs.Ends.{end_bytes, ends_bytes}
use Rattle.answer_bytes.specs.EndLaws.{end_place, none_ends}
use Rattle.answer.specs.declared.Ending.{Ending}

-- what a reading in place answers, as number and bytes: an answer for each slot
abbrev pub read_by : ReadingAnswer × List ℕ → ℕ × (List ℕ × List ℕ)
read_by x = (acceptance_number x.0.answer, (x.1, ends_bytes x.0.ends))

-- 23 for room of another length: all stays as it was
unfoldable pub read_in : List ℕ → ℕ → List ℕ → List ℕ → ℕ × (List ℕ × List ℕ)
read_in b t m a = cond (not (eqb (length a) answers_length)) (23, (b, a)) (read_by (reading_in b t m))

-- ---- a refused reading, and an ending

-- 23 where the buffer is no record in bounds or the store has another length: the buffer keeps every byte, and no slot has an answer
pub reading_refused : (b a m : List ℕ) (t : ℕ) → length a ≡ answers_length → ready_in b (length m) ≡ false
    → read_in b t m a ≡ (23, (b, replicate answers_length 0))
unfolding read_in reading_in
reading_refused b a m t room e =
    let none : ReadingAnswer × List ℕ = (record { answer = Err OutOfBounds; ends = replicate 8 stays }, b) in
    let x : none ≡ reading_in b t m = else (ready_in b (length m)) _ _ _ e refl in
    sym
    (else (not (eqb (length a) answers_length)) _ _ _ (ap not (eq-eqb _ _ room))
    (sym (ap read_by (sym x) ∙ ap (λ (l : List ℕ). (23, (b, l))) none_ends)))

-- the answer of a session that ended by silence: number 22, and the code for an end
pub silence_says : (s : Session) → take 2 (end_bytes (Some (ending_of s Silence))) ≡ 22 ∷ 7 ∷ []
unfolding fields_bytes
silence_says s = refl

-- the answer of slot i, at its place: by whether its session was silent for the limit of its wait
pub reading_answer : (r : Receiver) (t i : ℕ) → i < length r.slots
    → take answer_length (drop (answer_place i) (ends_bytes (reading_kept r t).ends)) ≡ end_bytes (end_of r.limits t (get_or r.slots i free_slot))
reading_answer r t i h =
    let f : Option Session → Option Ending = end_of r.limits t in
    let n : length (map f r.slots) ≡ length r.slots = length-map r.slots f in
    end_place (map f r.slots) i (f free_slot) (omega arith)
    ∙ ap (λ (e : Option Ending). end_bytes e) (get_or-map f r.slots i free_slot)
