-- What is where in the answers of a reading.
use Prim.Native.Nat.{ℕ, zero, suc, ◌+◌, ◌<◌}
use Rattle.std.proofs.Common.{arith, ◌∙◌, drop_at}
use Rattle.std.specs.Prelude.{◌≡◌, refl, get_or, drop, replicate, None, Option, Some}
use Rattle.std.proofs.Math.Path.{ap}
use mathlib.Core.List.{List, [], ◌∷◌, ◌++◌}
use Rattle.std.proofs.Math.ListN.{length, take}
use Rattle.std.proofs.Math.Seq.{take_at, drop-append-add}
use Rattle.answer.specs.declared.Answer.TheVariants.{Ended}
use Rattle.answer.specs.Answers.{end_sends}
use Rattle.receiver.specs.Calls.{stays}
use Rattle.answer_bytes.specs.Places.{answer_length, answers_length, answer_place, sent_place}
use Rattle.answer_bytes.specs.Answers.{fields_of, fields_bytes, sent_bytes}
use Rattle.answer_bytes.specs.Sizes.{length_answer, length_fields}
use Rattle.answer_bytes.specs.Ends.{end_bytes, ends_by, ends_bytes}
use Rattle.answer.specs.declared.Ending.{Ending}

pub length_end : (e : Option Ending) → length (end_bytes e) ≡ answer_length
length_end None = refl
length_end (Some e) = length_answer (Ended e)

-- the frame that a session's end sends, after the fields
pub end_sent : (e : Option Ending) → drop sent_place (end_bytes e) ≡ sent_bytes (end_sends e)
end_sent None = refl
end_sent (Some e) =
    drop_at (fields_bytes (fields_of (Ended e))) (sent_bytes (end_sends (Some e))) sent_place (length_fields (fields_of (Ended e)))

-- where answer i is
module _ (f : Option Ending → List ℕ) (size : (e : Option Ending) → length (f e) ≡ answer_length) where
  pub place_by : (es : List (Option Ending)) (i : ℕ) (d : Option Ending) → i < length es → take answer_length (drop (answer_place i) (ends_by f es)) ≡ f (get_or es i d)
  unfolding ends_by
  place_by [] i d h = absurd (omega arith)
  place_by (e ∷ es) zero d h = take_at (f e) (ends_by f es) answer_length (size e)
  place_by (e ∷ es) (suc i) d h =
      let b : List ℕ = f e in
      let w : answer_place (suc i) ≡ length b + answer_place i = omega (arith, size e) in
      ap (λ (k : ℕ). take answer_length (drop k (b ++ ends_by f es))) w
      ∙ ap (take answer_length) (drop-append-add b (ends_by f es) (answer_place i))
      ∙ place_by es i d (omega arith)

pub end_place : (es : List (Option Ending)) (i : ℕ) (d : Option Ending) → i < length es → take answer_length (drop (answer_place i) (ends_bytes es)) ≡ end_bytes (get_or es i d)
end_place = place_by end_bytes length_end

-- zeros where no session ends
pub none_ends : ends_bytes (replicate 8 stays) ≡ replicate answers_length 0
unfolding ends_by
none_ends = refl
