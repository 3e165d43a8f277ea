-- A message that is handed over, copied out of the store: 01, the last paragraph of "Life of a session".
use Rattle.std.specs.Prelude.{ℕ, ◌*◌, ◌%◌, ◌≤◌, ◌<◌, ◌≡◌, refl, cond, eqb, ltb, length, get_or, drop, None, Option, Some}
use native.Mathlib.Omega.{arith}
use Rattle.std.proofs.Common.{sym, ◌∙◌, length-drop, length-take-le, eq-eqb, le-ltb}
use Rattle.std.proofs.Math.Path.{ap}
use Rattle.std.proofs.Math.Bool.{not}
use mathlib.Core.List.{List, [], ◌++◌}
use Rattle.laws.specs.Choice.{else}
use Rattle.answer.specs.declared.place.Place.{Place}
use Rattle.answer.specs.declared.place.Place.TheVariants.{Message}
use Rattle.answer.specs.Places.{message_cut, place_bytes}
use Rattle.answer.specs.declared.Message as handed
use Rattle.answer.specs.declared.Answer.TheVariants.{HandedOver}
use Rattle.answer.specs.Answers.{message_bytes}
use Rattle.answer.specs.Lies.{message_lies}
use Rattle.words.specs.Words.{low32}
use Rattle.words.specs.Laws.{low32_read_back}
use Rattle.answer_bytes.specs.Places.{answer_length, code_place, extra_place, total_place}
use Rattle.answer_bytes.specs.Answers.{fields_bytes, answer_bytes}
use Rattle.answer_bytes.specs.Sizes.{length_answer}

-- An answer of code 5 says the slot and Total Bytes of its message; any other answer, or bytes that are none, no place.
unfoldable pub place_in : List ℕ → Option Place
place_in a =
    cond (not (eqb (length a) answer_length)) None
    (cond (not (eqb (get_or a code_place 0) 5)) None
    (Some (Message (get_or a extra_place 0) (record { 0 = low32 a total_place }))))

-- no byte where the message does not lie in the store
abbrev pub message_in : List ℕ → List ℕ → List ℕ
message_in a store = place_bytes (place_in a) [] store

-- bytes put over the front of out where they fit: how many
abbrev pub front_of : List ℕ → List ℕ → ℕ × List ℕ
front_of s out = cond (ltb (length out) (length s)) (0, out) (length s, s ++ drop (length s) out)

abbrev pub copied_in : List ℕ → List ℕ → List ℕ → ℕ × List ℕ
copied_in a store out = front_of (message_in a store) out

-- ---- the answer that hands a message over gives that message

module _ (m : handed.Message) (store : List ℕ) (slot : m.slot < 8) (total : m.total.0 ≤ 4096) (long : length store ≡ 32768) where
  pub message_in_lem : message_in (answer_bytes (HandedOver m)) store ≡ message_bytes m store
  unfolding place_in fields_bytes
  message_in_lem =
      let s : m.slot % 256 ≡ m.slot = omega arith in
      ap (λ (p : Option Place). place_bytes p [] store) (sym (else (not (eqb (length (answer_bytes (HandedOver m))) answer_length)) _ _ _ (ap not (eq-eqb _ _ (length_answer (HandedOver m)))) refl))
      ∙ ap (λ (k : ℕ). message_cut store k (low32 (answer_bytes (HandedOver m)) total_place)) s
      ∙ ap (message_cut store m.slot) (low32_read_back m.total.0 (omega arith))
      ∙ message_lies m store store slot total long

  size : length (message_bytes m store) ≡ m.total.0
  size = length-take-le m.total.0 (drop (4096 * m.slot) store) (simp length-drop (omega arith))

  -- its length, and the output with its bytes in front
  pub message_copied : (out : List ℕ) → m.total.0 ≤ length out → copied_in (answer_bytes (HandedOver m)) store out ≡ (m.total.0, message_bytes m store ++ drop m.total.0 out)
  message_copied out room =
      let b : List ℕ = message_bytes m store in
      ap (λ (l : List ℕ). front_of l out) message_in_lem
      ∙ sym (else (ltb (length out) (length b)) _ _ _ (le-ltb (length out) (length b) (omega (arith, size))) refl)
      ∙ ap (λ (n : ℕ). (n, b ++ drop n out)) size
