-- An answer put into its buffer, part by part.
use Rattle.std.specs.Prelude.{ℕ, ◌+◌, ◌≤◌, ◌≡◌, List, [], ◌∷◌, ◌++◌}
use Rattle.std.proofs.Common.{arith, sym, ◌∙◌}
use Rattle.std.proofs.Math.Path.{refl, ap}
use Rattle.std.proofs.Math.ListN.{length}
use Rattle.std.proofs.Math.Seq.{paste}
use Rattle.laws.specs.Pastes.{paste_end}
use Rattle.words.specs.Words.{low4}
use Rattle.words.specs.Laws.{next_field}
use Rattle.answer_bytes.specs.declared.Fields.{Fields}
use Rattle.answer_bytes.specs.Places.{answer_length, sent_place, identifier_place, data_place, sent_length, data_length}
use Rattle.answer_bytes.specs.Answers.{fields_bytes}
use Rattle.answer_bytes.specs.Sizes.{length_whole}

-- what is sent: whether there is a frame, its identifier, its data
pub sent_put : (sends id : ℕ) (b d o₁ o₂ o₃ : List ℕ) (at : ℕ) → at + answer_length ≤ length d → length b ≡ data_length
    → o₁ ≡ paste d (at + sent_place) (sends ∷ []) 1
    → o₂ ≡ paste o₁ (at + identifier_place) (low4 id []) 4
    → o₃ ≡ paste o₂ (at + data_place) b data_length
    → o₃ ≡ paste d (at + sent_place) (sends ∷ low4 id b) sent_length
sent_put sends id b d o₁ o₂ o₃ at room lb e₁ e₂ e₃ =
    let head : List ℕ = sends ∷ low4 id [] in
    let n : length head + length b ≡ sent_length = omega arith in
    next_field d (at + sent_place) head (at + data_place) b
    (next_field d (at + sent_place) (sends ∷ []) (at + identifier_place) (low4 id []) e₁ e₂ (omega arith) (omega arith))
    (e₃ ∙ ap (paste o₂ (at + data_place) b) (sym lb)) (omega arith) (omega arith)
    ∙ ap (paste d (at + sent_place) (head ++ b)) n

module _ (F : Fields) (S : List ℕ) (size : length S ≡ sent_length) where
  -- the fields, and what is sent after them
  pub fields_put : (d o₁ o₂ : List ℕ) (at : ℕ) → at + answer_length ≤ length d
      → o₁ ≡ paste d at (fields_bytes F) sent_place
      → o₂ ≡ paste o₁ (at + sent_place) S sent_length
      → o₂ ≡ paste d at (fields_bytes F ++ S) answer_length
  unfolding fields_bytes
  fields_put d o₁ o₂ at room e₁ e₂ =
      let n : sent_place + length S ≡ answer_length = omega (arith, size) in
      next_field d at (fields_bytes F) (at + sent_place) S e₁ (e₂ ∙ ap (paste o₁ (at + sent_place) S) (sym size)) refl (omega (arith, size))
      ∙ ap (paste d at (fields_bytes F ++ S)) n

  pub whole_put : (d o₁ o₂ : List ℕ) → length d ≡ answer_length
      → o₁ ≡ paste d 0 (fields_bytes F) sent_place
      → o₂ ≡ paste o₁ sent_place S sent_length
      → o₂ ≡ fields_bytes F ++ S
  whole_put d o₁ o₂ long e₁ e₂ =
      fields_put d o₁ o₂ 0 (omega arith) e₁ e₂ ∙ paste_end d 0 (fields_bytes F ++ S) answer_length long (length_whole F S size)
