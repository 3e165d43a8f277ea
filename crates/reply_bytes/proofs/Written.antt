-- An answer's fields, and what goes out after them, put into a buffer.
use Prim.Native.Nat.{ℕ, ◌+◌, ◌≤◌}
use mathlib.Core.Path.{◌≡◌, ap, ◌∙◌}
use mathlib.Core.List.{List, ◌++◌}
use lib.ListN.{length}
use lib.Seq.{paste}
use Rattle.answer_bytes.specs.declared.Fields.{Fields}
use Rattle.answer_bytes.specs.Places.{answer_length, sent_place, sent_length}
use Rattle.std.specs.Prelude.{Option}
use Rattle.answer_bytes.specs.declared.Outgoing.{Outgoing}
use Rattle.answer_bytes.specs.Answers.{fields_bytes, outgoing_bytes}
use Rattle.answer_bytes.specs.Puts.{fields_put, whole_put}

module _ (F G : Fields) (g : Option Outgoing) (S : List ℕ) (size : length S ≡ sent_length) (eF : F ≡ G) (eS : outgoing_bytes g ≡ S) (d o₁ o₂ : List ℕ) where
  pub placed : (at : ℕ) → at + answer_length ≤ length d
      → o₁ ≡ paste d at (fields_bytes F) sent_place
      → o₂ ≡ paste o₁ (at + sent_place) (outgoing_bytes g) sent_length
      → o₂ ≡ paste d at (fields_bytes G ++ S) answer_length
  placed at room e₁ e₂ =
      fields_put G S size d o₁ o₂ at room
      (e₁ ∙ ap (λ (f : Fields). paste d at (fields_bytes f) sent_place) eF)
      (e₂ ∙ ap (λ (l : List ℕ). paste o₁ (at + sent_place) l sent_length) eS)

  pub written : length d ≡ answer_length
      → o₁ ≡ paste d 0 (fields_bytes F) sent_place
      → o₂ ≡ paste o₁ sent_place (outgoing_bytes g) sent_length
      → o₂ ≡ fields_bytes G ++ S
  written long e₁ e₂ =
      whole_put G S size d o₁ o₂ long
      (e₁ ∙ ap (λ (f : Fields). paste d 0 (fields_bytes f) sent_place) eF)
      (e₂ ∙ ap (λ (l : List ℕ). paste o₁ sent_place l sent_length) eS)
