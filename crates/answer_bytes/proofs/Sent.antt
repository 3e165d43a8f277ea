-- An answer put into its buffer.
use Rattle.std.proofs.Common.{ℕ, ◌+◌, ◌<◌, ◌≡◌, ◌∙◌, List, [], ◌∷◌, ◌++◌, length, ap, ap₂, arith}
use Rattle.std.specs.Prelude.{Option}
use Rattle.std.proofs.Math.ListN.{set}
use Rattle.std.proofs.Math.Seq.{paste}
use Rattle.std.proofs.lemmas.List.Edits.{paste_none, paste_more}
use Rattle.answer.specs.declared.Answer.{Answer}
use Rattle.answer.specs.Answers.{answer_sends}
use Rattle.answer_bytes.specs.Places.{answer_length, sent_place, sent_length}
use Rattle.answer_bytes.specs.declared.Fields.{Fields}
use Rattle.answer_bytes.specs.Sizes.{length_sent}
use Rattle.answer_bytes.specs.Puts.{whole_put}
use Rattle.answer_bytes.specs.Answers.{fields_of, fields_bytes, sent_bytes, answer_bytes}
use Rattle.transport.specs.declared.response.Response.{Response}

-- one byte written is a copy of a list of one
pub one_byte : (d : List ℕ) (at v : ℕ) → at < length d → set d at v ≡ paste d at (v ∷ []) 1
one_byte d at v h =
    let w : at ≡ at + 0 = omega arith in
    ap (λ (k : ℕ). set d k v) w
    ∙ ap (λ (l : List ℕ). set l (at + 0) v) (paste_none d at (v ∷ []))
    ∙ paste_more d at (v ∷ []) 0 0 (omega arith) (omega arith)

pub answer_put : (a : Answer) (F : Fields) (S : Option Response) (d o₁ o₂ : List ℕ) → length d ≡ answer_length → F ≡ fields_of a
    → o₁ ≡ paste d 0 (fields_bytes F) sent_place
    → S ≡ (answer_sends a)
    → o₂ ≡ paste o₁ sent_place (sent_bytes S) sent_length
    → o₂ ≡ answer_bytes a
answer_put a F S d o₁ o₂ long eF e₁ eS e₂ =
    whole_put F (sent_bytes S) (length_sent S) d o₁ o₂ long e₁ e₂ ∙ ap₂ (λ (f : Fields) (s : Option Response). fields_bytes f ++ sent_bytes s) eF eS
