-- How long the bytes of an answer are.
use Rattle.std.specs.Prelude.{ℕ, ◌+◌, ◌≡◌, refl, List, ◌++◌, length, None, Option, Some}
use Rattle.std.proofs.Common.{ap, ◌∙◌, length-append}
use Rattle.transport.specs.declared.response.Response.{Response}
use Rattle.transport.specs.declared.response.Response.TheVariants.{Cts, Eoma, Abort}
use Rattle.transport.specs.Responses.{response_bytes, response_id}
use Rattle.answer.specs.declared.Answer.{Answer}
use Rattle.answer.specs.Answers.{answer_sends}
use Rattle.answer_bytes.specs.declared.Fields.{Fields}
use Rattle.answer_bytes.specs.Places.{answer_length, sent_place, sent_length, data_length}
use Rattle.answer_bytes.specs.Answers.{fields_of, fields_bytes, sent_head, sent_bytes, answer_bytes}

pub length_response : (f : Response) → length (response_bytes f) ≡ data_length
unfolding response_bytes
length_response (Cts f) = refl
length_response (Eoma f) = refl
length_response (Abort f) = refl

pub length_sent : (s : Option Response) → length (sent_bytes s) ≡ sent_length
length_sent None = refl
length_sent (Some f) =
    length-append (sent_head (response_id f)) (response_bytes f) ∙ ap (λ (n : ℕ). length (sent_head (response_id f)) + n) (length_response f)

pub length_fields : (f : Fields) → length (fields_bytes f) ≡ sent_place
unfolding fields_bytes
length_fields f = refl

pub length_whole : (F : Fields) (S : List ℕ) → length S ≡ sent_length → length (fields_bytes F ++ S) ≡ answer_length
length_whole F S size =
    length-append (fields_bytes F) S ∙ ap (λ (n : ℕ). n + length S) (length_fields F) ∙ ap (λ (n : ℕ). sent_place + n) size

pub length_answer : (a : Answer) → length (answer_bytes a) ≡ answer_length
length_answer a =
    let s : Option Response = (answer_sends a) in
    length_whole (fields_of a) (sent_bytes s) (length_sent s)
