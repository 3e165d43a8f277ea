use Rattle.std.specs.Prelude.{Option}
use Rattle.std.proofs.Common.{rules, ap₂, ◌∙◌, ◌++◌}
use Rattle.std.proofs.Math.Seq.{paste}
use Rattle.answer_bytes.specs.declared.Fields.{Fields}
use Rattle.answer_bytes.specs.Places.{answer_length}
use Rattle.answer_bytes.specs.Answers.{fields_bytes, sent_bytes}
use Rattle.answer_bytes.specs.Sizes.{length_sent}
use Rattle.answer_bytes.specs.Puts.{fields_put}
use Rattle.answer_bytes.proofs.ends.put_end.Goals as goal
use Rattle.transport.specs.declared.response.Response.{Response}

pub returns-in-Some : goal.returns-in-Some
returns-in-Some c =
    let a = c.args in
    let d = a.out.now in
    let s = c.response_of_end.result in
    rw c.in-Some.is
    (fields_put c.session_ended.result (sent_bytes s) (length_sent s) d c.put_fields.new.out c.put_sending.new.out a.at
    (search rules) c.put_fields.ensures c.put_sending.ensures
    ∙ ap₂ (λ (f : Fields) (s : Option Response). paste d a.at (fields_bytes f ++ sent_bytes s) answer_length) c.session_ended.ensures c.response_of_end.ensures)
