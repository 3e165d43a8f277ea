use Rattle.std.proofs.Common.{rules, ◌+◌}
use Rattle.answer_bytes.proofs.Sent.{one_byte}
use Rattle.answer_bytes.specs.Puts.{sent_put}
use Rattle.answer_bytes.proofs.put_frame.Goals as goal

pub returns : goal.returns
returns c =
    let a = c.args in
    sent_put a.sends a.id a.bytes a.out.now _ c.put_word.new.out c.copy.new.out a.at
    (search rules) (search (rules, c)) (one_byte a.out.now (a.at + 19) a.sends (search rules)) c.put_word.ensures c.copy.ensures
