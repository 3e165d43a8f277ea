use Rattle.std.proofs.Common.{rules}
use Rattle.transfer.specs.Sends.{ending_wire}
use Rattle.answer_bytes.specs.Answers.{ended_fields}
use Rattle.reply_bytes.specs.Replies.{wire_bytes}
use Rattle.reply_bytes.specs.Laws.{length_ending}
use Rattle.reply_bytes.proofs.Written.{placed}
use Rattle.reply_bytes.proofs.ends.put_end.Goals as goal

pub returns-in-Some : goal.returns-in-Some
returns-in-Some c =
    let e = c.in-Some.e in
    rw c.in-Some.is
    (placed c.ended_fields.result (ended_fields 17 0 e) c.going_of_end.result (wire_bytes (ending_wire e)) (length_ending e)
    c.ended_fields.ensures c.going_of_end.ensures c.args.out.now c.put_fields.new.out c.put_outgoing.new.out
    c.args.at (search rules) c.put_fields.ensures c.put_outgoing.ensures)
