use Rattle.reply_bytes.proofs.Written.{written}
use Rattle.reply_bytes.specs.Replies.{abort_of, wire_bytes, reply_fields}
use Rattle.reply_bytes.specs.Laws.{length_abort}
use borrow.Author.Rules.{rules}
use Rattle.reply_bytes.proofs.write_reply.Goals as goal

pub returns : goal.returns
returns c =
    let a = c.args in
    written c.reply_fields.result (reply_fields a.r 0) c.going_of_reply.result (wire_bytes (abort_of a.r)) (length_abort a.r)
    c.reply_fields.ensures c.going_of_reply.ensures a.out.now c.put_fields.new.out c.put_outgoing.new.out
    (search rules) c.put_fields.ensures c.put_outgoing.ensures
