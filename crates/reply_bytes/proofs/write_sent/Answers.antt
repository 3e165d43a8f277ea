use Rattle.reply_bytes.proofs.Written.{written}
use Rattle.reply_bytes.specs.Replies.{reply_fields, laid_bytes, laid_length}
use Rattle.reply_bytes.specs.Laws.{length_laid}
use mathlib.Core.Path.{ap, ◌∙◌}
use borrow.Author.Rules.{rules}
use Rattle.reply_bytes.proofs.write_sent.Goals as goal

pub returns : goal.returns
returns c =
    let a = c.args in
    let s = a.s in
    written c.reply_fields.result (reply_fields s.reply (laid_length s.frame)) c.going_of_sent.result (laid_bytes s.frame) (length_laid s.frame)
    (c.reply_fields.ensures ∙ ap (reply_fields s.reply) c.laid_length.ensures) c.going_of_sent.ensures a.out.now c.put_fields.new.out c.put_outgoing.new.out
    (search rules) c.put_fields.ensures c.put_outgoing.ensures
