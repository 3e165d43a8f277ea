use Rattle.std.proofs.Common.{arith, rules}
use Rattle.reply_bytes.specs.Replies.{transfer_end_bytes}
use Rattle.reply_bytes.specs.Laws.{length_transfer_end}
use Rattle.answer_bytes.specs.Turns.{ends_turn, ends_all}
use Rattle.reply_bytes.proofs.ends.write_ends.Goals as goal

pub loop-i-preserved : goal.loop-i-preserved
loop-i-preserved c =
    let at = c.loop-i in
    ends_turn transfer_end_bytes length_transfer_end c.args.ends 4 at.out _ at.i _ (search rules) (omega arith) (search rules) c.put_end.ensures at.invariant

pub returns : goal.returns
returns c =
    let at = c.loop-i in
    ends_all transfer_end_bytes c.args.ends 4 at.out _ at.i (search rules) (omega arith) (omega arith) at.invariant
