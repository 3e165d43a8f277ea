use Rattle.std.proofs.Common.{arith, rules}
use Rattle.answer_bytes.specs.Ends.{end_bytes}
use Rattle.answer_bytes.specs.EndLaws.{length_end}
use Rattle.answer_bytes.specs.Turns.{ends_turn, ends_all}
use Rattle.answer_bytes.proofs.ends.write_ends.Goals as goal

pub loop-i-preserved : goal.loop-i-preserved
loop-i-preserved c =
    let at = c.loop-i in
    ends_turn end_bytes length_end c.args.ends 8 at.out _ at.i _ (search rules) (omega arith) (search rules) c.put_end.ensures at.invariant

pub returns : goal.returns
returns c =
    let at = c.loop-i in
    ends_all end_bytes c.args.ends 8 at.out _ at.i (search rules) (omega arith) (omega arith) at.invariant
