use Rattle.std.proofs.Common.{rules}
use Rattle.sender.proofs.Given.{ask_given}
use Rattle.sender.proofs.ask.next_frame.Goals as goal

pub returns : goal.returns
returns c =
    let a = c.args in
    ask_given a.buffer.now c.in-Some.record.now a.da a.session a.message.now a.out.now _ c.key_in.result (search rules) (search rules) (search rules) c.key_in.ensures c.ask_ready.ensures
