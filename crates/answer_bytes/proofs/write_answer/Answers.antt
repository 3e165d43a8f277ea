use Rattle.std.proofs.Common.{rules}
use Rattle.answer_bytes.proofs.Sent.{answer_put}
use Rattle.answer_bytes.proofs.write_answer.Goals as goal

pub returns : goal.returns
returns c = search (rules, answer_put)
