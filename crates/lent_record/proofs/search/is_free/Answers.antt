use Rattle.lent_record.specs.Held.{freed}
use borrow.Author.Rules.{rules}
use Rattle.lent_record.proofs.search.is_free.Goals as goal

pub returns : goal.returns
returns c = let a = c.args in freed a.bytes.now a.i (search rules)
