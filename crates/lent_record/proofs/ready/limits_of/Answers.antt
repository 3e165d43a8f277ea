use Rattle.lent_record.proofs.ready.limits_of.Goals as goal

pub returns : goal.returns
returns c = rw (c.word_at.ensures, c.word_at-2.ensures)
