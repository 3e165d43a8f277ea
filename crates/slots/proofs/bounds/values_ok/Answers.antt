use Rattle.slots.proofs.bounds.values_ok.Goals as goal

pub returns : goal.returns
returns c = rw c.opening_ok.ensures
