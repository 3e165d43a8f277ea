use Rattle.record_bytes.proofs.slot.progress_at.Goals as goal

pub returns : goal.returns
returns c = cc
