use Rattle.record_bytes.proofs.slot.session_at.Goals as goal

pub returns : goal.returns
returns c = cc
