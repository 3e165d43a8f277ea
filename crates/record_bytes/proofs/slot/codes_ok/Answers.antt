use Rattle.record_bytes.proofs.slot.codes_ok.Goals as goal

pub returns : goal.returns
returns c = rw (c.is_code-2.ensures, c.is_code.ensures)
