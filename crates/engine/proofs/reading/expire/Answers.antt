use native.Mathlib.Omega.{arith}
use Rattle.std.specs.Prelude.{Option}
use mathlib.Core.Path.{sym, ap, ◌∙◌}
use Rattle.engine.proofs.Elapses.{free_stays}
use Rattle.engine.proofs.reading.expire.Goals as goal
use Rattle.session.specs.declared.Session.{Session}

pub expire_open-requires : goal.expire_open-requires
expire_open-requires c = let p = c.requires in
    (p.0, p.1, sym (c.slot_in.ensures) ∙ c.in-Some.is)

pub returns-in-None : goal.returns-in-None
returns-in-None c = let a = c.args in
    let p = c.requires in
    free_stays a.buffer.now a.i a.limits a.t p.0 (omega arith) p.1 (sym
    (c.slot_in.ensures) ∙ c.in-None.is)
