use native.Mathlib.Omega.{arith}
use Rattle.engine.proofs.Elapses.{open_stays, open_ends}
use Rattle.engine.proofs.reading.expire_open.Goals as goal

pub returns-in-None : goal.returns-in-None
returns-in-None c = let a = c.args in let p = c.requires in
    open_stays a.buffer.now a.i a.limits a.t p.0 (omega arith) p.1 a.s p.2 c.at_reading.result c.at_reading.ensures
    c.in-None.is

pub returns-in-Some : goal.returns-in-Some
returns-in-Some c = let a = c.args in let p = c.requires in
    open_ends a.buffer.now a.i a.limits a.t p.0 (omega arith) p.1 a.s p.2 c.at_reading.result
    c.at_reading.ensures _
    c.in-Some.is
    c.put_slot.new.out
    c.put_slot.ensures
