use Prim.Native.Nat.{◌-◌}
use mathlib.Core.Path.{refl}
use native.Mathlib.Omega.{arith}
use Rattle.engine.proofs.Elapses.{turn_good, turn_end, turn_long, turn_bytes, turn_same, turns_done}
use borrow.Author.Rules.{rules}
use Rattle.engine.proofs.reading.expire_all.Goals as goal

pub loop-i-init : goal.loop-i-init
loop-i-init c = (search rules, refl, search rules, refl, refl, refl)

pub expire-requires : goal.expire-requires
expire-requires c = let a = c.args in
    let l = c.loop-i in (
      search rules,
      turn_good a.buffer.now a.limits a.t l.buffer l.i l.invariant.0 (omega arith) l.invariant.5
          c.requires,
    )

pub loop-i-preserved : goal.loop-i-preserved
loop-i-preserved c = let a = c.args in
    let l = c.loop-i in (
      turn_long a.buffer.now a.limits a.t l.buffer l.i l.invariant.0 (omega arith) l.invariant.5 _ _ c.expire.ensures,
      search rules,
      search rules,
      turn_end a.buffer.now a.limits a.t l.buffer l.i l.invariant.0 (omega arith) l.invariant.5 _ _
          c.expire.ensures _ _ l.invariant.1 l.invariant.3,
      turn_bytes a.buffer.now a.limits a.t l.buffer l.i l.invariant.0
          (omega arith) l.invariant.5 _ _ c.expire.ensures l.invariant.4,
      turn_same a.buffer.now a.limits a.t l.buffer l.i
          l.invariant.0 (omega arith) l.invariant.5 _ _ c.expire.ensures,
    )

pub returns : goal.returns
returns c = let a = c.args in
    let l = c.loop-i in
    turns_done a.buffer.now a.limits a.t l.buffer l.i l.ends l.invariant.0 (omega arith) l.invariant.3 l.invariant.4
