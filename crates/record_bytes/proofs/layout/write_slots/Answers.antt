use Prim.Native.Nat.{◌-◌}
use mathlib.Core.Path.{refl}
use native.Mathlib.Omega.{arith}
use Rattle.record_bytes.proofs.Slots.{slots_turn, slots_long, slots_all}
use borrow.Author.Rules.{rules}
use Rattle.record_bytes.proofs.layout.write_slots.Goals as goal

pub loop-i-init : goal.loop-i-init
loop-i-init c = (search rules, search rules, search rules, search rules, refl)

pub loop-i-preserved : goal.loop-i-preserved
loop-i-preserved c =
    let at = c.loop-i in
    let a = c.args in
    let e = c.put_slot.ensures in
    let o = c.put_slot.new.out in (
      search rules,
      search rules,
      slots_long a.slots a.out.now at.out o at.i _ at.invariant.0 at.invariant.2 (search rules) e,
      search rules,
      slots_turn a.slots a.out.now at.out o at.i _ at.invariant.0 at.invariant.2 (search rules) e at.invariant.4,
    )

pub returns : goal.returns
returns c =
    let at = c.loop-i in
    slots_all c.args.slots at.out _ at.i at.invariant.0 at.invariant.2 (omega arith) at.invariant.4
