use Prim.Native.Nat.{◌-◌, ◌≤◌}
use mathlib.Core.Path.{◌≡◌}
use mathlib.Core.List.{◌++◌}
use lib.ListN.{length, take, drop}
use Rattle.record_bytes.specs.Places.{record_length, slot_place}
use Rattle.record_bytes.specs.Layout.{slots_bytes, written}
use Rattle.record_bytes.proofs.layout.write_slots.Given as goal

abbrev pub invariant-loop-i : goal.invariant-loop-i
invariant-loop-i l = (length l.slots ≡ 8)
    × (length l.initial.out ≡ record_length)
    × (length l.out ≡ record_length)
    × (l.i ≤ 8)
    × (take (slot_place l.i) l.out ++ slots_bytes (drop l.i l.slots) ≡ written l.slots l.initial.out)

abbrev pub decreases-loop-i : goal.decreases-loop-i
decreases-loop-i l = 8 - l.i
