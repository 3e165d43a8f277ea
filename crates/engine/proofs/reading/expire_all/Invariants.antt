use Prim.Native.Nat.{◌-◌, ◌≤◌}
use mathlib.Core.Path.{◌≡◌}
use mathlib.Core.List.{◌++◌}
use lib.ListN.{length, take, drop}
use Rattle.laws.specs.Maps.{filled}
use Rattle.receiver.specs.Calls.{end_of}
use Rattle.record_bytes.specs.Places.{record_length, head_length, slot_place}
use Rattle.record_bytes.specs.Layout.{pieces_of, slots_at}
use Rattle.record_bytes.specs.Keeping.{merged}
use Rattle.engine.proofs.Elapses.{slots_after}
use Rattle.engine.proofs.reading.expire_all.Given as goal

abbrev pub invariant-loop-i : goal.invariant-loop-i
invariant-loop-i l = (length l.buffer ≡ record_length)
    × (length l.initial.ends ≡ 8)
    × (l.i ≤ 8)
    × (l.ends ≡ filled (end_of l.limits l.t) (slots_at l.initial.buffer) l.initial.ends l.i)
    × (take (slot_place l.i) l.buffer ++ merged (drop l.i (pieces_of l.initial.buffer)) (drop l.i (slots_after l.initial.buffer l.limits l.t)) ≡ take head_length l.initial.buffer ++ merged (pieces_of l.initial.buffer) (slots_after l.initial.buffer l.limits l.t))
    × (drop (slot_place l.i) l.buffer ≡ drop (slot_place l.i) l.initial.buffer)

abbrev pub decreases-loop-i : goal.decreases-loop-i
decreases-loop-i l = 8 - l.i
