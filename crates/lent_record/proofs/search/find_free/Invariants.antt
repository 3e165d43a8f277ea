use Prim.Native.Nat.{◌-◌, ◌≤◌}
use mathlib.Core.Path.{◌≡◌}
use lib.ListN.{length, drop}
use Rattle.slots.specs.Slots.{is_free, first_at, first_free}
use Rattle.record_bytes.specs.Places.{record_length}
use Rattle.record_bytes.specs.Layout.{slots_at}
use Rattle.lent_record.proofs.search.find_free.Given as goal

abbrev pub invariant-loop-i : goal.invariant-loop-i
invariant-loop-i l = (length l.bytes ≡ record_length) × (l.i ≤ 8) × (first_at is_free l.i (drop l.i (slots_at l.bytes)) ≡ first_free (slots_at l.bytes))

abbrev pub decreases-loop-i : goal.decreases-loop-i
decreases-loop-i l = 8 - l.i
