use Prim.Native.Nat.{◌-◌, ◌≤◌}
use mathlib.Core.Path.{◌≡◌}
use mathlib.Core.Bool.{false}
use lib.ListN.{length}
use Rattle.slots.specs.Bounds.{any_holds}
use Rattle.record_bytes.specs.Places.{record_length}
use Rattle.lent_record.specs.Judged.{slots_before}
use Rattle.lent_record.proofs.search.any_before.Given as goal

abbrev pub invariant-loop-j : goal.invariant-loop-j
invariant-loop-j l = (length l.bytes ≡ record_length) × (l.j ≤ l.i) × (l.i ≤ 8) × (false ≡ any_holds l.k (slots_before l.bytes l.j))

abbrev pub decreases-loop-j : goal.decreases-loop-j
decreases-loop-j l = 8 - l.j
