use Prim.Native.Nat.{◌-◌, ◌≤◌}
use mathlib.Core.Path.{◌≡◌}
use lib.ListN.{length, drop}
use Rattle.text.specs.Put.{Going}
use Rattle.report.specs.Lines.{ends_lines}
use Rattle.report.proofs.reading.put_ends.Given as goal

abbrev pub invariant-loop-i : goal.invariant-loop-i
invariant-loop-i l = (l.i ≤ 8) × (length l.ends ≡ 8) × Going l.initial.out l.at (ends_lines l.ends) l.out l.next (ends_lines (drop l.i l.ends))

abbrev pub decreases-loop-i : goal.decreases-loop-i
decreases-loop-i l = 8 - l.i
