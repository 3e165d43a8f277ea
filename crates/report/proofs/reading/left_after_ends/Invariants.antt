use Prim.Native.Nat.{◌-◌, ◌≤◌}
use mathlib.Core.Path.{◌≡◌}
use lib.ListN.{length, drop}
use Rattle.text.specs.Line.{left_by}
use Rattle.report.specs.Lines.{ends_lines}
use Rattle.report.proofs.reading.left_after_ends.Given as goal

abbrev pub invariant-loop-i : goal.invariant-loop-i
invariant-loop-i l = (l.i ≤ 8) × (length l.ends ≡ 8) × (left_by l.left (length (ends_lines (drop l.i l.ends))) ≡ left_by l.room (length (ends_lines l.ends)))

abbrev pub decreases-loop-i : goal.decreases-loop-i
decreases-loop-i l = 8 - l.i
