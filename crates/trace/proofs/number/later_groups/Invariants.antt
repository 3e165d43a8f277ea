use Rattle.std.proofs.Common.{◌≡◌, ◌<◌, ◌-◌, drop}
use Rattle.trace.specs.Numbers.{onto, later_groups}
use Rattle.trace.proofs.Groups.{scale_at}
use Rattle.trace.proofs.number.later_groups.Given as goal

abbrev pub invariant-loop-scale : goal.invariant-loop-scale
invariant-loop-scale l =
    record {
      low : l.value < scale_at l.scale-index;
      same : onto l.value (scale_at l.scale-index) (later_groups (3 - l.scale-index) l.at (drop l.at l.s)) ≡ onto l.low 128 (later_groups 3 l.start (drop l.start l.s));
    }
