use Rattle.std.specs.Prelude.{◌-◌, ◌≤◌}
use Rattle.replay.proofs.feed.fed.Given as goal

abbrev pub invariant-loop-turns : goal.invariant-loop-turns
invariant-loop-turns g l = l.turns ≤ 18446744073709551615

abbrev pub decreases-loop-turns : goal.decreases-loop-turns
decreases-loop-turns g l = 18446744073709551615 - l.turns
