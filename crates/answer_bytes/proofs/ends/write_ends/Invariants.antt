use mathlib.Core.Path.{◌≡◌}
use mathlib.Core.List.{◌++◌}
use lib.ListN.{take, drop}
use Rattle.answer_bytes.specs.Places.{answer_place}
use Rattle.answer_bytes.specs.Ends.{ends_bytes}
use Rattle.answer_bytes.proofs.ends.write_ends.Given as goal

abbrev pub invariant-loop-i : goal.invariant-loop-i
invariant-loop-i l = take (answer_place l.i) l.out ++ ends_bytes (drop l.i l.fn.ends) ≡ ends_bytes l.fn.ends
