use mathlib.Core.Path.{◌≡◌}
use mathlib.Core.List.{◌++◌}
use lib.ListN.{take, drop}
use Rattle.answer_bytes.specs.Places.{answer_place}
use Rattle.reply_bytes.specs.Replies.{transfer_ends_bytes}
use Rattle.reply_bytes.proofs.ends.write_ends.Given as goal

abbrev pub invariant-loop-i : goal.invariant-loop-i
invariant-loop-i l = take (answer_place l.i) l.out ++ transfer_ends_bytes (drop l.i l.fn.ends) ≡ transfer_ends_bytes l.fn.ends
