use Prim.Native.Nat.{ℕ, ◌+◌, ◌-◌, ◌≤◌}
use mathlib.Core.Path.{◌≡◌}
use mathlib.Core.List.{List, ◌++◌}
use lib.ListN.{length, drop}
use Rattle.text.specs.Decimal.{decimal, digits_of}
use Rattle.text.specs.Put.{put}
use Rattle.text.proofs.decimal.U64Decimal.put.Given as goal

-- In a turn with i next: the digits after i are in place, and those before it are those of what is left.
pub record Writing (d : List ℕ) (at n end : ℕ) (out : List ℕ) (left i : ℕ) : Type 0 where
  pub low : at ≤ i
  pub high : i ≤ end
  pub ends : end ≡ at + length (decimal n)
  pub room : end ≤ length d
  pub done : out ≡ put d i (drop (i - at) (decimal n))
  pub todo : decimal n ≡ digits_of (i - at) left ++ drop (i - at) (decimal n)

abbrev pub invariant-loop-i : goal.invariant-loop-i
invariant-loop-i l = Writing l.initial.out l.at l.self l.end l.out l.left l.i
