-- Where a segment's bytes lie in its slot.
use Prim.Native.Nat.{ℕ, ◌+◌, ◌*◌, ◌-◌, ◌/◌, ◌≤◌, ◌<◌}
use mathlib.Core.Path.{◌≡◌}
use mathlib.Core.List.{List}
use native.Mathlib.Omega.{arith}
use lib.ListN.{take, drop}
use Rattle.session.specs.Segments.{due_of}

-- the slot's bytes of segment n
abbrev pub window : ℕ → List ℕ → ℕ → List ℕ
window total p n = take (due_of total n) (drop (60 * (n - 1)) p)

-- a segment lies in the message, and before the next one
pub segment_inside : (total segments n : ℕ) → segments ≡ (total + 59) / 60 → 1 ≤ n → n ≤ segments → 60 * (n - 1) + due_of total n ≤ total
unfolding due_of
segment_inside total segments n s l u = omega arith

pub segment_apart : (total i n : ℕ) → 1 ≤ i → i < n → 60 * (i - 1) + due_of total i ≤ 60 * (n - 1)
unfolding due_of
segment_apart total i n l u = omega arith
