-- Where a number that was read ends.
use Prim.Native.Nat.{ℕ, zero, suc, ◌+◌, ◌-◌, ◌≤◌}
use native.Mathlib.Omega.{arith}
use mathlib.Core.Path.{◌≡◌, sym, subst, ◌∙◌}
use mathlib.Core.List.{List, [], ◌∷◌}
use lib.Dec.{ltb}
use lib.ListN.{length, drop, length-drop}
use native.Mathlib.Decide.{dec_le}
use Rattle.std.specs.Prelude.{Result, Ok, Err}
use Rattle.trace.specs.declared.Fault.{Fault}
use Rattle.trace.specs.declared.Fault.TheVariants.{TooLarge}
use Rattle.trace.specs.Numbers.{onto, last_group, later_groups, number_on, number_at}
use Rattle.trace.specs.Streams.{Near, near_test, near_onto, near_last}

-- a number ends inside the list that it was read from
within_later : (end more at : ℕ) (l : List ℕ) → at + length l ≤ end → Near end (later_groups more at l)
within_later end more at [] h = tt
within_later end zero at (b ∷ bs) h =
    near_test end (ltb 15 b) (Err TooLarge) (last_group at b) tt (near_last end at b (omega arith))
within_later end (suc more) at (b ∷ bs) h =
    near_test end (ltb b 128) (last_group at b) (onto (b - 128) 128 (later_groups more (at + 1) bs))
    (near_last end at b (omega arith))
    (near_onto end (b - 128) 128 (later_groups more (at + 1) bs) (within_later end more (at + 1) bs (omega arith)))

within_on : (end at : ℕ) (l : List ℕ) → at + length l ≤ end → Near end (number_on at l)
within_on end at [] h = tt
within_on end at (b ∷ bs) h =
    near_test end (ltb b 128) (Ok (b, at + 1)) (onto (b - 128) 128 (later_groups 3 (at + 1) bs)) (omega arith)
    (near_onto end (b - 128) 128 (later_groups 3 (at + 1) bs) (within_later end 3 (at + 1) bs (omega arith)))

within_none : (end at : ℕ) (l : List ℕ) → length l ≡ 0 → Near end (number_on at l)
within_none end at [] h = tt
within_none end at (b ∷ bs) h = absurd (omega arith)

pub within_at : (d : List ℕ) (at : ℕ) → Near (length d) (number_at d at)
unfolding number_at
within_at d at =
    elim (dec_le at (length d)) [
      | yes h ↦ within_on (length d) at (drop at d) (omega (arith, length-drop at d))
      | no h ↦ within_none (length d) at (drop at d) (omega (arith, length-drop at d))
    ]

pub ends_inside : {r : Result (ℕ × ℕ) Fault} {n next : ℕ} (d : List ℕ) (at : ℕ) → r ≡ number_at d at → r ≡ Ok (n, next) → next ≤ length d
ends_inside d at e q = subst (Near (length d)) (sym e ∙ q) (within_at d at)
