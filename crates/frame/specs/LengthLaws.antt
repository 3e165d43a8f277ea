-- The first of the lengths that holds a need is the least one that does, because the list rises.
use Rattle.std.specs.Prelude.{ℕ, ◌≤◌, ◌≡◌, true, List}
use Rattle.frame.specs.Lengths.{among}

-- n holds the need, is one of the list, and no smaller one of the list holds it
pub record LeastOf (ns : List ℕ) (need n : ℕ) : Type 0 where
  pub holds : need ≤ n
  pub member : among n ns ≡ true
  pub least : (m : ℕ) → among m ns ≡ true → need ≤ m → n ≤ m
