-- Where the data of a segment lies: 01, "Segment".
use Rattle.std.specs.Prelude.{ℕ, ◌+◌, ◌-◌, ◌*◌, ◌≤◌, List, length, None, Option, Some}
use Rattle.session.specs.declared.Session.{Session}
use Rattle.session.specs.declared.Change.{Change}
use Rattle.session.specs.declared.Change.TheVariants.{Stays, Opens, Moves, Ends}
use Rattle.session.specs.Segments.{due_of}
use Rattle.progress.specs.declared.Progress.{Progress}

-- the data due of segment n is in the frame, and its place in the slot
pub record Placed (s : Session) (n : ℕ) (d : List ℕ) : Type 0 where
  pub low : 1 ≤ n
  pub inside : 60 * (n - 1) + due_of s.announced.total.0 n ≤ 4096
  pub enough : 4 + due_of s.announced.total.0 n ≤ length d

-- of a segment that moves its session on
abbrev pub PlacedBy : Change Session Progress → Option Session → ℕ → List ℕ → Type 0
PlacedBy (Moves p) (Some s) n d = Placed s n d
PlacedBy (Moves p) None n d = Unit {0}
PlacedBy Stays x n d = Unit {0}
PlacedBy (Opens s) x n d = Unit {0}
PlacedBy Ends x n d = Unit {0}
