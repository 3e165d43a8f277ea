-- Moved on after what a run took: its counts go on, and the next record is looked for where it stopped.
use Rattle.std.specs.Prelude.{ℕ, ◌+◌, ◌-◌, ◌<◌, ◌≤◌, ◌^◌, ◌≡◌, List, length, take, drop, Option, Some, None, Result, Ok, Err}
use Rattle.run.specs.declared.piece.Went.{Went}
use Rattle.replay.specs.declared.feed.Feed.{Feed}
use Rattle.std.specs.declared.io.Error.{Error}
use Rattle.std.specs.declared.ops.ControlFlow.{ControlFlow}
use Rattle.std.specs.declared.ops.ControlFlow.TheVariants.{Continue, Break}

pub record Moves (f : Feed) (w : Went) (r : Feed) : Type 0 where
  pub records : r.records ≡ w.records
  pub offset : f.offset + w.at < 2 ^ 64 → r.offset ≡ f.offset + w.at
  pub at : f.at + w.at ≤ f.filled → r.at ≡ f.at + w.at
  pub filled : r.filled ≡ f.filled
  pub put : r.put ≡ w.put

-- the run is over
abbrev pub IsBreak : ControlFlow ℕ Feed → Type 0
IsBreak (Continue f) = ⊥
IsBreak (Break put) = Unit {0}

-- a window that is filled holds what was kept, at least
abbrev pub Behind : ℕ → Result (Option ℕ) Error → Type 0
Behind kept (Ok (Some n)) = kept ≤ n
Behind kept (Ok None) = Unit {0}
Behind kept (Err error) = Unit {0}

-- more of the input after what was left of the window w: that is at the front of the window after, w'
pub record Refills (f : Feed) (w : List ℕ) (r : Feed) (w' : List ℕ) : Type 0 where
  pub at : r.at ≡ 0
  pub kept : f.at ≤ f.filled → f.filled ≤ length w → (f.filled - f.at ≤ r.filled) × (take (f.filled - f.at) w' ≡ take (f.filled - f.at) (drop f.at w))
