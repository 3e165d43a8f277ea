-- A reader that holds its frame: what it gives out, one group after another, is the groups of the frame's reading.
-- 01, "Groups in one frame".
use Rattle.std.specs.Prelude.{ℕ, zero, suc, ◌-◌, ◌≡◌, List, [], ◌∷◌, length, Option, Some, None}
use Rattle.std.specs.Borrow.{Bor}
use Rattle.multi_pg.specs.declared.Group.{Group}
use Rattle.multi_pg.specs.declared.Cursor.{Cursor}
use Rattle.multi_pg.specs.Groups.{start_of, next_at}
use Rattle.reader.specs.declared.Reader.{Reader}

-- the place after the group that is given out; at the end there is none, and the place stays
abbrev pub behind : ℕ → Option (Group × Cursor) → ℕ
behind at (Some (g, to)) = to.at
behind at None = at

abbrev pub rest_at : List ℕ → ℕ → ℕ
rest_at d at = behind at (next_at d at)

-- ---- a reader made over a frame, its next group, and the reader of the rest

abbrev pub over_of : Bor (List ℕ) → Reader
over_of f = record { frame = f; at = start_of f.now }

abbrev pub next_of : Reader → Option (Group × Cursor)
next_of r = next_at r.frame.now r.at

abbrev pub rest_of : Reader → Reader
rest_of r = record { frame = r.frame; at = rest_at r.frame.now r.at }

-- ---- what is given out

-- the next group, then those of the rest, until the reader says that it is at its end
pub data Gives : Reader → List Group → Type 0 where
  none : {r : Reader} → next_of r ≡ None → Gives r []
  first : {r : Reader} {g : Group} {to : Cursor} {gs : List Group} → next_of r ≡ Some (g, to) → Gives (rest_of r) gs → Gives r (g ∷ gs)

-- the same as a list: a group that is given, and those from its end on
abbrev pub on_given : Option (Group × Cursor) → (ℕ → List Group) → List Group
on_given None rest = []
on_given (Some (g, to)) rest = g ∷ rest to.at

-- at most n groups from a place on
unfoldable pub given_from : ℕ → List ℕ → ℕ → List Group
given_from zero d at = []
given_from (suc n) d at = on_given (next_at d at) (given_from n d)

-- a group takes 4 bytes at least, so no more are left than bytes
unfoldable pub groups_left : Reader → List Group
groups_left r = given_from (suc (length r.frame.now - r.at)) r.frame.now r.at
