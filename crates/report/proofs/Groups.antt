-- A turn of the loop that prints the groups that a reader still gives.
use Rattle.std.proofs.Common.{ℕ, List, [], ◌∷◌, ◌++◌, ◌≡◌, ◌+◌, ◌≤◌, length, subst}
use Rattle.frame.specs.declared.judge.Route.{Route}
use Rattle.multi_pg.specs.declared.Group.{Group}
use Rattle.text.specs.Put.{PutAt, Going, going_room, going_on, going_end}
use Rattle.report.specs.Lines.{group_line, group_lines}

module _ (o : List ℕ) (first : ℕ) (route : Route) (all left : List Group) (out : List ℕ) (at : ℕ) (going : Going o first (group_lines route all) out at (group_lines route left)) where
  pub printed : left ≡ [] → PutAt o first (group_lines route all) at out
  unfolding group_lines
  printed e =
      going_end o first (group_lines route all) out at (subst (λ (gs : List Group). Going o first (group_lines route all) out at (group_lines route gs)) e going)

  module _ (room : first + length (group_lines route all) ≤ length o) (g : Group) (rest : List Group) (e : left ≡ g ∷ rest) where
    ahead : Going o first (group_lines route all) out at (group_line route g ++ group_lines route rest)
    unfolding group_lines
    ahead = subst (λ (gs : List Group). Going o first (group_lines route all) out at (group_lines route gs)) e going

    pub printing_room : at + length (group_line route g) ≤ length out
    printing_room = going_room o first (group_lines route all) room out at (group_line route g) (group_lines route rest) ahead

    pub printing_on : (next : ℕ) (new : List ℕ) → PutAt out at (group_line route g) next new → Going o first (group_lines route all) new next (group_lines route rest)
    printing_on = going_on o first (group_lines route all) room out at (group_line route g) (group_lines route rest) ahead
