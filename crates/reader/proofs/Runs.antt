-- A reader that holds its frame: what it gives out, one group after another, is the groups of the frame's reading.
-- 01, "Groups in one frame".
use Rattle.std.specs.Prelude.{ℕ, zero, suc, ◌-◌, ◌<◌, ◌≡◌, refl, List, [], length, ◌∷◌, Option, Some, None}
use Rattle.std.proofs.Common.{arith, sym, ap, subst}
use Rattle.std.specs.Borrow.{Bor}
use Rattle.multi_pg.specs.declared.Group.{Group}
use Rattle.multi_pg.specs.declared.Cursor.{Cursor}
use Rattle.multi_pg.specs.Groups.{groups_of, next_at}
use Rattle.multi_pg.specs.Places.{next_room}
use Rattle.multi_pg.specs.Reader.{Yields, done, more, yields_all, yields_one}
use Rattle.reader.specs.declared.Reader.{Reader}
use Rattle.reader.specs.Runs.{behind, over_of, next_of, Gives, none, first, on_given, given_from, groups_left}

abbrev reader_at : Bor (List ℕ) → ℕ → Reader
reader_at f at = record { frame = f; at = at }

yields_gives : (f : Bor (List ℕ)) {at : ℕ} {gs : List Group} → Yields f.now at gs → Gives (reader_at f at) gs
yields_gives f (done e) = none e
yields_gives f {at} (more {gs = gs} e y) =
    first e (subst (λ (n : ℕ). Gives (reader_at f n) gs) (sym (ap (behind at) e)) (yields_gives f y))

gives_yields : {r : Reader} {gs : List Group} → Gives r gs → Yields r.frame.now r.at gs
gives_yields (none e) = done e
gives_yields {r} (first {gs = gs} e g) =
    more e (subst (λ (n : ℕ). Yields r.frame.now n gs) (ap (behind r.at) e) (gives_yields g))

-- Over any frame: all groups of its reading, in order; of a refused frame none.
pub gives_all : (f : Bor (List ℕ)) → Gives (over_of f) (groups_of f.now)
gives_all f = yields_gives f (yields_all f.now)

-- And nothing else: a reader gives out one list.
pub gives_one : {r : Reader} {gs hs : List Group} → Gives r gs → Gives r hs → gs ≡ hs
gives_one {r} x y = yields_one r.frame.now (gives_yields x) (gives_yields y)

-- ---- the list of the groups that are left

-- at a place, if what follows it does
gives_at : (f : Bor (List ℕ)) (at : ℕ) (rest : ℕ → List Group) (x : Option (Group × Cursor)) → next_at f.now at ≡ x
    → ((g : Group) (to : Cursor) → next_at f.now at ≡ Some (g, to) → Gives (reader_at f to.at) (rest to.at)) → Gives (reader_at f at) (on_given x rest)
gives_at f at rest None e y = none e
gives_at f at rest (Some (g, to)) e y =
    first e (subst (λ (k : ℕ). Gives (reader_at f k) (rest to.at)) (sym (ap (behind at) e)) (y g to e))

gives_by : (f : Bor (List ℕ)) (n at : ℕ) → length f.now - at < n → Gives (reader_at f at) (given_from n f.now at)
unfolding given_from
gives_by f zero at h = absurd (omega arith)
gives_by f (suc n) at h =
    gives_at f at (given_from n f.now) (next_at f.now at) refl
    (λ g to e. gives_by f n to.at (omega (arith, next_room f.now at g to e)))

gives_left : (r : Reader) → Gives r (groups_left r)
unfolding groups_left
gives_left r = gives_by r.frame (suc (length r.frame.now - r.at)) r.at (omega arith)

-- of a reader made over a frame they are the frame's
pub left_over : (f : Bor (List ℕ)) → groups_left (over_of f) ≡ groups_of f.now
left_over f = gives_one (gives_left (over_of f)) (gives_all f)

module _ (r : Reader) where
  -- none at its end
  pub left_none : next_of r ≡ None → groups_left r ≡ []
  left_none e = gives_one (gives_left r) (none e)

  -- else the next one, and those from its end on
  pub left_first : (g : Group) (to : Cursor) → next_of r ≡ Some (g, to) → groups_left r ≡ g ∷ groups_left (record { frame = r.frame; at = to.at })
  left_first g to e =
      let there : Reader = reader_at r.frame to.at in
      gives_one (gives_left r)
      (first e (subst (λ (k : ℕ). Gives (reader_at r.frame k) (groups_left there)) (sym (ap (behind r.at) e)) (gives_left there)))
