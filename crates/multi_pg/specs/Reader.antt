-- What a reader gives out, from its first place to its end: the groups of the frame, in order, each with its bytes.
use Prim.Native.Nat.{ℕ, zero, suc, ◌+◌, ◌-◌, ◌≤◌, ◌<◌}
use Rattle.std.proofs.Common.{arith, sym, ap, subst, ◌∙◌, length-drop, length-take-le}
use Rattle.std.specs.Prelude.{◌≡◌, List, [], ◌∷◌, length, get_or, drop, Option, Some, None, Result, Ok, Err}
use Rattle.std.proofs.Math.Path.{refl}
use Rattle.frame.specs.declared.refusal.Refusal.{Refusal}
use Rattle.multi_pg.specs.declared.Group.{Group}
use Rattle.multi_pg.specs.declared.Cursor.{Cursor}
use Rattle.multi_pg.specs.Groups.{group_at, trailer_start, end_of, step_at, GroupsRead, good, bad, after, on_step, read_from, groups_read, judgement_of, groups_in, groups_of, start_at, start_of, on_next, next_at, content_of}
use Rattle.multi_pg.specs.Places.{Here, here_end, here_step, step_here, step_room, read_on, read_all, read_group, read_end, past_none}

-- ---- what is given out

-- the groups given out one after another from a place, until the reader says that it is at its end
pub data Yields (d : List ℕ) : ℕ → List Group → Type 0 where
  done : {at : ℕ} → next_at d at ≡ None → Yields d at []
  more : {at : ℕ} {g : Group} {to : Cursor} {gs : List Group} → next_at d at ≡ Some (g, to) → Yields d to.at gs → Yields d at (g ∷ gs)

-- whole groups back to back from a place on, up to the frame's end or its padding
pub data Chain (d : List ℕ) : ℕ → List Group → Type 0 where
  last : {at : ℕ} → step_at d at ≡ Ok None → Chain d at []
  link : {at n : ℕ} {gs : List Group} → Here d at n → Chain d (end_of (group_at d at n)) gs → Chain d at (group_at d at n ∷ gs)

-- a group is the one whose header comes before its data, and it lies in the frame with its trailer
pub record Stands (d : List ℕ) (g : Group) : Type 0 where
  pub header : 4 ≤ g.start
  pub inside : end_of g ≤ length d
  pub own : g ≡ group_at d (g.start - 4) g.trailer

-- ---- a frame read as good is a chain, and the other way round

after_good : (g : Group) (r : GroupsRead) (gs : List Group) → after g r ≡ good gs → (hs : List Group) × (r ≡ good hs) × (g ∷ hs ≡ gs)
after_good g (good hs) gs e = (hs, refl, cc)
after_good g (bad r) gs e = absurd (let z : ◌≡◌ {A = ℕ} 0 1 = cc in omega arith)

module _ (d : List ℕ) where
  -- a place of a chain, if what follows it is one
  chain_step : (at : ℕ) (gs : List Group) (s : Result (Option Group) Refusal) (f : Group → GroupsRead) → step_at d at ≡ s → on_step s f ≡ good gs
      → ((g : Group) (hs : List Group) → step_at d at ≡ Ok (Some g) → f g ≡ good hs → Chain d (end_of g) hs) → Chain d at gs
  chain_step at gs (Ok (Some g)) f q e rest =
      let (hs, r, p) = after_good g (f g) gs e in
      let m = step_here d at g q in
      let c : Chain d (end_of g) hs = rest g hs q r in
      subst (λ (l : List Group). Chain d at l) (ap (λ (x : Group). x ∷ hs) (sym m.same) ∙ p)
      (link m.here (subst (λ (x : Group). Chain d (end_of x) hs) m.same c))
  chain_step at gs (Ok None) f q e rest = subst (λ (l : List Group). Chain d at l) (cc) (last q)
  chain_step at gs (Err r) f q e rest = absurd (let z : ◌≡◌ {A = ℕ} 0 1 = cc in omega arith)

  chain_by : (n at : ℕ) (gs : List Group) → read_from n d at ≡ good gs → length d - at < n → Chain d at gs
  unfolding read_from
  chain_by zero at gs e h = absurd (omega arith)
  chain_by (suc n) at gs e h =
      chain_step at gs (step_at d at) (λ g. read_from n d (end_of g)) refl e
      (λ g hs q r. chain_by n (end_of g) hs r (omega (arith, step_room d at g q)))

  pub good_chain : (gs : List Group) → groups_read d ≡ good gs → Chain d 0 gs
  unfolding groups_read
  good_chain gs e = chain_by (suc (length d)) 0 gs e (omega arith)

  chain_reads : {at : ℕ} {gs : List Group} → Chain d at gs → read_on d at ≡ good gs
  chain_reads {at} (last q) = read_end d at q
  chain_reads {at} (link {n = n} p c) = read_group d at (group_at d at n) (here_step d at n p) ∙ ap (after (group_at d at n)) (chain_reads c)

  pub chain_good : (gs : List Group) → Chain d 0 gs → groups_read d ≡ good gs
  chain_good gs c = read_all d ∙ chain_reads c

  -- ---- the reader

  chain_yields : {at : ℕ} {gs : List Group} → Chain d at gs → Yields d at gs
  chain_yields (last q) = done (ap on_next q)
  chain_yields {at} (link {n = n} p c) = more (ap on_next (here_step d at n p)) (chain_yields c)

  yields_by : (r : GroupsRead) → groups_read d ≡ r → Yields d (start_at (length d) (judgement_of r)) (groups_in r)
  yields_by (good gs) e = chain_yields (good_chain gs e)
  yields_by (bad r) e = done (past_none d (length d) (omega arith))

  -- A reader over any bytes gives out the groups that they hold, all and in order; of a refused frame none.
  pub yields_all : Yields d (start_of d) (groups_of d)
  yields_all = yields_by (groups_read d) refl

  -- And nothing else: from one place there is one list.
  pub yields_one : {at : ℕ} {gs hs : List Group} → Yields d at gs → Yields d at hs → gs ≡ hs
  yields_one (done e) (done f) = refl
  yields_one (done e) (more f y) = absurd (let z : ◌≡◌ {A = ℕ} 0 1 = cc in omega arith)
  yields_one (more e x) (done f) = absurd (let z : ◌≡◌ {A = ℕ} 0 1 = cc in omega arith)
  yields_one (more {g = g} {to = to} {gs = gs} e x) (more {g = g'} {to = to'} {gs = hs} f y) =
      let given : ◌≡◌ {A = Group × Cursor} (g, to) (g', to') = cc in
      let same : g ≡ g' = ap (λ (x : Group × Cursor). x.0) given in
      let there : to' ≡ to = ap (λ (x : Group × Cursor). x.1) (sym given) in
      let tail : gs ≡ hs = yields_one x (subst (λ (c : Cursor). Yields d c.at hs) there y) in
      cc

  -- ---- where the groups are

  chain_stands : {at : ℕ} {gs : List Group} (o : Group) (i : ℕ) → Chain d at gs → i < length gs → Stands d (get_or gs i o)
  chain_stands o i (last q) h = absurd (omega arith)
  chain_stands {at} o zero (link {n = n} p c) h =
      record {
        header = omega arith;
        inside = omega (arith, p.whole, here_end d at n p);
        own = ap (λ (x : ℕ). group_at d x n) (let e : at ≡ at + 4 - 4 = omega arith in e);
      }
  chain_stands o (suc i) (link p c) h = chain_stands o i c (omega arith)

  chain_row : {at : ℕ} {gs : List Group} (o : Group) (i : ℕ) → Chain d at gs → suc i < length gs → (get_or gs (suc i) o).start ≡ end_of (get_or gs i o) + 4
  chain_row o i (last q) h = absurd (omega arith)
  chain_row o i (link p (last q)) h = absurd (omega arith)
  chain_row o zero (link p (link q c)) h = refl
  chain_row o (suc i) (link p (link q c)) h = chain_row o i (link q c) (omega arith)

  chain_first : {at : ℕ} {gs : List Group} (o : Group) → Chain d at gs → 0 < length gs → (get_or gs 0 o).start ≡ at + 4
  chain_first o (last q) h = absurd (omega arith)
  chain_first o (link p c) h = refl

  -- what holds of no groups and of every chain holds of the groups given out
  groups_by : (P : List Group → Type 0) → P [] → ((gs : List Group) → Chain d 0 gs → P gs) → P (groups_of d)
  groups_by P none some = go (groups_read d) refl
    where
      go : (r : GroupsRead) → groups_read d ≡ r → P (groups_in r)
      go (good gs) e = some gs (good_chain gs e)
      go (bad r) e = none

  -- o is what a look past the list's end would find
  module _ (o : Group) (i : ℕ) where
    pub each_stands : i < length (groups_of d) → Stands d (get_or (groups_of d) i o)
    each_stands =
        groups_by (λ gs. i < length gs → Stands d (get_or gs i o)) (λ h. absurd (omega arith)) (λ gs c h. chain_stands o i c h)

    -- back to back: between the end of a group and the next one's data there is just the header
    pub each_next : suc i < length (groups_of d) → (get_or (groups_of d) (suc i) o).start ≡ end_of (get_or (groups_of d) i o) + 4
    each_next =
        groups_by (λ gs. suc i < length gs → (get_or gs (suc i) o).start ≡ end_of (get_or gs i o) + 4) (λ h. absurd (omega arith)) (λ gs c h. chain_row o i c h)

  pub first_start : (o : Group) → 0 < length (groups_of d) → (get_or (groups_of d) 0 o).start ≡ 4
  first_start o = groups_by (λ gs. 0 < length gs → (get_or gs 0 o).start ≡ 4) (λ h. absurd (omega arith)) (λ gs c h. chain_first o c h)

  -- as many bytes of data and of trailer as the group says, none cut
  pub stands_bytes : (g : Group) → Stands d g → (length (content_of d g).bytes ≡ g.len) × (length (content_of d g).trailer ≡ g.trailer)
  stands_bytes g s =
      let w : end_of g ≤ length d = s.inside in (
        length-take-le g.len (drop g.start d) (simp length-drop (omega arith)),
        length-take-le g.trailer (drop (trailer_start g) d) (simp length-drop (omega arith)),
      )
