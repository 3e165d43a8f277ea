-- Where a group is, and how a frame is read from place to place: laws of the definitions in Groups.
use Rattle.std.specs.Prelude.{ℕ, zero, suc, ◌+◌, ◌-◌, ◌≤◌, ◌<◌, ◌≡◌, refl, Bool, true, false, cond, not, List, [], leb, ltb, length, Option, Some, None, Result, Ok, Err}
use Rattle.std.proofs.Common.{arith, sym, ap, ◌∙◌, le-leb, le-ltb, leb-false, ltb-false}
use Rattle.std.proofs.lemmas.Bool.{false≢true, lt-leb, not-false}
use Rattle.laws.specs.Choice.{then, else}
use Rattle.frame.specs.Pgn.{pgn_ok}
use Rattle.frame.specs.declared.refusal.Refusal.{Refusal}
use Rattle.multi_pg.specs.declared.Group.{Group}
use Rattle.multi_pg.specs.declared.Cursor.{Cursor}
use Rattle.multi_pg.specs.Services.{service_of}
use Rattle.multi_pg.specs.Groups.{tos, tf, pgn_at, payload, group_at, end_of, headed_at, on_service, step_at, GroupsRead, good, bad, after, on_step, read_from, groups_read, judgement_of, next_at, on_next}

-- ---- a place

-- a whole group with a trailer of n bytes is at a place
pub record Here (d : List ℕ) (at n : ℕ) : Type 0 where
  pub service : service_of (tos d at) (tf d at) ≡ Ok (Some n)
  pub form : pgn_ok (pgn_at d at) ≡ true
  pub counted : n ≤ payload d at
  pub whole : at + 4 + payload d at ≤ length d

-- its end, by its length byte
pub here_end : (d : List ℕ) (at n : ℕ) → Here d at n → end_of (group_at d at n) ≡ at + 4 + payload d at
here_end d at n p = let c : n ≤ payload d at = p.counted in omega arith

pub here_step : (d : List ℕ) (at n : ℕ) → Here d at n → step_at d at ≡ Ok (Some (group_at d at n))
here_step d at n p =
    let c : n ≤ payload d at = p.counted in
    let w : at + 4 + payload d at ≤ length d = p.whole in
    sym
    (else (leb (length d) at) _ _ _ (lt-leb (length d) at (omega arith))
    (else (ltb (length d - at) 4) _ _ _ (le-ltb (length d - at) 4 (omega arith))
    (else (not (pgn_ok (pgn_at d at))) _ _ _ (ap not p.form)
    (else (ltb (payload d at) n) _ _ _ (le-ltb (payload d at) n c)
    (else (ltb (length d - at - 4) (payload d at)) _ _ _ (le-ltb (length d - at - 4) (payload d at) (omega arith)) refl)))
    ∙ ap (λ (s : Result (Option ℕ) Refusal). on_service s (ltb (length d - at) 4) (headed_at d at)) (sym p.service)))

abbrev is_at : Result (Option Group) Refusal → Bool
is_at (Ok (Some g)) = true
is_at (Ok None) = false
is_at (Err r) = false

-- a test that leads to no group was not met
passed : (t : Bool) (a b : Result (Option Group) Refusal) (g : Group) → is_at a ≡ false → cond t a b ≡ Ok (Some g) → (t ≡ false) × (b ≡ Ok (Some g))
passed true a b g n e = absurd (false≢true (sym n ∙ ap is_at e))
passed false a b g n e = (refl, e)

-- what a step tells that has a group
pub record Met (d : List ℕ) (at : ℕ) (g : Group) : Type 0 where
  pub n : ℕ
  pub here : Here d at n
  pub same : g ≡ group_at d at n

pub step_here : (d : List ℕ) (at : ℕ) (g : Group) → step_at d at ≡ Ok (Some g) → Met d at g
step_here d at g e₀ =
    let (h₁, e₁) = passed (leb (length d) at) _ _ g refl e₀ in
    by (service_of (tos d at) (tf d at)) refl (leb-false (length d) at h₁) e₁
  where
    by : (s : Result (Option ℕ) Refusal) → service_of (tos d at) (tf d at) ≡ s → at < length d → on_service s (ltb (length d - at) 4) (headed_at d at) ≡ Ok (Some g) → Met d at g
    by (Ok None) q l e = absurd (false≢true (ap is_at e))
    by (Err r) q l e = absurd (false≢true (ap is_at e))
    by (Ok (Some n)) q l e =
        let (h₂, e₂) = passed (ltb (length d - at) 4) _ _ g refl e in
        let (h₃, e₃) = passed (not (pgn_ok (pgn_at d at))) _ _ g refl e₂ in
        let (h₄, e₄) = passed (ltb (payload d at) n) _ _ g refl e₃ in
        let (h₅, e₅) = passed (ltb (length d - at - 4) (payload d at)) _ _ g refl e₄ in
        let l₂ : 4 ≤ length d - at = ltb-false (length d - at) 4 h₂ in
        let l₅ : payload d at ≤ length d - at - 4 = ltb-false (length d - at - 4) (payload d at) h₅ in
        let e₆ : group_at d at n ≡ g = cc in
        record { n = n; here = record { service = q; form = not-false _ h₃; counted = ltb-false (payload d at) n h₄; whole = omega arith }; same = sym e₆ }

-- ---- a frame read, place by place

-- what follows a step matters only where there is a group
same_after : (s : Result (Option Group) Refusal) (f h : Group → GroupsRead) → ((g : Group) → s ≡ Ok (Some g) → f g ≡ h g) → on_step s f ≡ on_step s h
same_after (Ok (Some g)) f h e = ap (after g) (e g refl)
same_after (Ok None) f h e = refl
same_after (Err r) f h e = refl

-- a group takes at least its header, and ends in the frame
pub step_room : (d : List ℕ) (at : ℕ) (g : Group) → step_at d at ≡ Ok (Some g) → (at + 4 ≤ end_of g) × (end_of g ≤ length d)
step_room d at g e =
    let m = step_here d at g e in
    let w : at + 4 + payload d at ≤ length d = m.here.whole in
    let k : end_of (group_at d at m.n) ≡ at + 4 + payload d at = here_end d at m.n m.here in
    rw m.same (omega arith, omega arith)

-- any number of steps that is enough gives the same
pub enough : (n m : ℕ) (d : List ℕ) (at : ℕ) → length d - at < n → length d - at < m → read_from n d at ≡ read_from m d at
unfolding read_from
enough zero m d at h k = absurd (omega arith)
enough (suc n) zero d at h k = absurd (omega arith)
enough (suc n) (suc m) d at h k =
    same_after (step_at d at) (λ g. read_from n d (end_of g)) (λ g. read_from m d (end_of g))
    (λ g e.
    let (a, b) = step_room d at g e in
    enough n m d (end_of g) (omega arith) (omega arith))

-- what is read from a place on
unfoldable pub read_on : List ℕ → ℕ → GroupsRead
read_on d at = read_from (suc (length d - at)) d at

pub read_turn : (d : List ℕ) (at : ℕ) → read_on d at ≡ on_step (step_at d at) (λ g. read_on d (end_of g))
unfolding read_on read_from
read_turn d at =
    same_after (step_at d at) (λ g. read_from (length d - at) d (end_of g)) (λ g. read_on d (end_of g))
    (λ g e.
    let (a, b) = step_room d at g e in
    enough (length d - at) (suc (length d - (end_of g))) d (end_of g) (omega arith) (omega arith))

pub read_all : (d : List ℕ) → groups_read d ≡ read_on d 0
unfolding groups_read read_on
read_all d = enough (suc (length d)) (suc (length d - 0)) d 0 (omega arith) (omega arith)

judged_after : (g : Group) (r : GroupsRead) → judgement_of (after g r) ≡ judgement_of r
judged_after g (good gs) = refl
judged_after g (bad r) = refl

module _ (d : List ℕ) (at : ℕ) where
  pub read_group : (g : Group) → step_at d at ≡ Ok (Some g) → read_on d at ≡ after g (read_on d (end_of g))
  read_group g e = read_turn d at ∙ ap (λ (s : Result (Option Group) Refusal). on_step s (λ g. read_on d (end_of g))) e

  pub read_end : step_at d at ≡ Ok None → read_on d at ≡ good []
  read_end e = read_turn d at ∙ ap (λ (s : Result (Option Group) Refusal). on_step s (λ g. read_on d (end_of g))) e

  pub read_fault : (r : Refusal) → step_at d at ≡ Err r → read_on d at ≡ bad r
  read_fault r e = read_turn d at ∙ ap (λ (s : Result (Option Group) Refusal). on_step s (λ g. read_on d (end_of g))) e

  -- a group met changes nothing of the judgement
  pub judged_on : (g : Group) → step_at d at ≡ Ok (Some g) → judgement_of (read_on d at) ≡ judgement_of (read_on d (end_of g))
  judged_on g e = ap judgement_of (read_group g e) ∙ judged_after g (read_on d (end_of g))

-- ---- a reader's step

module _ (d : List ℕ) (at : ℕ) where
  given_by : (s : Result (Option Group) Refusal) → step_at d at ≡ s → (g : Group) (to : Cursor) → on_next s ≡ Some (g, to) → (step_at d at ≡ Ok (Some g)) × (to.at ≡ end_of g)
  given_by (Ok (Some g)) e h to q =
      let p : (g, record { at = end_of g }) ≡ (h, to) = cc in
      let same : g ≡ h = ap (λ (x : Group × Cursor). x.0) p in
      (e ∙ ap (λ (x : Group). Ok (Some x)) same, sym (ap (λ (x : Group × Cursor). x.1.at) p) ∙ ap end_of same)
  given_by (Ok None) e h to q = absurd (let z : ◌≡◌ {A = ℕ} 0 1 = cc in omega arith)
  given_by (Err r) e h to q = absurd (let z : ◌≡◌ {A = ℕ} 0 1 = cc in omega arith)

  -- what a caller's loop goes by: each group brings the reader on, and not past the frame's end
  pub next_room : (g : Group) (to : Cursor) → next_at d at ≡ Some (g, to) → (at + 4 ≤ to.at) × (to.at ≤ length d) × (to.at ≡ end_of g)
  next_room g to q =
      let (e, t) = given_by (step_at d at) refl g to q in
      let (a, b) = step_room d at g e in
      (omega arith, omega arith, t)

  -- nothing is given out past the frame's end
  pub past_none : length d ≤ at → next_at d at ≡ None
  past_none h = ap on_next (sym (then (leb (length d) at) _ _ _ (le-leb (length d) at h) refl))
