-- What the code asks of a place. Nothing here is to be believed: proofs tie each to what a frame holds.
use Rattle.std.specs.Prelude.{ℕ, ◌+◌, ◌-◌, ◌/◌, ◌≤◌, ◌<◌, ◌≡◌, refl, Bool, true, false, cond, List, [], ◌∷◌, eqb, leb, ltb, length, get_or, Some, None, Ok}
use Rattle.std.proofs.Common.{arith, sym, ap, ◌∙◌, ltb-true, eqb-true}
use Rattle.laws.specs.Choice.{then, else}
use Rattle.multi_pg.specs.declared.Group.{Group}
use Rattle.multi_pg.specs.Groups.{tf, payload, end_of, headed_at, on_service, step_at, good, after, groups_read}
use Rattle.multi_pg.specs.Services.{service_of}
use Rattle.multi_pg.specs.Places.{here_end, step_here, read_all, read_group, read_end}

-- a frame too short for a group, or with an end after its first header and that one's data
abbrev pub first_is_last : List ℕ → Bool
first_is_last d =
    cond (ltb (length d) 4) true
    (cond (leb (length d) (4 + payload d 0)) true
    (eqb (get_or d (4 + payload d 0) 0 / 32) 0))

-- ---- a frame of one group

module _ (d : List ℕ) where
  end_byte : (at : ℕ) → leb (length d) at ≡ false → get_or d at 0 / 32 ≡ 0 → step_at d at ≡ Ok None
  end_byte at e z =
      sym
      (else (leb (length d) at) _ _ _ e
      (ap (λ (s : ℕ). on_service (service_of s (tf d at)) (ltb (length d - at) 4) (headed_at d at)) (sym z)))

  last_by : (to : ℕ) (a b : Bool) → ltb (length d) 4 ≡ a → leb (length d) to ≡ b → cond a true (cond b true (eqb (get_or d to 0 / 32) 0)) ≡ true → to ≤ length d → 4 ≤ to → step_at d to ≡ Ok None
  last_by to true b p q e h k = let s : length d < 4 = ltb-true (length d) 4 p in absurd (omega arith)
  last_by to false true p q e h k = sym (then (leb (length d) to) _ _ _ q refl)
  last_by to false false p q e h k = end_byte to q (eqb-true (get_or d to 0 / 32) 0 e)

  -- if the first group is the last, it is all that the frame has
  pub one_group : (g : Group) → first_is_last d ≡ true → step_at d 0 ≡ Ok (Some g) → groups_read d ≡ good (g ∷ [])
  one_group g f e =
      let m = step_here d 0 g e in
      let w : 0 + 4 + payload d 0 ≤ length d = m.here.whole in
      let to : end_of g ≡ 4 + payload d 0 = ap end_of m.same ∙ here_end d 0 m.n m.here ∙ (let z : 0 + 4 + payload d 0 ≡ 4 + payload d 0 = omega arith in z) in
      let end : step_at d (4 + payload d 0) ≡ Ok None = last_by (4 + payload d 0) (ltb (length d) 4) (leb (length d) (4 + payload d 0)) refl refl f (omega arith) (omega arith) in
      read_all d
      ∙ read_group d 0 g e
      ∙ ap (after g) (read_end d (end_of g) (ap (step_at d) to ∙ end))
