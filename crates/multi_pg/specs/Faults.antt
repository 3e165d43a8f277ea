-- The faults that a place of a frame can have: 4 to 8, and no other.
use Rattle.std.specs.Prelude.{ℕ, ◌-◌, Bool, true, false, cond, not, List, eqb, leb, ltb, length, Option, Some, None, Result, Ok, Err}
use Rattle.frame.specs.Pgn.{pgn_ok}
use Rattle.frame.specs.declared.refusal.Refusal.{Refusal}
use Rattle.frame.specs.declared.refusal.Refusal.TheVariants.{HeaderCut, DataCut, ServiceType, TrailerFormat, PgnForm}
use Rattle.multi_pg.specs.declared.Group.{Group}
use Rattle.multi_pg.specs.Services.{trailer_of, is_service, on_format, service_of}
use Rattle.multi_pg.specs.Groups.{tos, tf, pgn_at, payload, group_at, headed_at, on_service, step_at}

-- what holds of a step's fault, if it has one
abbrev pub OfFault : (Refusal → Type 0) → Result (Option Group) Refusal → Type 0
OfFault P (Err r) = P r
OfFault P (Ok None) = Unit {0}
OfFault P (Ok (Some g)) = Unit {0}

abbrev OfService : (Refusal → Type 0) → Result (Option ℕ) Refusal → Type 0
OfService P (Err r) = P r
OfService P (Ok None) = Unit {0}
OfService P (Ok (Some n)) = Unit {0}

module _ (P : Refusal → Type 0) (four : P HeaderCut) (five : P DataCut) (six : P ServiceType) (seven : P TrailerFormat) (eight : P PgnForm) where
  either : (t : Bool) (x y : Result (Option Group) Refusal) → OfFault P x → OfFault P y → OfFault P (cond t x y)
  either true x y a b = a
  either false x y a b = b

  by_service : (tos tf : ℕ) → OfService P (service_of tos tf)
  by_service tos tf = go (eqb tos 0) (not (is_service tos)) (trailer_of tos tf)
    where
      go : (a b : Bool) (t : Option ℕ) → OfService P (cond a (Ok None) (cond b (Err ServiceType) (on_format t)))
      go true b t = tt
      go false true t = six
      go false false None = seven
      go false false (Some n) = tt

  -- What holds of 4 to 8 holds of the fault at any place of any bytes.
  pub step_fault : (d : List ℕ) (at : ℕ) → OfFault P (step_at d at)
  step_fault d at = either (leb (length d) at) (Ok None) _ tt (go (service_of (tos d at) (tf d at)) (ltb (length d - at) 4) (by_service (tos d at) (tf d at)))
    where
      headed : (n : ℕ) → OfFault P (headed_at d at n)
      headed n =
          either (not (pgn_ok (pgn_at d at))) (Err PgnForm) _ eight
          (either (ltb (payload d at) n) (Err DataCut) _ five
          (either (ltb (length d - at - 4) (payload d at)) (Err DataCut) (Ok (Some (group_at d at n))) five tt))

      go : (s : Result (Option ℕ) Refusal) (cut : Bool) → OfService P s → OfFault P (on_service s cut (headed_at d at))
      go (Ok None) cut f = tt
      go (Err r) true f = four
      go (Err r) false f = f
      go (Ok (Some n)) cut f = either cut (Err HeaderCut) (headed_at d at n) four (headed n)
