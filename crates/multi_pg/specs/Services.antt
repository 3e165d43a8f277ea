-- What a header's first byte says, by service type and trailer format: 001, Tables 8 and 9.
use Rattle.std.specs.Prelude.{ℕ, Bool, true, false, cond, not, ◌||◌, List, [], ◌∷◌, eqb, get_or, Option, Some, None, Result, Ok, Err}
use Rattle.frame.specs.declared.refusal.Refusal.{Refusal}
use Rattle.frame.specs.declared.refusal.Refusal.TheVariants.{ServiceType, TrailerFormat}

-- Table 9, a row for a service type and in it, from 0 on, how many bytes of trailer each format has; none is a reserved format
abbrev pub formats : List (List (Option ℕ))
formats =
    []
    ∷ (None ∷ Some 4 ∷ Some 4 ∷ Some 8 ∷ None ∷ Some 8 ∷ Some 8 ∷ None ∷ [])
    ∷ (Some 0 ∷ None ∷ None ∷ None ∷ None ∷ None ∷ None ∷ None ∷ [])
    ∷ []

abbrev pub trailer_of : ℕ → ℕ → Option ℕ
trailer_of tos tf = get_or (get_or formats tos []) tf None

-- Table 8: the service types that have groups
abbrev pub is_service : ℕ → Bool
is_service tos = eqb tos 1 || eqb tos 2

-- 7 for a reserved format
abbrev pub on_format : Option ℕ → Result (Option ℕ) Refusal
on_format (Some n) = Ok (Some n)
on_format None = Err TrailerFormat

-- the end at padding, then 6, 7 or a group with so many bytes of trailer
abbrev pub service_of : ℕ → ℕ → Result (Option ℕ) Refusal
service_of tos tf =
    cond (eqb tos 0) (Ok None)
    (cond (not (is_service tos)) (Err ServiceType)
    (on_format (trailer_of tos tf)))

-- ---- what a packer asks of it

-- whether a reader takes a group with this service type and trailer format, and with a trailer of m bytes
abbrev pub is_group : Result (Option ℕ) Refusal → Bool
is_group (Ok (Some n)) = true
is_group (Ok None) = false
is_group (Err r) = false

abbrev pub has_trailer : Result (Option ℕ) Refusal → ℕ → Bool
has_trailer (Ok (Some n)) m = eqb n m
has_trailer (Ok None) m = false
has_trailer (Err r) m = false
