-- The data lengths of a CAN FD frame: 01, "Numbers that hold everywhere". What a length is and which is the next both go by this one list.
use Rattle.std.specs.Prelude.{ℕ, Bool, false, ◌||◌, List, [], ◌∷◌, eqb, leb, None, Option, Some}
use Rattle.std.specs.List.{find}

abbrev pub lengths : List ℕ
lengths = 0 ∷ 1 ∷ 2 ∷ 3 ∷ 4 ∷ 5 ∷ 6 ∷ 7 ∷ 8 ∷ 12 ∷ 16 ∷ 20 ∷ 24 ∷ 32 ∷ 48 ∷ 64 ∷ []

abbrev pub among : ℕ → List ℕ → Bool
among m [] = false
among m (n ∷ ns) = eqb m n || among m ns

abbrev pub is_length : ℕ → Bool
is_length n = among n lengths

-- the first of a list that holds the need
abbrev pub first_holding : ℕ → List ℕ → Option ℕ
first_holding need ns = find (λ n. leb need n) ns

abbrev pub least_length : ℕ → Option ℕ
least_length need = first_holding need lengths

abbrev pub holding : Option ℕ → ℕ
holding (Some n) = n
holding None = 64

-- the next allowed length
unfoldable pub frame_length : ℕ → ℕ
frame_length need = holding (least_length need)
