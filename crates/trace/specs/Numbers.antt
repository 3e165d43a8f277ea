-- The numbers of a trace: 01, "Program". Groups of seven bits, low group first, top bit set when more follow, shortest form only,
-- below 4,294,967,296. They are judged from the left, and the first fault decides.
use Rattle.std.specs.Prelude.{ℕ, zero, suc, ◌+◌, ◌-◌, ◌*◌, ◌/◌, ◌%◌, cond, List, [], ◌∷◌, eqb, ltb, drop, Result, Ok, Err}
use Rattle.trace.specs.declared.Fault.{Fault}
use Rattle.trace.specs.declared.Fault.TheVariants.{Cut, NotShortest, TooLarge}

-- a number above the low bits `low`, which are counted in units of `scale`
abbrev pub onto : ℕ → ℕ → Result (ℕ × ℕ) Fault → Result (ℕ × ℕ) Fault
onto low scale (Ok (n, next)) = Ok (low + scale * n, next)
onto low scale (Err f) = Err f

-- the last group of several: not 0, else a shorter form says the same
abbrev pub last_group : ℕ → ℕ → Result (ℕ × ℕ) Fault
last_group at b = cond (eqb b 0) (Err NotShortest) (Ok (b, at + 1))

-- the groups after the first, of which this one is at the place `at`, and after which `more` others may follow.
-- Four groups have 28 bits, so a fifth one has four bits and none may follow it
abbrev pub later_groups : ℕ → ℕ → List ℕ → Result (ℕ × ℕ) Fault
later_groups more at [] = Err Cut
later_groups zero at (b ∷ bs) = cond (ltb 15 b) (Err TooLarge) (last_group at b)
later_groups (suc more) at (b ∷ bs) =
    cond (ltb b 128) (last_group at b)
    (onto (b - 128) 128 (later_groups more (at + 1) bs))

-- the number that a list begins with, whose place is `at`
abbrev pub number_on : ℕ → List ℕ → Result (ℕ × ℕ) Fault
number_on at [] = Err Cut
number_on at (b ∷ bs) =
    cond (ltb b 128) (Ok (b, at + 1))
    (onto (b - 128) 128 (later_groups 3 (at + 1) bs))

-- the number at a place of a list
unfoldable pub number_at : List ℕ → ℕ → Result (ℕ × ℕ) Fault
number_at d at = number_on at (drop at d)

-- ---- written

-- the groups of n in their shortest form, this one and at most `more` others
unfoldable pub group_bytes : ℕ → ℕ → List ℕ
group_bytes zero n = n ∷ []
group_bytes (suc more) n = cond (ltb n 128) (n ∷ []) ((n % 128 + 128) ∷ group_bytes more (n / 128))

-- the bytes of a number below 4,294,967,296
unfoldable pub number_bytes : ℕ → List ℕ
number_bytes n = group_bytes 4 n
