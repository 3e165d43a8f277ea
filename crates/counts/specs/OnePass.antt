-- Two cheap tests show every count right: the counts' sum is the number of addresses, and each address is counted more often than it
-- occurs among those before it.
use Rattle.std.specs.Prelude.{ℕ, ◌<◌, Bool, true, ◌&&◌, List, [], ◌∷◌, eqb, ltb, length, get_or}
use Rattle.counts.specs.Counts.{sum_of, count_of}

-- each of us is counted more often than it occurs in vs and before it in us
unfoldable pub ranked : List ℕ → List ℕ → List ℕ → Bool
ranked cs vs [] = true
ranked cs vs (a ∷ us) = ltb (count_of a vs) (get_or cs a 0) && ranked cs (a ∷ vs) us

abbrev pub one_pass : List ℕ → List ℕ → Bool
one_pass cs us = eqb (sum_of cs) (length us) && ranked cs [] us

-- every address is one that there is a count for
unfoldable pub Below : ℕ → List ℕ → Type 0
Below n [] = Unit {0}
Below n (a ∷ us) = (a < n) × Below n us
