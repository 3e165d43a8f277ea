-- Numbers of 32 bits in bytes, low byte first.
use Rattle.std.specs.Prelude.{ℕ, ◌+◌, ◌*◌, ◌/◌, ◌%◌, List, ◌∷◌, get_or}

-- the number that four bytes make
abbrev pub low32 : List ℕ → ℕ → ℕ
low32 s at = get_or s at 0 + 256 * get_or s (at + 1) 0 + 65536 * get_or s (at + 2) 0 + 16777216 * get_or s (at + 3) 0

-- the four bytes of a number, before more bytes
abbrev pub low4 : ℕ → List ℕ → List ℕ
low4 n rest = n % 256 ∷ n / 256 % 256 ∷ n / 65536 % 256 ∷ n / 16777216 % 256 ∷ rest
