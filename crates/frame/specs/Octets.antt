-- Numbers of several bytes: 01, "Transfer frames".
use Rattle.std.specs.Prelude.{ℕ, ◌+◌, ◌*◌, ◌/◌, ◌%◌, List, ◌∷◌, get_or}

-- three bytes, low byte first
abbrev pub low24 : List ℕ → ℕ → ℕ
low24 s at = get_or s at 0 + 256 * get_or s (at + 1) 0 + 65536 * get_or s (at + 2) 0

-- the three low bytes of a number, low byte first, before more bytes
abbrev pub low3 : ℕ → List ℕ → List ℕ
low3 n rest = n % 256 ∷ n / 256 % 256 ∷ n / 65536 % 256 ∷ rest
