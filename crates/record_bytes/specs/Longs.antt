-- Numbers of 64 bits in bytes, low byte first: two words of 32 bits, the low one first.
use Rattle.std.specs.Prelude.{ℕ, ◌+◌, ◌*◌, ◌/◌, ◌%◌, ◌<◌, ◌≡◌, List, []}
use Rattle.std.proofs.Common.{arith, ap₂}
use Rattle.words.specs.Words.{low4, low32}

-- the number that eight bytes make
abbrev pub low64 : List ℕ → ℕ → ℕ
low64 s at = low32 s at + 4294967296 * low32 s (at + 4)

-- the eight bytes of a number, before more bytes
abbrev pub low8 : ℕ → List ℕ → List ℕ
low8 n rest = low4 (n % 4294967296) (low4 (n / 4294967296) rest)

-- ---- eight bytes hold a number below 2^64

abbrev pub eight_bytes : ℕ → ℕ
eight_bytes n = low64 (low8 n []) 0

-- two words are those of the number that they make
pub two_words : (a b : ℕ) → a < 4294967296 → (rest : List ℕ) → low4 a (low4 b rest) ≡ low8 (a + 4294967296 * b) rest
two_words a b h rest =
    let p : a ≡ (a + 4294967296 * b) % 4294967296 = omega arith in
    let q : b ≡ (a + 4294967296 * b) / 4294967296 = omega arith in
    ap₂ (λ (x y : ℕ). low4 x (low4 y rest)) p q
