-- Numbers of 64 bits in bytes, low byte first: two words of 32 bits, the low one first.
use Rattle.std.specs.Prelude.{ℕ, ◌+◌, ◌*◌, ◌/◌, ◌%◌, ◌^◌, ◌<◌, ◌≡◌}
use Rattle.std.proofs.Common.{arith, ap₂, ◌∙◌}
use Rattle.words.specs.Laws.{low32_read_back}
use Rattle.record_bytes.specs.Longs.{eight_bytes}

pub low64_read_back : (n : ℕ) → n < 2 ^ 64 → eight_bytes n ≡ n
low64_read_back n h =
    ap₂ (λ (a b : ℕ). a + 4294967296 * b) (low32_read_back (n % 4294967296) (omega arith)) (low32_read_back (n / 4294967296) (omega arith))
    ∙ omega arith
