-- Laws of a number's bytes.
use Rattle.std.specs.Prelude.{ℕ, zero, suc, ◌+◌, ◌-◌, ◌*◌, ◌/◌, ◌%◌, ◌^◌, ◌<◌, ◌≤◌, ◌≡◌, refl, List, [], ◌∷◌, ltb, length, drop}
use Rattle.std.proofs.Common.{pow-suc, mul_assoc, arith, sym, ap, subst, ◌∙◌, lt-ltb, le-ltb}
use Rattle.std.proofs.Math.Decide.{dec_lt}
use Rattle.laws.specs.Choice.{then, else}
use Rattle.trace.specs.Numbers.{group_bytes, number_bytes}

pub bytes_short : (more n : ℕ) → n < 128 → group_bytes more n ≡ n ∷ []
unfolding group_bytes
bytes_short zero n h = refl
bytes_short (suc more) n h = sym (then (ltb n 128) _ _ _ (lt-ltb n 128 h) refl)

pub bytes_long : (more n : ℕ) → 128 ≤ n → group_bytes (suc more) n ≡ (n % 128 + 128) ∷ group_bytes more (n / 128)
unfolding group_bytes
bytes_long more n h = sym (else (ltb n 128) _ _ _ (le-ltb n 128 h) refl)

-- a number that this group and `more` others hold, of which the fifth has four bits
abbrev pub Held : ℕ → ℕ → Type 0
Held more n = n < 16 * 128 ^ more

pub held_step : (more : ℕ) → 16 * 128 ^ suc more ≡ 16 * 128 ^ more * 128
held_step more = ap (λ (k : ℕ). 16 * k) (pow-suc 128 more) ∙ sym (mul_assoc 16 (128 ^ more) 128)

pub held_next : (more n : ℕ) → Held (suc more) n → Held more (n / 128)
held_next more n h = let e = held_step more in omega arith

-- a number of several groups, while i of its bytes are written
module _ (i n : ℕ) (s : List ℕ) (long : 128 ≤ n) (held : Held (4 - i) n) where
  more_left : (more : ℕ) → 4 - i ≡ more → 4 - i ≡ suc (4 - (i + 1))
  more_left zero e = absurd (let h : n < 16 * 128 ^ zero = subst (λ (k : ℕ). Held k n) e held in omega arith)
  more_left (suc m) e = omega arith

  pub next_left : drop i s ≡ group_bytes (4 - i) n → drop i s ≡ (n % 128 + 128) ∷ group_bytes (4 - (i + 1)) (n / 128)
  next_left e = e ∙ ap (λ (k : ℕ). group_bytes k n) (more_left (4 - i) refl) ∙ bytes_long (4 - (i + 1)) n long

  pub next_held : Held (4 - (i + 1)) (n / 128)
  next_held = held_next (4 - (i + 1)) n (subst (λ (k : ℕ). Held k n) (more_left (4 - i) refl) held)

  pub next_low : i < 4
  next_low = let e = more_left (4 - i) refl in omega arith

-- how many bytes: one where no more follow, and one for each group before
pub size_short : (more n : ℕ) → n < 128 → 1 ≡ length (group_bytes more n)
size_short more n h = ap length (sym (bytes_short more n h))

pub size_long : (more n : ℕ) {k : ℕ} → 128 ≤ n → k ≡ length (group_bytes more (n / 128)) → suc k ≡ length (group_bytes (suc more) n)
size_long more n h e = ap suc e ∙ ap length (sym (bytes_long more n h))

pub size_of : (n : ℕ) {k : ℕ} → k ≡ length (group_bytes 4 n) → k ≡ length (number_bytes n)
unfolding number_bytes
size_of n e = e

-- before any byte is written, and at the last one
pub all_left : (n : ℕ) → drop 0 (number_bytes n) ≡ group_bytes (4 - 0) n
unfolding number_bytes
all_left n = refl

pub last_left : (i n : ℕ) (s : List ℕ) → n < 128 → drop i s ≡ group_bytes (4 - i) n → drop i s ≡ n ∷ []
last_left i n s h e = e ∙ bytes_short (4 - i) n h

-- from one byte to five
pub size_one : (n : ℕ) → n < 128 → length (number_bytes n) ≡ 1
unfolding number_bytes
size_one n h = sym (size_short 4 n h)

some_group : (more n : ℕ) → (0 < length (group_bytes more n)) × (length (group_bytes more n) ≤ more + 1)
unfolding group_bytes
some_group zero n = (omega arith, omega arith)
some_group (suc more) n =
    elim (dec_lt n 128) [
      | yes h ↦ let e = size_short (suc more) n h in (omega arith, omega arith)
      | no h ↦ let g = some_group more (n / 128) in let e = size_long more n (omega arith) refl in (omega arith, omega arith)
    ]

pub size_some : (n : ℕ) → 0 < length (number_bytes n)
unfolding number_bytes
size_some n = (some_group 4 n).0

pub size_most : (n : ℕ) → length (number_bytes n) ≤ 5
unfolding number_bytes
size_most n = (some_group 4 n).1
