-- The binary digits of a number, and what a sum, a remainder and a complement do to them. Nothing here but `digit` needs to be believed.
use Rattle.std.specs.Prelude.{ℕ, zero, suc, ◌+◌, ◌-◌, ◌*◌, ◌/◌, ◌%◌, ◌^◌, ◌≤◌, ◌<◌, ◌≡◌, refl, cond, ◌⊎◌, eqb}
use Rattle.std.proofs.Math.Path.{sym, ap}
use Rattle.std.proofs.Common.{subst, ◌∙◌, inl, inr, mod-lt, suc-mul, add_assoc, add_comm, zero-mul, zero-add, lt_of_lt_of_le, div-one, pow-suc, add-one, lit<, shr-shr, pow_pos, pow_mono, pow-add, shr_lt, eq-eqb, ne_eqb}
use Rattle.std.proofs.Math.Nat.{add-div_right, div-eq_of_lt}
use native.Mathlib.Omega.{arith}
use Rattle.std.proofs.Math.Arith.{digits_lt}
use Rattle.std.proofs.Math.Pow.{split, high, low, field, mod-mod-pow}
use Rattle.std.proofs.lemmas.Bool.{cases_order}
use Rattle.std.proofs.lemmas.Nat.{mod-pow-add, ones_cat, trailing_le}
use Rattle.std.specs.Int.Count.{ones, count_trailing_zeros, under}

-- digit 0 is the lowest
unfoldable pub digit : ℕ → ℕ → ℕ
digit v k = v / 2 ^ k % 2

pub digit_lt : (v k : ℕ) → digit v k < 2
unfolding digit
digit_lt v k = mod-lt (v / 2 ^ k) (lit< tt)

-- ---- a number of two parts: h above, and w digits l below

module _ (h l w : ℕ) (fits : l < 2 ^ w) where
  pub mod_below : (k : ℕ) → k ≤ w → (h * 2 ^ w + l) % 2 ^ k ≡ l % 2 ^ k
  mod_below k b =
      let e : w - k + k ≡ w = omega arith in
      sym (mod-mod-pow (h * 2 ^ w + l) (w - k) k)
      ∙ ap (λ (x : ℕ). (h * 2 ^ w + l) % 2 ^ x % 2 ^ k) e
      ∙ ap (λ (x : ℕ). x % 2 ^ k) (low h w fits)

  pub digit_below : (k : ℕ) → k < w → digit (h * 2 ^ w + l) k ≡ digit l k
  unfolding digit
  digit_below k b =
      sym (field (h * 2 ^ w + l) 1 k)
      ∙ ap (λ (x : ℕ). x / 2 ^ k) (mod_below (1 + k) (omega arith))
      ∙ field l 1 k

  pub digit_above : (k : ℕ) → digit (h * 2 ^ w + l) (w + k) ≡ digit h k
  unfolding digit
  digit_above k = ap (λ (x : ℕ). x % 2) (sym (shr-shr (h * 2 ^ w + l) w k) ∙ ap (λ (x : ℕ). x / 2 ^ k) (high h w fits))

-- the digits of a quotient and of what is left
pub digit_shift : (v a k : ℕ) → digit (v / 2 ^ a) k ≡ digit v (a + k)
unfolding digit
digit_shift v a k = ap (λ (x : ℕ). x % 2) (shr-shr v a k)

pub digit_mod : (v w k : ℕ) → k < w → digit (v % 2 ^ w) k ≡ digit v k
digit_mod v w k b =
    sym (digit_below (v / 2 ^ w) (v % 2 ^ w) w (mod-lt v (pow_pos w)) k b) ∙ ap (λ (x : ℕ). digit x k) (split v w)

-- a digit that is set lies below the number's length
pub digit_past : (v w k : ℕ) → v < 2 ^ w → digit v k ≡ 1 → k < w
unfolding digit
digit_past v w k h e =
    let no : w ≤ k → ⊥ = λ b.
    let z : v / 2 ^ k % 2 ≡ 0 = ap (λ (x : ℕ). x % 2) (div-eq_of_lt (lt_of_lt_of_le h (pow_mono b))) in
    omega arith in
    omega arith

-- ---- a digit is set that was not

power_next : (k : ℕ) → 2 ^ (1 + k) ≡ 2 * 2 ^ k
power_next k = pow-add 2 1 k

module _ (v k : ℕ) (free : digit v k ≡ 0) where
  parts : v ≡ v / 2 ^ (1 + k) * 2 ^ (1 + k) + v % 2 ^ k
  unfolding digit
  parts =
      sym (split v (1 + k))
      ∙ ap (λ (x : ℕ). v / 2 ^ (1 + k) * 2 ^ (1 + k) + x) (mod-pow-add v 1 k ∙ ap (λ (x : ℕ). x * 2 ^ k + v % 2 ^ k) free ∙ rw (zero-mul, zero-add))

  -- the highest digit of a number, where it is not set, can be left off
  pub shorter : v < 2 ^ (1 + k) → v < 2 ^ k
  shorter h =
      let none : v / 2 ^ (1 + k) ≡ 0 = div-eq_of_lt h in
      let same : v ≡ 0 * 2 ^ (1 + k) + v % 2 ^ k = parts ∙ ap (λ (x : ℕ). x * 2 ^ (1 + k) + v % 2 ^ k) none in
      omega (arith, mod-lt v (pow_pos k))

  more : v + 2 ^ k ≡ v / 2 ^ (1 + k) * 2 ^ (1 + k) + (v % 2 ^ k + 2 ^ k)
  more = ap (λ (x : ℕ). x + 2 ^ k) parts ∙ add_assoc (v / 2 ^ (1 + k) * 2 ^ (1 + k)) (v % 2 ^ k) (2 ^ k)

  rest_lt : v % 2 ^ k + 2 ^ k < 2 ^ (1 + k)
  rest_lt = omega (arith, power_next k, mod-lt v (pow_pos k))

  -- it stays within any width that held it
  pub added_lt : (w : ℕ) → k < w → v < 2 ^ w → v + 2 ^ k < 2 ^ w
  added_lt w b h =
      let e : w - (1 + k) + (1 + k) ≡ w = omega arith in
      let top : v / 2 ^ (1 + k) < 2 ^ (w - (1 + k)) = shr_lt (w - (1 + k)) (1 + k) (rw e h) in
      let sum : v / 2 ^ (1 + k) * 2 ^ (1 + k) + (v % 2 ^ k + 2 ^ k) < 2 ^ (w - (1 + k)) * 2 ^ (1 + k) = digits_lt top rest_lt in
      rw more (subst (λ (x : ℕ). v / 2 ^ (1 + k) * 2 ^ (1 + k) + (v % 2 ^ k + 2 ^ k) < x) (sym (pow-add 2 (w - (1 + k)) (1 + k)) ∙ ap (λ (x : ℕ). 2 ^ x) e) sum)

  added_same : digit (v + 2 ^ k) k ≡ 1
  unfolding digit
  added_same =
      let d : v / 2 ^ k % 2 ≡ 0 = free in
      ap (λ (x : ℕ). x % 2) (add-div_right v (pow_pos k)) ∙ omega arith

  added_below : (m : ℕ) → m < k → digit (v + 2 ^ k) m ≡ digit v m
  added_below m b =
      let lt : v % 2 ^ k < 2 ^ k = mod-lt v (pow_pos k) in
      let whole : v ≡ v / 2 ^ k * 2 ^ k + v % 2 ^ k = sym (split v k) in
      let sum : v + 2 ^ k ≡ (v / 2 ^ k + 1) * 2 ^ k + v % 2 ^ k = ap (λ (x : ℕ). x + 2 ^ k) whole ∙ rw (add-one, suc-mul) (omega arith) in
      ap (λ (x : ℕ). digit x m) sum ∙ digit_below (v / 2 ^ k + 1) (v % 2 ^ k) k lt m b
      ∙ sym (digit_below (v / 2 ^ k) (v % 2 ^ k) k lt m b) ∙ ap (λ (x : ℕ). digit x m) (sym whole)

  added_above : (j : ℕ) → digit (v + 2 ^ k) (1 + k + j) ≡ digit v (1 + k + j)
  added_above j =
      let lt : v % 2 ^ k < 2 ^ (1 + k) = omega (arith, rest_lt) in
      ap (λ (x : ℕ). digit x (1 + k + j)) more ∙ digit_above (v / 2 ^ (1 + k)) (v % 2 ^ k + 2 ^ k) (1 + k) rest_lt j
      ∙ sym (digit_above (v / 2 ^ (1 + k)) (v % 2 ^ k) (1 + k) lt j) ∙ ap (λ (x : ℕ). digit x (1 + k + j)) (sym parts)

  -- and no other digit changes
  pub digit_added : (m : ℕ) → digit (v + 2 ^ k) m ≡ cond (eqb m k) 1 (digit v m)
  digit_added m = go (cases_order m k)
    where
      go : (m ≡ k) ⊎ ((m < k) ⊎ (k < m)) → digit (v + 2 ^ k) m ≡ cond (eqb m k) 1 (digit v m)
      go (inl e) = rw (eq-eqb m k e, e) added_same
      go (inr (inl b)) = rw (ne_eqb m k (omega arith)) (added_below m b)
      go (inr (inr b)) =
          let e : m ≡ 1 + k + (m - (1 + k)) = omega arith in
          rw (ne_eqb m k (omega arith)) (rw e (added_above (m - (1 + k))))

-- ---- the count of the digits that are set

ones_small : (d : ℕ) → d < 2 → ones d ≡ d
unfolding ones
ones_small zero b = refl
ones_small (suc zero) b = refl
ones_small (suc (suc d)) b = omega arith

pub ones_next : (v c : ℕ) → ones (v % 2 ^ suc c) ≡ digit v c + ones (v % 2 ^ c)
unfolding digit
ones_next v c =
    ap (λ (x : ℕ). ones (v % 2 ^ x)) (sym (add-one c) ∙ add_comm c 1)
    ∙ ap ones (mod-pow-add v 1 c)
    ∙ ones_cat c (v / 2 ^ c % 2) (v % 2 ^ c) (mod-lt v (pow_pos c))
    ∙ ap (λ (x : ℕ). x + ones (v % 2 ^ c)) (ones_small (v / 2 ^ c % 2) (digit_lt v c))

-- ---- the lowest digit, and those of the half

digit_first : (v : ℕ) → digit v zero ≡ v % 2
unfolding digit
digit_first v = ap (λ (x : ℕ). x % 2) (div-one v)

digit_half : (v k : ℕ) → digit v (suc k) ≡ digit (v / 2) k
unfolding digit
digit_half v k = ap (λ (x : ℕ). x % 2) (ap (λ (x : ℕ). v / 2 ^ x) (sym (add-one k) ∙ add_comm k 1) ∙ sym (shr-shr v 1 k))

-- the complement within w digits
pub digit_not : (w a k : ℕ) → a < 2 ^ w → k < w → digit (2 ^ w - 1 - a) k ≡ 1 - digit a k
digit_not zero a k h b = omega arith
digit_not (suc w) a zero h b =
    let p : 2 ^ suc w ≡ 2 ^ w * 2 = pow-suc 2 w in
    digit_first (2 ^ suc w - 1 - a) ∙ omega arith ∙ ap (λ (x : ℕ). 1 - x) (sym (digit_first a))
digit_not (suc w) a (suc k) h b =
    let p : 2 ^ suc w ≡ 2 ^ w * 2 = pow-suc 2 w in
    let half : (2 ^ suc w - 1 - a) / 2 ≡ 2 ^ w - 1 - a / 2 = omega arith in
    digit_half (2 ^ suc w - 1 - a) k ∙ ap (λ (x : ℕ). digit x k) half ∙ digit_not w (a / 2) k (omega arith) (omega arith)
    ∙ ap (λ (x : ℕ). 1 - x) (sym (digit_half a k))

-- the zeros below the lowest digit that is set
trailing_below : (w n j : ℕ) → j < count_trailing_zeros w n → digit n j ≡ 0
unfolding count_trailing_zeros
trailing_below zero n j h = omega arith
trailing_below (suc w) n j h = go j (n % 2) refl h (trailing_below w (n / 2))
  where
    go : (j d : ℕ) → n % 2 ≡ d → j < under d (count_trailing_zeros w (n / 2)) → ((i : ℕ) → i < count_trailing_zeros w (n / 2) → digit (n / 2) i ≡ 0) → digit n j ≡ 0
    go zero zero e b f = digit_first n ∙ e
    go (suc j) zero e b f = digit_half n j ∙ f j (omega arith)
    go j (suc d) e b f = omega arith

trailing_at : (w n : ℕ) → count_trailing_zeros w n < w → digit n (count_trailing_zeros w n) ≡ 1
unfolding count_trailing_zeros
trailing_at zero n h = omega arith
trailing_at (suc w) n h = go (n % 2) refl h (trailing_at w (n / 2))
  where
    go : (d : ℕ) → n % 2 ≡ d → under d (count_trailing_zeros w (n / 2)) < suc w → (count_trailing_zeros w (n / 2) < w → digit (n / 2) (count_trailing_zeros w (n / 2)) ≡ 1) → digit n (under d (count_trailing_zeros w (n / 2))) ≡ 1
    go zero e b f = digit_half n (count_trailing_zeros w (n / 2)) ∙ f (omega arith)
    go (suc d) e b f = digit_first n ∙ omega arith

-- t is the place of the lowest of w digits of a that is set: w where none is
pub record LowestSet (w a t : ℕ) : Type 0 where
  pub within : t ≤ w
  pub below : (j : ℕ) → j < t → digit a j ≡ 0
  pub at : t < w → digit a t ≡ 1

pub lowest_set : (w a : ℕ) → LowestSet w a (count_trailing_zeros w a)
lowest_set w a = record { within = trailing_le w a; below = trailing_below w a; at = trailing_at w a }

-- t is the place of the lowest of w digits of a that is not set: w where all are
pub record LowestFree (w a t : ℕ) : Type 0 where
  pub within : t ≤ w
  pub below : (j : ℕ) → j < t → digit a j ≡ 1
  pub at : t < w → digit a t ≡ 0

pub lowest_free : (w a : ℕ) → a < 2 ^ w → LowestFree w a (count_trailing_zeros w (2 ^ w - 1 - a))
lowest_free w a h = record {
  within = trailing_le w (2 ^ w - 1 - a);
  below = λ j b.
      let e : digit (2 ^ w - 1 - a) j ≡ 1 - digit a j = digit_not w a j h (omega (arith, trailing_le w (2 ^ w - 1 - a))) in
      omega (arith, trailing_below w (2 ^ w - 1 - a) j b, digit_lt a j);
  at = λ b.
      let e : digit (2 ^ w - 1 - a) (count_trailing_zeros w (2 ^ w - 1 - a)) ≡ 1 - digit a (count_trailing_zeros w (2 ^ w - 1 - a)) = digit_not w a _ h b in
      omega (arith, trailing_at w (2 ^ w - 1 - a) b);
}
