-- The record's two numbers, and the one number that the model reads: what each part says of the whole.
use Prim.Native.Nat.{ℕ, ◌+◌, ◌-◌, ◌*◌, ◌/◌, ◌%◌, ◌^◌, ◌≤◌, ◌<◌, min}
use mathlib.Core.Path.{◌≡◌, refl, sym, ap, ◌∙◌}
use mathlib.Core.Bool.{Bool, true, false, ◌&&◌}
use native.Mathlib.Nat.{div-eq_of_lt, mod-lt, one-mul}
use mathlib.Mathlib.Data.Bool.Basic.{and_elim_left, and_elim_right}
use native.Mathlib.Omega.{arith}
use Rattle.std.specs.Cmp.{both_ways}
use lib.Dec.{eqb, leb, ltb, lit<}
use lib.Arith.{digits_lt}
use lib.Pow.{pow-add, pow_mono, pow_pos, mod-pow-add, high, low, split, shl_exact}
use lib.Bits.{bit_and, bit_or, or_add_and, and_le_l, and_le_r}
use lib.Count.{ones, ones_cat}
use borrow.Author.Tests.{eqb-true, eqb-false, eq-eqb, ne_eqb, le-leb, lt-leb, leb-true, leb-false, ltb-true, ltb-false, lt-ltb}
use Rattle.segments.specs.declared.Segments.{Segments}
use Rattle.segments.specs.Digits.{digit, digit_lt, digit_below, digit_above, mod_below, added_lt, LowestFree}
use Rattle.segments.specs.Model.{value, is_in, missing_of, none_past, agrees}
use Rattle.segments.specs.Laws.{ones_none, number_of_lem, in_digit, in_set, in_free, in_past_69, in_no_number, missing_ones, missing_ones_past, missing_ones_all, IsFirst}

abbrev pub made : ℕ → ℕ → Segments
made l h = record { low = l; high = h }

and_of : (a b : Bool) → a ≡ true → b ≡ true → (a && b) ≡ true
and_of a b p q = ap (λ (t : Bool). t && b) p ∙ q

-- two numbers are 0 just where their `|` is
either_zero : (a b : ℕ) → eqb (bit_or a b) 0 ≡ (eqb a 0 && eqb b 0)
either_zero a b =
    let sum : bit_or a b + bit_and a b ≡ a + b = or_add_and a b in
    let l : bit_and a b ≤ a = and_le_l a b in
    let r : bit_and a b ≤ b = and_le_r a b in
    both_ways (eqb (bit_or a b) 0) (eqb a 0 && eqb b 0)
    (λ p.
    let z : bit_or a b ≡ 0 = eqb-true (bit_or a b) 0 p in
    and_of (eqb a 0) (eqb b 0) (eq-eqb a 0 (omega arith)) (eq-eqb b 0 (omega arith)))
    (λ p.
    let za : a ≡ 0 = eqb-true a 0 (and_elim_left (eqb a 0) (eqb b 0) p) in
    let zb : b ≡ 0 = eqb-true b 0 (and_elim_right (eqb a 0) (eqb b 0) p) in
    eq-eqb (bit_or a b) 0 (omega arith))

-- `1 << k` in a number of w bits
pub bit : (k w : ℕ) → k < w → 1 * 2 ^ k % 2 ^ w ≡ 2 ^ k
bit k w h = shl_exact 1 k w (lit< tt) (omega arith) ∙ one-mul (2 ^ k)

zero_quotient : (x k : ℕ) → x / 2 ^ k ≡ 0 → x < 2 ^ k
zero_quotient x k e =
    let whole : x / 2 ^ k * 2 ^ k + x % 2 ^ k ≡ x = split x k in
    let small : 0 * 2 ^ k + x % 2 ^ k ≡ x = ap (λ (q : ℕ). q * 2 ^ k + x % 2 ^ k) (sym e) ∙ whole in
    omega (arith, mod-lt x (pow_pos k))

pub in_zero : (s : Segments) (n : ℕ) → n < 1 → is_in s n ≡ false
in_zero s n h = let zero : n ≡ 0 = omega arith in ap (is_in s) zero ∙ in_no_number s 0 refl

module _ (s : Segments) (fits : s.low < 2 ^ 64) where
  pub in_low : (n : ℕ) → 1 ≤ n → n ≤ 64 → is_in s n ≡ eqb (digit s.low (n - 1)) 1
  in_low n a b =
      in_digit s n (number_of_lem n a (omega arith))
      ∙ ap (λ (d : ℕ). eqb d 1) (digit_below s.high s.low 64 fits (n - 1) (omega arith))

  pub in_high : (n : ℕ) → 64 < n → n ≤ 69 → is_in s n ≡ eqb (digit s.high (n - 65)) 1
  in_high n a b =
      let e : n - 1 ≡ 64 + (n - 65) = omega arith in
      in_digit s n (number_of_lem n (omega arith) b)
      ∙ ap (λ (k : ℕ). eqb (digit (value s) k) 1) e
      ∙ ap (λ (d : ℕ). eqb d 1) (digit_above s.high s.low 64 fits (n - 65))

  -- ---- put

  free_low : (n : ℕ) → 1 ≤ n → n ≤ 64 → is_in s n ≡ false → digit s.low (n - 1) ≡ 0
  free_low n a b e =
      let d : digit s.low (n - 1) ≡ 1 → ⊥ = eqb-false (digit s.low (n - 1)) 1 (sym (in_low n a b) ∙ e) in
      omega (arith, digit_lt s.low (n - 1))

  free_high : (n : ℕ) → 64 < n → n ≤ 69 → is_in s n ≡ false → digit s.high (n - 65) ≡ 0
  free_high n a b e =
      let d : digit s.high (n - 65) ≡ 1 → ⊥ = eqb-false (digit s.high (n - 65)) 1 (sym (in_high n a b) ∙ e) in
      omega (arith, digit_lt s.high (n - 65))

  pub fits_low : (n p : ℕ) → 1 ≤ n → n ≤ 64 → is_in s n ≡ false → p ≡ 2 ^ (n - 1) → s.low + p < 2 ^ 64
  fits_low n p a b e q = rw q (added_lt s.low (n - 1) (free_low n a b e) 64 (omega arith) fits)

  pub fits_high : (n p : ℕ) → 64 < n → n ≤ 69 → is_in s n ≡ false → p ≡ 2 ^ (n - 65) → s.high < 2 ^ 8 → s.high + p < 2 ^ 8
  fits_high n p a b e q h = rw q (added_lt s.high (n - 65) (free_high n a b e) 8 (omega arith) h)

  -- ---- nothing past c

  past_low : (c : ℕ) → c < 64 → (eqb s.high 0 && eqb (s.low / 2 ^ c) 0) ≡ none_past s c
  past_low c b =
      both_ways (eqb s.high 0 && eqb (s.low / 2 ^ c) 0) (none_past s c)
      (λ e.
      let h : s.high ≡ 0 = eqb-true s.high 0 (and_elim_left (eqb s.high 0) (eqb (s.low / 2 ^ c) 0) e) in
      let l : s.low < 2 ^ c = zero_quotient s.low c (eqb-true (s.low / 2 ^ c) 0 (and_elim_right (eqb s.high 0) (eqb (s.low / 2 ^ c) 0) e)) in
      lt-ltb (value s) (2 ^ c) (omega arith))
      (λ e.
      let v : value s < 2 ^ c = ltb-true (value s) (2 ^ c) e in
      let p : 2 ^ c ≤ 2 ^ 64 = pow_mono {i = c} {j = 64} (omega arith) in
      let h : s.high ≡ 0 = omega arith in
      let l : s.low < 2 ^ c = omega arith in
      and_of (eqb s.high 0) (eqb (s.low / 2 ^ c) 0) (eq-eqb s.high 0 h) (eq-eqb (s.low / 2 ^ c) 0 (div-eq_of_lt l)))

  past_either : (c h : ℕ) → c < 64 → h ≡ s.high → eqb (bit_or h (s.low / 2 ^ c)) 0 ≡ none_past s c
  past_either c h b e =
      ap (λ (x : ℕ). eqb (bit_or x (s.low / 2 ^ c)) 0) e ∙ either_zero s.high (s.low / 2 ^ c) ∙ past_low c b

  pub past_low_yes : (c h : ℕ) → c < 64 → h ≡ s.high → bit_or h (s.low / 2 ^ c) ≡ 0 → none_past s c ≡ true
  past_low_yes c h b e z = sym (past_either c h b e) ∙ eq-eqb (bit_or h (s.low / 2 ^ c)) 0 z

  pub past_low_no : (c h : ℕ) → c < 64 → h ≡ s.high → (bit_or h (s.low / 2 ^ c) ≡ 0 → ⊥) → none_past s c ≡ false
  past_low_no c h b e z = sym (past_either c h b e) ∙ ne_eqb (bit_or h (s.low / 2 ^ c)) 0 z

  past_high : (c : ℕ) → 64 ≤ c → eqb (s.high / 2 ^ (c - 64)) 0 ≡ none_past s c
  past_high c b =
      let p : 2 ^ c ≡ 2 ^ (c - 64) * 2 ^ 64 = ap (λ (x : ℕ). 2 ^ x) (omega arith) ∙ pow-add 2 (c - 64) 64 in
      both_ways (eqb (s.high / 2 ^ (c - 64)) 0) (none_past s c)
      (λ e.
      let h : s.high < 2 ^ (c - 64) = zero_quotient s.high (c - 64) (eqb-true (s.high / 2 ^ (c - 64)) 0 e) in
      lt-ltb (value s) (2 ^ c) (omega (arith, digits_lt h fits)))
      (λ e.
      let v : value s < 2 ^ c = ltb-true (value s) (2 ^ c) e in
      let h : s.high < 2 ^ (c - 64) = omega arith in
      eq-eqb (s.high / 2 ^ (c - 64)) 0 (div-eq_of_lt h))

  past_low_high : (c : ℕ) → c < 64 → none_past s c ≡ true → s.high ≡ 0
  past_low_high c b e =
      eqb-true s.high 0 (and_elim_left (eqb s.high 0) (eqb (s.low / 2 ^ c) 0) (past_low c b ∙ e))

  pub past_high_yes : (c : ℕ) → 64 ≤ c → s.high / 2 ^ (c - 64) ≡ 0 → none_past s c ≡ true
  past_high_yes c b h = sym (past_high c b) ∙ eq-eqb (s.high / 2 ^ (c - 64)) 0 h

  pub past_high_no : (c : ℕ) → 64 ≤ c → (s.high / 2 ^ (c - 64) ≡ 0 → ⊥) → none_past s c ≡ false
  past_high_no c b h = sym (past_high c b) ∙ ne_eqb (s.high / 2 ^ (c - 64)) 0 h

  -- ---- the count

  ones_parts : (k : ℕ) → ones (value s % 2 ^ (k + 64)) ≡ ones (s.high % 2 ^ k) + ones s.low
  ones_parts k =
      ap ones
      (mod-pow-add (value s) k 64
      ∙ ap (λ (x : ℕ). x % 2 ^ k * 2 ^ 64 + value s % 2 ^ 64) (high s.high 64 fits)
      ∙ ap (λ (x : ℕ). s.high % 2 ^ k * 2 ^ 64 + x) (low s.high 64 fits))
      ∙ ones_cat 64 (s.high % 2 ^ k) s.low fits

  pub count_low : (c : ℕ) → c < 64 → missing_of s c + ones (s.low % 2 ^ c) ≡ c
  count_low c b =
      ap (λ (x : ℕ). missing_of s c + ones x) (sym (mod_below s.high s.low 64 fits c (omega arith)))
      ∙ missing_ones s c (omega arith)

  pub count_high : (c k : ℕ) → 64 ≤ c → k ≡ min (c - 64) 5 → missing_of s c + (ones s.low + ones (s.high % 2 ^ k)) ≡ c
  count_high c k b e = go (leb c 69) refl
    where
      go : (t : Bool) → leb c 69 ≡ t → missing_of s c + (ones s.low + ones (s.high % 2 ^ k)) ≡ c
      go true q =
          let h : c ≤ 69 = leb-true c 69 q in
          let w : k + 64 ≡ c = omega arith in
          let o : ones (value s % 2 ^ c) ≡ ones (s.high % 2 ^ k) + ones s.low = ap (λ (x : ℕ). ones (value s % 2 ^ x)) (sym w) ∙ ones_parts k in
          omega (arith, missing_ones s c h)
      go false q =
          let h : 69 < c = leb-false c 69 q in
          let w : k + 64 ≡ 69 = omega arith in
          let o : ones (value s % 2 ^ 69) ≡ ones (s.high % 2 ^ k) + ones s.low = ap (λ (x : ℕ). ones (value s % 2 ^ x)) (sym w) ∙ ones_parts k in
          omega (arith, missing_ones_past s c (omega arith))

  -- ---- the state check

  pub agree_past : (c left : ℕ) → 69 < c → false ≡ agrees s c left
  agree_past c left h = ap (λ (t : Bool). t && (none_past s c && eqb (missing_of s c) left)) (sym (lt-leb c 69 h))

  pub agree_not : (c left : ℕ) → c ≤ 69 → none_past s c ≡ false → false ≡ agrees s c left
  agree_not c left h e =
      ap (λ (t : Bool). t && eqb (missing_of s c) left) (sym e)
      ∙ ap (λ (t : Bool). t && (none_past s c && eqb (missing_of s c) left)) (sym (le-leb c 69 h))

  -- where nothing is past c, all digits that are set count
  pub counted_high : (c n : ℕ) → c ≤ 69 → none_past s c ≡ true → n ≡ ones s.low + ones s.high → missing_of s c + n ≡ c
  counted_high c n h e q =
      let all : ones (value s) ≡ ones s.high + ones s.low = ones_cat 64 s.high s.low fits in
      omega (arith, missing_ones_all s c h e)

  pub counted_low : (c n : ℕ) → c < 64 → none_past s c ≡ true → n ≡ ones s.low → missing_of s c + n ≡ c
  counted_low c n b e q =
      let z : ones s.high ≡ 0 = ap ones (past_low_high c b e) ∙ ones_none in
      counted_high c n (omega arith) e (omega arith)

  pub agree_count : (c left n : ℕ) → c ≤ 69 → none_past s c ≡ true → missing_of s c + n ≡ c → eqb (c - n) left ≡ agrees s c left
  agree_count c left n h e q =
      let m : c - n ≡ missing_of s c = omega arith in
      ap (λ (x : ℕ). eqb x left) m
      ∙ ap (λ (t : Bool). t && eqb (missing_of s c) left) (sym e)
      ∙ ap (λ (t : Bool). t && (none_past s c && eqb (missing_of s c) left)) (sym (le-leb c 69 h))

  -- ---- the first that is missing

  reached : (c t : ℕ) → ((j : ℕ) → j < t → digit (value s) j ≡ 1) → (t < 69 → digit (value s) t ≡ 0) → IsFirst s 1 c (min t (min c 69) + 1)
  reached c t below at = record {
    from = omega arith;
    to = omega arith;
    before = λ m a b. in_set s m (number_of_lem m a (omega arith)) (below (m - 1) (omega arith));
    here = λ b. go b (ltb t (min c 69)) refl;
  }
    where
      go : min t (min c 69) + 1 < 1 + c → (u : Bool) → ltb t (min c 69) ≡ u → is_in s (min t (min c 69) + 1) ≡ false
      go b true q =
          let h : t < min c 69 = ltb-true t (min c 69) q in
          let e : min t (min c 69) + 1 ≡ t + 1 = omega arith in
          let p : t + 1 - 1 ≡ t = omega arith in
          ap (is_in s) e ∙ in_free s (t + 1) (number_of_lem (t + 1) (omega arith) (omega arith)) (ap (digit (value s)) p ∙ at (omega arith))
      go b false q =
          let h : min c 69 ≤ t = ltb-false t (min c 69) q in
          in_past_69 s (min t (min c 69) + 1) (omega arith)

  pub first_low : (c t : ℕ) → LowestFree 64 s.low t → t < 64 → IsFirst s 1 c (min t (min c 69) + 1)
  first_low c t f b =
      reached c t
      (λ j h. digit_below s.high s.low 64 fits j (omega arith) ∙ f.below j h)
      (λ h. digit_below s.high s.low 64 fits t b ∙ f.at b)

  pub first_high : (c t u : ℕ) → LowestFree 64 s.low t → 64 ≤ t → LowestFree 8 s.high u → IsFirst s 1 c (min (64 + u) (min c 69) + 1)
  first_high c t u f b g =
      reached c (64 + u) (λ j h. go j h (ltb j 64) refl) (λ h. digit_above s.high s.low 64 fits u ∙ g.at (omega arith))
    where
      go : (j : ℕ) → j < 64 + u → (v : Bool) → ltb j 64 ≡ v → digit (value s) j ≡ 1
      go j h true q = let l : j < 64 = ltb-true j 64 q in digit_below s.high s.low 64 fits j l ∙ f.below j (omega arith)
      go j h false q =
          let l : 64 ≤ j = ltb-false j 64 q in
          let e : j ≡ 64 + (j - 64) = omega arith in
          ap (digit (value s)) e ∙ digit_above s.high s.low 64 fits (j - 64) ∙ g.below (j - 64) (omega arith)
