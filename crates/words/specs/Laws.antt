-- Numbers put into bytes and read back, and fields that are put one after another.
use Rattle.std.specs.Prelude.{ℕ, ◌+◌, ◌*◌, ◌/◌, ◌%◌, ◌≤◌, ◌<◌, ◌≡◌, refl, List, [], ◌∷◌, ◌++◌, length, take, drop}
use Rattle.std.proofs.Common.{arith, sym, ap, ap₂, ◌∙◌, append_assoc, length-append, take_all}
use Rattle.std.proofs.Math.Seq.{paste}
use Rattle.std.proofs.lemmas.List.Edits.{take-paste}
use Rattle.laws.specs.Windows.{drop_paste_after}
use Rattle.words.specs.Words.{low4, low32}

module _ {xs ys : List ℕ} where
  pub both : {x y : ℕ} → x ≡ y → xs ≡ ys → x ∷ xs ≡ y ∷ ys
  both p q = cc

  pub same_byte : (x : ℕ) → xs ≡ ys → x ∷ xs ≡ x ∷ ys
  same_byte x q = both refl q

pub low4_bytes : {xs ys : List ℕ} (n : ℕ) {a b c d : ℕ} → a ≡ n % 256 → b ≡ n / 256 % 256 → c ≡ n / 65536 % 256 → d ≡ n / 16777216 % 256
    → xs ≡ ys → a ∷ b ∷ c ∷ d ∷ xs ≡ low4 n ys
low4_bytes n p q r s e = both p (both q (both r (both s e)))

-- A field put after others: x is in d from at on, and then y after it.
module _ (d : List ℕ) (at : ℕ) (x : List ℕ) (k : ℕ) (y : List ℕ) where
  abbrev n : ℕ
  n = length x

  abbrev m : ℕ
  m = length y

  both_whole : take n x ++ take m y ≡ take (n + m) (x ++ y)
  both_whole =
      ap₂ (λ (a b : List ℕ). a ++ b) (take_all n x (omega arith)) (take_all m y (omega arith))
      ∙ sym (take_all (n + m) (x ++ y) (let e : length (x ++ y) ≡ n + m = length-append x y in omega arith))

  pub next_field : {o o' : List ℕ} → o ≡ paste d at x n → o' ≡ paste o k y m → k ≡ at + n → at + n + m ≤ length d
      → o' ≡ paste d at (x ++ y) (n + m)
  next_field {o} {o'} p q e h =
      let w : at + n + m ≡ at + (n + m) = omega arith in
      q
      ∙ ap (λ (j : ℕ). paste o j y m) e
      ∙ ap (λ (l : List ℕ). paste l (at + n) y m) p
      ∙ ap (λ (l : List ℕ). l ++ take m y ++ drop (at + n + m) (paste d at x n)) (take-paste d at x n (omega arith) (omega arith))
      ∙ ap (λ (l : List ℕ). take at d ++ take n x ++ take m y ++ l) (drop_paste_after d at x n (omega arith) (omega arith) m)
      ∙ ap (λ (l : List ℕ). l ++ drop (at + n + m) d)
      (append_assoc (take at d) (take n x) (take m y) ∙ ap (λ (l : List ℕ). take at d ++ l) both_whole)
      ∙ ap (λ (j : ℕ). take at d ++ take (n + m) (x ++ y) ++ drop j d) w

-- ---- four bytes hold a number below 2^32

abbrev pub four_bytes : ℕ → ℕ
four_bytes n = low32 (low4 n []) 0

four_digits : (n x y z p q r s : ℕ) → n ≡ 256 * x + p → x ≡ 256 * y + q → y ≡ 256 * z + r → s ≡ z → p + 256 * q + 65536 * r + 16777216 * s ≡ n
four_digits n x y z p q r s e f g h = omega arith

by_256 : (n : ℕ) → n ≡ 256 * (n / 256) + n % 256
by_256 n = omega arith

pub low32_read_back : (n : ℕ) → n < 4294967296 → four_bytes n ≡ n
low32_read_back n h =
    let a : n / 256 / 256 ≡ n / 65536 = omega arith in
    let b : n / 65536 / 256 ≡ n / 16777216 = omega arith in
    four_digits n (n / 256) (n / 65536) (n / 16777216) _ _ _ _ (by_256 n)
    (by_256 (n / 256) ∙ ap (λ (y : ℕ). 256 * y + n / 256 % 256) a)
    (by_256 (n / 65536) ∙ ap (λ (y : ℕ). 256 * y + n / 65536 % 256) b)
    (omega arith)
