-- Decimal: 01, "Program", "All numbers decimal". A number's digits as ASCII, most significant first, no more than it needs; 0 is "0".
use Rattle.std.specs.Prelude.{ℕ, zero, suc, ◌+◌, ◌-◌, ◌*◌, ◌/◌, ◌%◌, ◌^◌, ◌<◌, ◌≤◌, ◌≡◌, refl, Bool, true, false, cond, List, [], ◌∷◌, ◌++◌, ltb, length, get_or}
use Rattle.std.proofs.Common.{arith, sym, ap, ◌∙◌, length-append, lt-ltb, le-ltb, ltb-true, ltb-false}
use Rattle.std.proofs.Math.ListN.{get_or-append}
use Rattle.std.proofs.Math.Nat.{pow-succ'}
use Rattle.std.proofs.lemmas.List.{get_or_at}
use Rattle.laws.specs.Choice.{then, else}

-- the last k digits of n
unfoldable pub digits_of : ℕ → ℕ → List ℕ
digits_of zero n = []
digits_of (suc k) n = digits_of k (n / 10) ++ ((48 + n % 10) ∷ [])

-- how many digits n needs, one at least. The first number only ends the count: n is enough for n
unfoldable pub width_from : ℕ → ℕ → ℕ
width_from zero n = 1
width_from (suc f) n = cond (ltb n 10) 1 (suc (width_from f (n / 10)))

unfoldable pub width_of : ℕ → ℕ
width_of n = width_from n n

unfoldable pub decimal : ℕ → List ℕ
decimal n = digits_of (width_of n) n

pub length_digits : (k n : ℕ) → length (digits_of k n) ≡ k
unfolding digits_of
length_digits zero n = refl
length_digits (suc k) n = length-append (digits_of k (n / 10)) _ ∙ (let e : length (digits_of k (n / 10)) ≡ k = length_digits k (n / 10) in omega arith)

pub length_decimal : (n : ℕ) → length (decimal n) ≡ width_of n
unfolding decimal
length_decimal n = length_digits (width_of n) n

-- any end of the count that is enough gives the same
enough : (f g n : ℕ) → n ≤ f → n ≤ g → width_from f n ≡ width_from g n
unfolding width_from
enough zero zero n h k = refl
enough zero (suc g) n h k = then (ltb n 10) _ _ _ (lt-ltb n 10 (omega arith)) refl
enough (suc f) zero n h k = sym (then (ltb n 10) _ _ _ (lt-ltb n 10 (omega arith)) refl)
enough (suc f) (suc g) n h k = ap (λ (w : ℕ). cond (ltb n 10) 1 (suc w)) (enough f g (n / 10) (omega arith) (omega arith))

pub width_small : (n : ℕ) → n < 10 → width_of n ≡ 1
unfolding width_of width_from
width_small n h = enough n (suc n) n (omega arith) (omega arith) ∙ sym (then (ltb n 10) _ _ _ (lt-ltb n 10 h) refl)

pub width_large : (n : ℕ) → 10 ≤ n → width_of n ≡ suc (width_of (n / 10))
unfolding width_of width_from
width_large n h =
    enough n (suc n) n (omega arith) (omega arith)
    ∙ sym (else (ltb n 10) _ _ _ (le-ltb n 10 h) refl)
    ∙ ap suc (enough n (n / 10) (n / 10) (omega arith) (omega arith))

-- by the power of ten that its first digit counts
pub width_power : (k n : ℕ) → 10 ^ k ≤ n → n < 10 * 10 ^ k → width_of n ≡ k + 1
width_power zero n h l = width_small n (omega arith)
width_power (suc k) n h l =
    let p : 10 ^ suc k ≡ 10 * 10 ^ k = pow-succ' 10 k in
    width_large n (omega arith) ∙ ap suc (width_power k (n / 10) (omega arith) (omega arith)) ∙ omega arith

-- a number below 10 is its digit; any other is the digits of a tenth of it, and its last digit
pub decimal_small : (n : ℕ) → n < 10 → decimal n ≡ (48 + n) ∷ []
unfolding decimal digits_of
decimal_small n h =
    let e : n % 10 ≡ n = omega arith in
    ap (λ (w : ℕ). digits_of w n) (width_small n h) ∙ ap (λ (m : ℕ). (48 + m) ∷ []) e

pub decimal_large : (n : ℕ) → 10 ≤ n → decimal n ≡ decimal (n / 10) ++ ((48 + n % 10) ∷ [])
unfolding decimal digits_of
decimal_large n h = ap (λ (w : ℕ). digits_of w n) (width_large n h)

-- two digits, and three
pub decimal_two : (n : ℕ) → 10 ≤ n → n < 100 → decimal n ≡ (48 + n / 10) ∷ (48 + n % 10) ∷ []
decimal_two n h k =
    decimal_large n h ∙ ap (λ (l : List ℕ). l ++ ((48 + n % 10) ∷ [])) (decimal_small (n / 10) (omega arith))

pub decimal_three : (n : ℕ) → 100 ≤ n → n < 1000 → decimal n ≡ (48 + n / 100) ∷ (48 + n / 10 % 10) ∷ (48 + n % 10) ∷ []
decimal_three n h k =
    let e : n / 10 / 10 ≡ n / 100 = omega arith in
    decimal_large n (omega arith)
    ∙ ap (λ (l : List ℕ). l ++ ((48 + n % 10) ∷ [])) (decimal_two (n / 10) (omega arith) (omega arith))
    ∙ ap (λ (m : ℕ). (48 + m) ∷ (48 + n / 10 % 10) ∷ (48 + n % 10) ∷ []) e

-- ---- that this is the decimal form: its digits read back give the number, and the first is no 0 but in "0"

abbrev pub value_from : ℕ → List ℕ → ℕ
value_from v [] = v
value_from v (d ∷ ds) = value_from (v * 10 + (d - 48)) ds

pub record IsDecimal (n : ℕ) (ds : List ℕ) : Type 0 where
  pub value : value_from 0 ds ≡ n
  pub digits : (i : ℕ) → i < length ds → (48 ≤ get_or ds i 0) × (get_or ds i 0 ≤ 57)
  pub some : 1 ≤ length ds
  pub first : 2 ≤ length ds → 49 ≤ get_or ds 0 0

value_last : (v : ℕ) (ds : List ℕ) (x : ℕ) → value_from v (ds ++ (x ∷ [])) ≡ value_from v ds * 10 + (x - 48)
value_last v [] x = refl
value_last v (d ∷ ds) x = value_last (v * 10 + (d - 48)) ds x

module _ (n : ℕ) where
  is_small : n < 10 → IsDecimal n ((48 + n) ∷ [])
  is_small h =
      record {
        value = omega arith;
        digits = λ i g. let e : i ≡ 0 = omega arith in rw e (omega arith, omega arith);
        some = omega arith;
        first = λ g. absurd (omega arith);
      }

  is_large : (ds : List ℕ) → 10 ≤ n → IsDecimal (n / 10) ds → IsDecimal n (ds ++ ((48 + n % 10) ∷ []))
  is_large ds h r =
      let l : length (ds ++ ((48 + n % 10) ∷ [])) ≡ length ds + 1 = length-append ds _ in
      let o : 1 ≤ length ds = r.some in
      let v : value_from 0 ds ≡ n / 10 = r.value in
      record {
        value = value_last 0 ds (48 + n % 10) ∙ omega arith;
        digits = λ i g. at i g (ltb i (length ds)) refl;
        some = omega arith;
        first = λ g. rw (get_or-append ds _ 0 0 o) (lead ds v o r);
      }
    where
      at : (i : ℕ) → i < length (ds ++ ((48 + n % 10) ∷ [])) → (t : Bool) → ltb i (length ds) ≡ t → (48 ≤ get_or (ds ++ ((48 + n % 10) ∷ [])) i 0) × (get_or (ds ++ ((48 + n % 10) ∷ [])) i 0 ≤ 57)
      at i g true e = rw (get_or-append ds _ 0 i (ltb-true _ _ e)) (r.digits i (ltb-true _ _ e))
      at i g false e =
          let l : length (ds ++ ((48 + n % 10) ∷ [])) ≡ length ds + 1 = length-append ds _ in
          let k : length ds ≤ i = ltb-false _ _ e in
          let q : length ds ≡ i = omega arith in
          rw (get_or_at ds (48 + n % 10) [] 0 i q) (omega arith, omega arith)

      lead : (ds : List ℕ) → value_from 0 ds ≡ n / 10 → 1 ≤ length ds → IsDecimal (n / 10) ds → 49 ≤ get_or ds 0 0
      lead [] v o r = absurd (omega arith)
      lead (x ∷ []) v o r = let z : 1 ≤ x - 48 = omega arith in omega arith
      lead (x ∷ y ∷ ds) v o r = r.first (omega arith)

right_turn : (n : ℕ) → (10 ≤ n → IsDecimal (n / 10) (decimal (n / 10))) → (t : Bool) → ltb n 10 ≡ t → IsDecimal n (decimal n)
right_turn n r true e = rw (decimal_small n (ltb-true _ _ e)) (is_small n (ltb-true _ _ e))
right_turn n r false e = let g : 10 ≤ n = ltb-false _ _ e in rw (decimal_large n g) (is_large n (decimal (n / 10)) g (r g))

right_to : (f n : ℕ) → n ≤ f → IsDecimal n (decimal n)
right_to zero n h = right_turn n (λ g. absurd (omega arith)) (ltb n 10) refl
right_to (suc f) n h = right_turn n (λ g. right_to f (n / 10) (omega arith)) (ltb n 10) refl

pub decimal_right : (n : ℕ) → IsDecimal n (decimal n)
decimal_right n = right_to n n (omega arith)
