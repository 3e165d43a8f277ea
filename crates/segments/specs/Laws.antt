-- What holds of the record of segments. Nothing here needs to be believed.
use Prim.Native.Nat.{ℕ, zero, suc, ◌+◌, ◌-◌, ◌*◌, ◌%◌, ◌^◌, ◌≤◌, ◌<◌, min}
use Rattle.std.specs.Prelude.{◌≡◌, Bool, not, ◌&&◌, ◌||◌, leb, ltb}
use Rattle.std.proofs.Math.Path.{refl, ap}
use mathlib.Mathlib.Data.Bool.Basic.{and_elim_left, and_elim_right}
use Rattle.std.proofs.Common.{sym, ◌∙◌, add_assoc, mod-eq_of_lt, zero-add, add-zero, suc-add, add-one, arith, pow-add, pow_mono, pow_pos}
use Rattle.std.proofs.Math.Bool.{true, false, cond, or-true, or-false}
use Rattle.std.proofs.lemmas.Bool.{false≢true}
use Rattle.std.proofs.Math.Nat.{zero-div, div-eq_of_lt, lt_of_lt_of_le, mod-one}
use Rattle.std.proofs.Math.Dec.{eqb}
use Rattle.std.specs.Int.Count.{ones}
use borrow.Author.Tests.{eqb-true, eqb-false, eq-eqb, ne_eqb, leb-true, le-leb, lt-leb, ltb-true, ltb-false, lt-ltb}
use Rattle.segments.specs.declared.Segments.{Segments}
use Rattle.segments.specs.Digits.{digit, digit_lt, digit_below, digit_above, digit_added, added_lt, shorter, ones_next}
use Rattle.segments.specs.Model.{value, is_number, is_in, none_in, with_digit, put_in, missing_of, none_past, first_from, first_missing, run_from, run_of, agrees}

-- ---- numbers of segments

pub number_of_lem : (n : ℕ) → 1 ≤ n → n ≤ 69 → is_number n ≡ true
number_of_lem n a b = rw (le-leb 1 n a, le-leb n 69 b)

pub number_from : (n : ℕ) → is_number n ≡ true → (1 ≤ n) × (n ≤ 69)
number_from n e = (leb-true 1 n (and_elim_left (leb 1 n) (leb n 69) e), leb-true n 69 (and_elim_right (leb 1 n) (leb n 69) e))

pub number_not : (n : ℕ) → 69 < n → is_number n ≡ false
number_not n h = rw (le-leb 1 n (omega arith), lt-leb n 69 h)

-- a segment is in or not by its digit
module _ (s : Segments) (n : ℕ) (h : is_number n ≡ true) where
  pub in_digit : is_in s n ≡ eqb (digit (value s) (n - 1)) 1
  unfolding is_in
  in_digit = ap (λ (t : Bool). t && eqb (digit (value s) (n - 1)) 1) h

  pub in_set : digit (value s) (n - 1) ≡ 1 → is_in s n ≡ true
  in_set e = in_digit ∙ eq-eqb (digit (value s) (n - 1)) 1 e

  pub in_free : digit (value s) (n - 1) ≡ 0 → is_in s n ≡ false
  in_free e = in_digit ∙ ne_eqb (digit (value s) (n - 1)) 1 (omega arith)

  free_digit : is_in s n ≡ false → digit (value s) (n - 1) ≡ 0
  free_digit e =
      let z : digit (value s) (n - 1) ≡ 1 → ⊥ = eqb-false (digit (value s) (n - 1)) 1 (sym in_digit ∙ e) in
      omega (arith, digit_lt (value s) (n - 1))

pub in_no_number : (s : Segments) (n : ℕ) → is_number n ≡ false → is_in s n ≡ false
unfolding is_in
in_no_number s n h = ap (λ (t : Bool). t && eqb (digit (value s) (n - 1)) 1) h

pub in_past_69 : (s : Segments) (n : ℕ) → 69 < n → is_in s n ≡ false
in_past_69 s n h = in_no_number s n (number_not n h)

-- ---- none in

pub none_in_lem : (n : ℕ) → is_in none_in n ≡ false
unfolding digit
none_in_lem n = go (is_number n) refl
  where
    go : (b : Bool) → is_number n ≡ b → is_in none_in n ≡ false
    go true e = in_free none_in n e (ap (λ (x : ℕ). x % 2) (zero-div (2 ^ (n - 1))))
    go false e = in_no_number none_in n e

-- ---- put

with_value : (s : Segments) (k : ℕ) → value (with_digit s k) ≡ value s + 2 ^ k
with_value s k = go (ltb k 64) refl
  where
    go : (b : Bool) → ltb k 64 ≡ b → value (with_digit s k) ≡ value s + 2 ^ k
    go true e = rw e (sym (add_assoc (s.high * 2 ^ 64) s.low (2 ^ k)))
    go false e =
        let h : 64 ≤ k = ltb-false k 64 e in
        let p : 2 ^ k ≡ 2 ^ (k - 64) * 2 ^ 64 = ap (λ (x : ℕ). 2 ^ x) (omega arith) ∙ pow-add 2 (k - 64) 64 in
        rw e (omega arith)

module _ (s : Segments) (n : ℕ) where
  -- what is no segment's number is not put in
  pub put_no_number : is_number n ≡ false → put_in s n ≡ s
  put_no_number e = ap (λ (t : Bool). cond (t && not (is_in s n)) (with_digit s (n - 1)) s) e

  -- what is in already changes nothing
  pub put_again : is_number n ≡ true → is_in s n ≡ true → put_in s n ≡ s
  put_again h e =
      ap (λ (t : Bool). cond (t && not (is_in s n)) (with_digit s (n - 1)) s) h
      ∙ ap (λ (t : Bool). cond (not t) (with_digit s (n - 1)) s) e

  pub put_new : is_number n ≡ true → is_in s n ≡ false → put_in s n ≡ with_digit s (n - 1)
  put_new h e =
      ap (λ (t : Bool). cond (t && not (is_in s n)) (with_digit s (n - 1)) s) h
      ∙ ap (λ (t : Bool). cond (not t) (with_digit s (n - 1)) s) e

  put_value : is_number n ≡ true → is_in s n ≡ false → value (put_in s n) ≡ value s + 2 ^ (n - 1)
  put_value h e = ap value (put_new h e) ∙ with_value s (n - 1)

module _ (s : Segments) (n : ℕ) (h : is_number n ≡ true) where
  put_digit : is_in s n ≡ false → (k : ℕ) → digit (value (put_in s n)) k ≡ cond (eqb k (n - 1)) 1 (digit (value s) k)
  put_digit e k = ap (λ (x : ℕ). digit x k) (put_value s n h e) ∙ digit_added (value s) (n - 1) (free_digit s n h e) k

  pub in_put_same : is_in (put_in s n) n ≡ true
  in_put_same = go (is_in s n) refl
    where
      go : (a : Bool) → is_in s n ≡ a → is_in (put_in s n) n ≡ true
      go true e = ap (λ (x : Segments). is_in x n) (put_again s n h e) ∙ e
      go false e =
          in_set (put_in s n) n h
          (put_digit e (n - 1) ∙ ap (λ (t : Bool). cond t 1 (digit (value s) (n - 1))) (eq-eqb (n - 1) (n - 1) refl))

  pub in_put_other : (m : ℕ) → (m ≡ n → ⊥) → is_in (put_in s n) m ≡ is_in s m
  in_put_other m d = go (is_in s n) refl (is_number m) refl
    where
      go : (a : Bool) → is_in s n ≡ a → (c : Bool) → is_number m ≡ c → is_in (put_in s n) m ≡ is_in s m
      go true e c r = ap (λ (x : Segments). is_in x m) (put_again s n h e)
      go false e false r = in_no_number (put_in s n) m r ∙ sym (in_no_number s m r)
      go false e true r =
          let apart : eqb (m - 1) (n - 1) ≡ false = ne_eqb (m - 1) (n - 1) (λ q. d (omega (arith, number_from m r, number_from n h))) in
          let same : digit (value (put_in s n)) (m - 1) ≡ digit (value s) (m - 1) =
          put_digit e (m - 1) ∙ ap (λ (t : Bool). cond t 1 (digit (value s) (m - 1))) apart in
          in_digit (put_in s n) m r ∙ ap (λ (x : ℕ). eqb x 1) same ∙ sym (in_digit s m r)

  -- segment n is in once it was put in, and any other where it was before
  pub in_put : (m : ℕ) → is_in (put_in s n) m ≡ (is_in s m || eqb m n)
  in_put m = go (eqb m n) refl
    where
      go : (b : Bool) → eqb m n ≡ b → is_in (put_in s n) m ≡ (is_in s m || eqb m n)
      go true e =
          ap (is_in (put_in s n)) (eqb-true m n e) ∙ in_put_same ∙ sym (or-true (is_in s m)) ∙ ap (λ (t : Bool). is_in s m || t) (sym e)
      go false e = in_put_other m (eqb-false m n e) ∙ sym (or-false (is_in s m)) ∙ ap (λ (t : Bool). is_in s m || t) (sym e)

-- both numbers keep their width
module _ (s : Segments) (low : s.low < 2 ^ 64) (high : s.high < 2 ^ 8) where
  with_digit_fits : (k : ℕ) → k < 69 → digit (value s) k ≡ 0 → ((with_digit s k).low < 2 ^ 64) × ((with_digit s k).high < 2 ^ 8)
  with_digit_fits k b d = go (ltb k 64) refl
    where
      go : (t : Bool) → ltb k 64 ≡ t
          → let r : Segments = cond t (record { low = s.low + 2 ^ k; high = s.high }) (record { low = s.low; high = s.high + 2 ^ (k - 64) }) in
          (r.low < 2 ^ 64) × (r.high < 2 ^ 8)
      go true e =
          let u : k < 64 = ltb-true k 64 e in
          (added_lt s.low k (sym (digit_below s.high s.low 64 low k u) ∙ d) 64 u low, high)
      go false e =
          let u : 64 ≤ k = ltb-false k 64 e in
          let same : 64 + (k - 64) ≡ k = omega arith in
          let free : digit s.high (k - 64) ≡ 0 = sym (digit_above s.high s.low 64 low (k - 64)) ∙ ap (digit (value s)) same ∙ d in
          (low, added_lt s.high (k - 64) free 8 (omega arith) high)

  pub put_fits : (n : ℕ) → ((put_in s n).low < 2 ^ 64) × ((put_in s n).high < 2 ^ 8)
  put_fits n = go (is_number n) refl (is_in s n) refl
    where
      go : (t : Bool) → is_number n ≡ t → (u : Bool) → is_in s n ≡ u → ((put_in s n).low < 2 ^ 64) × ((put_in s n).high < 2 ^ 8)
      go false e u f = rw (put_no_number s n e) (low, high)
      go true e true f = rw (put_again s n e f) (low, high)
      go true e false f = rw (put_new s n e f) (with_digit_fits (n - 1) (omega (arith, number_from n e)) (free_digit s n e f))

-- ---- how many are missing

pub missing_none : (c : ℕ) → missing_of none_in c ≡ c
unfolding missing_of
missing_none zero = refl
missing_none (suc c) = rw (none_in_lem (suc c), missing_none c) (add-one c)

missing_same : (s t : Segments) (c : ℕ) → ((m : ℕ) → m ≤ c → is_in s m ≡ is_in t m) → missing_of s c ≡ missing_of t c
unfolding missing_of
missing_same s t zero f = refl
missing_same s t (suc c) f = rw (f (suc c) (omega arith), missing_same s t c (λ m b. f m (omega arith)))

module _ (s : Segments) (n : ℕ) (h : is_number n ≡ true) where
  -- what lies past c does not count
  pub missing_put_past : (c : ℕ) → c < n → missing_of (put_in s n) c ≡ missing_of s c
  missing_put_past c b = missing_same (put_in s n) s c (λ m l. in_put_other s n h m (omega arith))

  -- one less is missing once a segment is put in that was not in
  pub missing_put : (c : ℕ) → n ≤ c → is_in s n ≡ false → missing_of (put_in s n) c + 1 ≡ missing_of s c
  unfolding missing_of
  missing_put zero l e = omega (arith, number_from n h)
  missing_put (suc c) l e = go (eqb n (suc c)) refl (missing_put c)
    where
      go : (b : Bool) → eqb n (suc c) ≡ b → (n ≤ c → is_in s n ≡ false → missing_of (put_in s n) c + 1 ≡ missing_of s c)
          → missing_of (put_in s n) c + cond (is_in (put_in s n) (suc c)) 0 1 + 1 ≡ missing_of s c + cond (is_in s (suc c)) 0 1
      go true q f =
          let same : n ≡ suc c = eqb-true n (suc c) q in
          rw (ap (is_in (put_in s n)) (sym same) ∙ in_put_same s n h, ap (is_in s) (sym same) ∙ e) (omega (arith, missing_put_past c (omega arith)))
      go false q f =
          let d : n ≡ suc c → ⊥ = eqb-false n (suc c) q in
          let less : missing_of (put_in s n) c + 1 ≡ missing_of s c = f (omega arith) e in
          rw (in_put_other s n h (suc c) (λ z. d (sym z))) (omega arith)

-- none is missing just where all are in
pub missing_zero : (s : Segments) (c : ℕ) → missing_of s c ≡ 0 → (n : ℕ) → 1 ≤ n → n ≤ c → is_in s n ≡ true
unfolding missing_of
missing_zero s zero e n a b = absurd (omega arith)
missing_zero s (suc c) e n a b = go (is_in s (suc c)) refl e (eqb n (suc c)) refl (missing_zero s c)
  where
    go : (t : Bool) → is_in s (suc c) ≡ t → missing_of s c + cond t 0 1 ≡ 0 → (u : Bool) → eqb n (suc c) ≡ u
        → (missing_of s c ≡ 0 → (n : ℕ) → 1 ≤ n → n ≤ c → is_in s n ≡ true) → is_in s n ≡ true
    go true p q true r f = ap (is_in s) (eqb-true n (suc c) r) ∙ p
    go true p q false r f = let d : n ≡ suc c → ⊥ = eqb-false n (suc c) r in f (omega arith) n a (omega arith)
    go false p q u r f = absurd (omega arith)

pub zero_missing : (s : Segments) (c : ℕ) → ((n : ℕ) → 1 ≤ n → n ≤ c → is_in s n ≡ true) → missing_of s c ≡ 0
unfolding missing_of
zero_missing s zero f = refl
zero_missing s (suc c) f = rw (f (suc c) (omega arith) (omega arith), zero_missing s c (λ n a b. f n a (omega arith)))

-- the count by the digits that are set
pub ones_none : ones 0 ≡ 0
unfolding ones
ones_none = refl

one_or_other : (d : ℕ) → d < 2 → cond (eqb d 1) 0 1 + d ≡ 1
one_or_other zero b = refl
one_or_other (suc zero) b = refl
one_or_other (suc (suc d)) b = omega arith

pub missing_ones : (s : Segments) (c : ℕ) → c ≤ 69 → missing_of s c + ones (value s % 2 ^ c) ≡ c
unfolding missing_of
missing_ones s zero b = rw (mod-one (value s), ones_none)
missing_ones s (suc c) b =
    let e : is_in s (suc c) ≡ eqb (digit (value s) c) 1 =
    in_digit s (suc c) (number_of_lem (suc c) (omega arith) b) ∙ ap (λ (x : ℕ). eqb (digit (value s) x) 1) (omega arith) in
    let one : cond (is_in s (suc c)) 0 1 + digit (value s) c ≡ 1 =
    ap (λ (t : Bool). cond t 0 1 + digit (value s) c) e ∙ one_or_other (digit (value s) c) (digit_lt (value s) c) in
    omega (arith, ones_next (value s) c, missing_ones s c (omega arith))

missing_next : (s : Segments) (c : ℕ) → 69 ≤ c → missing_of s (suc c) ≡ missing_of s c + 1
unfolding missing_of
missing_next s c b = ap (λ (t : Bool). missing_of s c + cond t 0 1) (in_past_69 s (suc c) (omega arith))

missing_more : (s : Segments) (k : ℕ) → missing_of s (k + 69) ≡ missing_of s 69 + k
missing_more s zero = rw (zero-add, add-zero)
missing_more s (suc k) = ap (missing_of s) (suc-add k 69) ∙ missing_next s (k + 69) (omega arith) ∙ omega (arith, missing_more s k)

-- past 69 nothing is in, so each number there counts as missing
pub missing_ones_past : (s : Segments) (c : ℕ) → 69 ≤ c → missing_of s c + ones (value s % 2 ^ 69) ≡ c
missing_ones_past s c b =
    let e : c ≡ c - 69 + 69 = omega arith in
    let more : missing_of s c ≡ missing_of s 69 + (c - 69) = ap (missing_of s) e ∙ missing_more s (c - 69) in
    omega (arith, missing_ones s 69 (omega arith))

-- where nothing is past c, the count over the whole record does
pub missing_ones_all : (s : Segments) (c : ℕ) → c ≤ 69 → none_past s c ≡ true → missing_of s c + ones (value s) ≡ c
missing_ones_all s c b h = ap (λ (x : ℕ). missing_of s c + ones x) (sym (mod-eq_of_lt (ltb-true (value s) (2 ^ c) h))) ∙ missing_ones s c b

-- ---- nothing past c

pub none_past_none : (c : ℕ) → none_past none_in c ≡ true
none_past_none c = lt-ltb 0 (2 ^ c) (pow_pos c)

module _ (s : Segments) (c : ℕ) where
  pub none_past_in : none_past s c ≡ true → (n : ℕ) → c < n → is_in s n ≡ false
  unfolding digit
  none_past_in h n b = go (is_number n) refl
    where
      go : (t : Bool) → is_number n ≡ t → is_in s n ≡ false
      go true e =
          let small : value s < 2 ^ (n - 1) = lt_of_lt_of_le (ltb-true (value s) (2 ^ c) h) (pow_mono (omega arith)) in
          in_free s n e (ap (λ (x : ℕ). x % 2) (div-eq_of_lt small))
      go false e = in_no_number s n e

  -- a segment that the message has, put in, leaves it so
  pub none_past_put : none_past s c ≡ true → (n : ℕ) → n ≤ c → none_past (put_in s n) c ≡ true
  none_past_put h n b = go (is_number n) refl (is_in s n) refl
    where
      go : (t : Bool) → is_number n ≡ t → (u : Bool) → is_in s n ≡ u → none_past (put_in s n) c ≡ true
      go false e u g = ap (λ (x : Segments). none_past x c) (put_no_number s n e) ∙ h
      go true e true g = ap (λ (x : Segments). none_past x c) (put_again s n e g) ∙ h
      go true e false g =
          ap (λ (x : ℕ). ltb x (2 ^ c)) (put_value s n e g)
          ∙ lt-ltb (value s + 2 ^ (n - 1)) (2 ^ c) (added_lt (value s) (n - 1) (free_digit s n e g) c (omega (arith, number_from n e)) (ltb-true (value s) (2 ^ c) h))

-- nothing past 69, and none of the segments past c in: nothing past c
past_down : (s : Segments) (c k : ℕ) → c + k ≤ 69 → none_past s (c + k) ≡ true → ((n : ℕ) → c < n → is_in s n ≡ false) → none_past s c ≡ true
past_down s c zero b h f = ap (none_past s) (sym (add-zero c)) ∙ h
past_down s c (suc k) b h f =
    let e : c + suc k ≡ 1 + (c + k) = omega arith in
    let p : c + suc k - 1 ≡ c + k = omega arith in
    let d : digit (value s) (c + k) ≡ 0 =
    ap (digit (value s)) (sym p) ∙ free_digit s (c + suc k) (number_of_lem (c + suc k) (omega arith) b) (f (c + suc k) (omega arith)) in
    let v : value s < 2 ^ (1 + (c + k)) = ltb-true (value s) (2 ^ (1 + (c + k))) (ap (none_past s) (sym e) ∙ h) in
    past_down s c k (omega arith) (lt-ltb (value s) (2 ^ (c + k)) (shorter (value s) (c + k) d v)) f

pub in_none_past : (s : Segments) (c : ℕ) → c ≤ 69 → none_past s 69 ≡ true → ((n : ℕ) → c < n → is_in s n ≡ false) → none_past s c ≡ true
in_none_past s c b h f =
    let e : 69 ≡ c + (69 - c) = omega arith in
    past_down s c (69 - c) (omega arith) (ap (none_past s) (sym e) ∙ h) f

-- ---- the state check

pub agree_of : (s : Segments) (c left : ℕ) → c ≤ 69 → none_past s c ≡ true → missing_of s c ≡ left → agrees s c left ≡ true
agree_of s c left b h e = rw (le-leb c 69 b, h, eq-eqb (missing_of s c) left e)

pub record Agreed (s : Segments) (c left : ℕ) : Type 0 where
  pub most : c ≤ 69
  pub past : none_past s c ≡ true
  pub missing : missing_of s c ≡ left

pub agreed : (s : Segments) (c left : ℕ) → agrees s c left ≡ true → Agreed s c left
agreed s c left e =
    let r = and_elim_right (leb c 69) (none_past s c && eqb (missing_of s c) left) e in record {
      most = leb-true c 69 (and_elim_left (leb c 69) (none_past s c && eqb (missing_of s c) left) e);
      past = and_elim_left (none_past s c) (eqb (missing_of s c) left) r;
      missing = eqb-true (missing_of s c) left (and_elim_right (none_past s c) (eqb (missing_of s c) left) r);
    }

-- a message of c segments starts so
pub agree_none : (c : ℕ) → c ≤ 69 → agrees none_in c c ≡ true
agree_none c b = agree_of none_in c c b (none_past_none c) (missing_none c)

-- and stays so with each segment that is new: then one was missing, and one less is
pub agree_put : (s : Segments) (c left n : ℕ) → agrees s c left ≡ true → 1 ≤ n → n ≤ c → is_in s n ≡ false → (1 ≤ left) × (agrees (put_in s n) c (left - 1) ≡ true)
agree_put s c left n h a b e =
    let g = agreed s c left h in
    let less : missing_of (put_in s n) c + 1 ≡ missing_of s c = missing_put s n (number_of_lem n a (omega arith)) c b e in
    let one : 1 ≤ left = omega (arith, g.missing) in
    let rest : missing_of (put_in s n) c ≡ left - 1 = omega (arith, g.missing) in
    (one, agree_of (put_in s n) c (left - 1) g.most (none_past_put s c g.past n b) rest)

-- ---- the first that is missing

-- what the first of the k segments from n on that is not in is known by
pub record IsFirst (s : Segments) (n k r : ℕ) : Type 0 where
  pub from : n ≤ r
  pub to : r ≤ n + k
  pub before : (m : ℕ) → n ≤ m → m < r → is_in s m ≡ true
  pub here : r < n + k → is_in s r ≡ false

pub first_is : (s : Segments) (n k : ℕ) → IsFirst s n k (first_from s n k)
unfolding first_from
first_is s n zero = record { from = omega arith; to = omega arith; before = λ m a b. absurd (omega arith); here = λ b. absurd (omega arith) }
first_is s n (suc k) = go (is_in s n) refl (first_is s (n + 1) k)
  where
    go : (t : Bool) → is_in s n ≡ t → IsFirst s (n + 1) k (first_from s (n + 1) k) → IsFirst s n (suc k) (cond t (first_from s (n + 1) k) n)
    go true e f = record {
      from = omega arith;
      to = omega arith;
      before = λ m a b. at m a b (eqb m n) refl;
      here = λ b. f.here (omega arith);
    }
      where
        at : (m : ℕ) → n ≤ m → m < first_from s (n + 1) k → (u : Bool) → eqb m n ≡ u → is_in s m ≡ true
        at m a b true q = ap (is_in s) (eqb-true m n q) ∙ e
        at m a b false q = let d : m ≡ n → ⊥ = eqb-false m n q in f.before m (omega arith) b
    go false e f = record { from = omega arith; to = omega arith; before = λ m a b. absurd (omega arith); here = λ b. e }

first_lt : (s : Segments) (n k r q : ℕ) → IsFirst s n k r → IsFirst s n k q → r < q → ⊥
first_lt s n k r q f g b =
    false≢true (sym (f.here (omega (arith, g.to))) ∙ g.before r f.from b)

pub first_unique : (s : Segments) (n k r q : ℕ) → IsFirst s n k r → IsFirst s n k q → r ≡ q
first_unique s n k r q f g =
    let a : r < q → ⊥ = first_lt s n k r q f g in
    let b : q < r → ⊥ = first_lt s n k q r g f in
    omega arith

-- past 69 nothing is in
pub first_few : (s : Segments) (c : ℕ) → first_missing s c ≤ 70
first_few s c =
    let f = first_is s 1 c in
    let no : 70 < first_missing s c → ⊥ = λ h. false≢true (sym (in_past_69 s 70 (omega arith)) ∙ f.before 70 (omega arith) h) in
    omega arith

-- something is missing just where the first missing one is not past c
pub first_missing_lem : (s : Segments) (c : ℕ) → 0 < missing_of s c → first_missing s c ≤ c
first_missing_lem s c h =
    let f = first_is s 1 c in
    let d : c < first_missing s c → ⊥ = λ b. let z : missing_of s c ≡ 0 = zero_missing s c (λ n a l. f.before n a (omega arith)) in omega arith in
    omega arith

-- ---- a run of missing ones

pub record IsRun (s : Segments) (n k r : ℕ) : Type 0 where
  pub most : r ≤ k
  pub missing : (m : ℕ) → n ≤ m → m < n + r → is_in s m ≡ false
  pub ends : r < k → is_in s (n + r) ≡ true

pub run_is : (s : Segments) (n k : ℕ) → IsRun s n k (run_from s n k)
unfolding run_from
run_is s n zero = record { most = omega arith; missing = λ m a b. absurd (omega arith); ends = λ b. absurd (omega arith) }
run_is s n (suc k) = go (is_in s n) refl (run_is s (n + 1) k)
  where
    go : (t : Bool) → is_in s n ≡ t → IsRun s (n + 1) k (run_from s (n + 1) k) → IsRun s n (suc k) (cond t 0 (1 + run_from s (n + 1) k))
    go true e f = record { most = omega arith; missing = λ m a b. absurd (omega arith); ends = λ b. ap (is_in s) (add-zero n) ∙ e }
    go false e f = record {
      most = omega (arith, f.most);
      missing = λ m a b. at m a b (eqb m n) refl;
      ends = λ b. ap (is_in s) (sym (add_assoc n 1 (run_from s (n + 1) k))) ∙ f.ends (omega arith);
    }
      where
        at : (m : ℕ) → n ≤ m → m < n + (1 + run_from s (n + 1) k) → (u : Bool) → eqb m n ≡ u → is_in s m ≡ false
        at m a b true q = ap (is_in s) (eqb-true m n q) ∙ e
        at m a b false q = let d : m ≡ n → ⊥ = eqb-false m n q in f.missing m (omega arith) (omega arith)

run_lt : (s : Segments) (n k r q : ℕ) → IsRun s n k r → IsRun s n k q → r < q → ⊥
run_lt s n k r q f g b =
    false≢true (sym (g.missing (n + r) (omega arith) (omega arith)) ∙ f.ends (omega (arith, g.most)))

pub run_unique : (s : Segments) (n k r q : ℕ) → IsRun s n k r → IsRun s n k q → r ≡ q
run_unique s n k r q f g =
    let a : r < q → ⊥ = run_lt s n k r q f g in
    let b : q < r → ⊥ = run_lt s n k q r g f in
    omega arith

-- no segment from n on is in
abbrev pub NoneFrom : Segments → ℕ → Type 0
NoneFrom s n = (m : ℕ) → n ≤ m → is_in s m ≡ false

-- z segments from n on are missing, and the next is in
pub record Gap (s : Segments) (n z : ℕ) : Type 0 where
  pub missing : (m : ℕ) → n ≤ m → m < n + z → is_in s m ≡ false
  pub ends : is_in s (n + z) ≡ true

-- the run from n on that is asked for: at most m, none past c, none of them in
pub run_of_lem : (s : Segments) (n c m : ℕ) → 1 ≤ n → n ≤ c → IsRun s n (min m (c + 1 - n)) (run_of s n c m)
run_of_lem s n c m a b = rw (le-leb 1 n a, le-leb n c b) (run_is s n (min m (c + 1 - n)))

-- where something is missing, the run from the first missing one on has at least one, if one may be asked for
pub run_some : (s : Segments) (c m : ℕ) → 0 < missing_of s c → 1 ≤ m → 1 ≤ run_of s (first_missing s c) c m
run_some s c m h b =
    let f = first_is s 1 c in
    let i : first_missing s c ≤ c = first_missing_lem s c h in
    let r = run_of_lem s (first_missing s c) c m f.from i in
    let d : run_of s (first_missing s c) c m < 1 → ⊥ = λ l.
    let z : run_of s (first_missing s c) c m ≡ 0 = omega arith in
    let at : first_missing s c + run_of s (first_missing s c) c m ≡ first_missing s c = omega arith in
    false≢true (sym (f.here (omega arith)) ∙ ap (is_in s) (sym at) ∙ r.ends (omega arith)) in
    omega arith
