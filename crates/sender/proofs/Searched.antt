-- What a search by number finds, beside the definitions that recurse on the list of the transfers.
use Rattle.std.specs.Prelude.{ℕ, zero, suc, ◌+◌, ◌-◌, ◌<◌, ◌≤◌, ◌≡◌, refl, Bool, true, false, ◌&&◌, ◌||◌, List, [], ◌∷◌, length, get_or, drop, None, Option}
use Rattle.std.specs.Bool.{MatchBool}
use Rattle.std.specs.List.{AllWithin, HoldsAt, range_with_len}
use Rattle.std.proofs.Common.{arith, sym, subst, get_or-drop, length-drop, add-one}
use Rattle.std.proofs.lemmas.List.FromFn.{length-range_with_len, get_or-range_with_len}
use Rattle.transport.specs.declared.Key.{Key}
use Rattle.transfer.specs.declared.Transfer.{Transfer}
use Rattle.sender.specs.Transfers.{holds, any_holds, one_ok, transfers_ok}

-- ---- the numbers of a range

module _ (P : ℕ → Type 0) (a n : ℕ) where
  abbrev all : List ℕ
  all = range_with_len a n

  each_of_range : AllWithin P all 0 (length all) → (k : ℕ) → a ≤ k → k < a + n → P k
  each_of_range h k low high =
      subst P {x = get_or all (k - a) 0} {y = k} (omega (arith, get_or-range_with_len a n (k - a) 0 (omega arith)))
      (h (k - a) 0 (omega arith) (omega (arith, length-range_with_len a n)))

  some_of_range : (k : ℕ) × (k < length all) × HoldsAt P all k → (k : ℕ) × (a ≤ k) × (k < a + n) × P k
  some_of_range h =
      let low : h.0 < n = omega (arith, h.1, length-range_with_len a n) in
      (a + h.0, omega arith, omega arith, subst P (get_or-range_with_len a n h.0 0 low) (h.2 0))

-- ---- whether some transfer holds a key

module _ (k : Key) where
  any_false : (l : List (Option Transfer)) → ((i : ℕ) → i < length l → holds k (get_or l i None) ≡ false) → any_holds k l ≡ false
  any_false [] h = refl
  any_false (x ∷ l) h = rw (h 0 (omega arith)) (any_false l (λ i g. h (suc i) (omega arith)))

  any_true : (l : List (Option Transfer)) (i : ℕ) → i < length l → holds k (get_or l i None) ≡ true → any_holds k l ≡ true
  any_true [] i h e = absurd (omega arith)
  any_true (x ∷ l) zero h e = rw e refl
  any_true (x ∷ l) (suc i) h e = rw (any_true l i (omega arith) e) (go (holds k x))
    where
      go : (t : Bool) → (t || true) ≡ true
      go true = refl
      go false = refl

  module _ (ts : List (Option Transfer)) (from n : ℕ) (whole : from + n ≡ length ts) where
    abbrev Yes : ℕ → Type 0
    Yes i = holds k (get_or ts i None) ≡ true

    abbrev No : ℕ → Type 0
    No i = holds k (get_or ts i None) ≡ false

    pub any_found : (r : Bool) → MatchBool r ((i : ℕ) × (i < length (range_with_len from n)) × HoldsAt Yes (range_with_len from n) i) (AllWithin No (range_with_len from n) 0 (length (range_with_len from n)))
        → r ≡ any_holds k (drop from ts)
    any_found true h =
        let w = some_of_range Yes from n h in
        let e : from + (w.0 - from) ≡ w.0 = omega (arith, w.1) in
        let low : w.0 < from + n = w.2 in
        sym (any_true (drop from ts) (w.0 - from) (omega (arith, length-drop from ts)) (rw (get_or-drop from ts (w.0 - from) None, e) w.3))
    any_found false h = sym (any_false (drop from ts) (λ i g. rw (get_or-drop from ts i None) (each_of_range No from n h (from + i) (omega arith) (omega (arith, length-drop from ts)))))

-- ---- whether all are as they have to be

all_true : (l : List (Option Transfer)) → ((i : ℕ) → i < length l → one_ok (get_or l i None) (drop (suc i) l) ≡ true) → transfers_ok l ≡ true
all_true [] h = refl
all_true (x ∷ l) h = rw (h 0 (omega arith)) (all_true l (λ i g. h (suc i) (omega arith)))

all_false : (l : List (Option Transfer)) (i : ℕ) → i < length l → one_ok (get_or l i None) (drop (suc i) l) ≡ false → transfers_ok l ≡ false
all_false [] i h e = absurd (omega arith)
all_false (x ∷ l) zero h e = rw e refl
all_false (x ∷ l) (suc i) h e = rw (all_false l i (omega arith) e) (go (one_ok x l))
  where
    go : (t : Bool) → (t && false) ≡ false
    go true = refl
    go false = refl

module _ (ts : List (Option Transfer)) where
  abbrev Good : ℕ → Type 0
  Good i = one_ok (get_or ts i None) (drop (i + 1) ts) ≡ true

  abbrev Bad : ℕ → Type 0
  Bad i = one_ok (get_or ts i None) (drop (i + 1) ts) ≡ false

  pub all_found : (n : ℕ) (r : Bool) → n ≡ length ts → MatchBool r (AllWithin Good (range_with_len 0 n) 0 (length (range_with_len 0 n))) ((i : ℕ) × (i < length (range_with_len 0 n)) × HoldsAt Bad (range_with_len 0 n) i)
      → r ≡ transfers_ok ts
  all_found n true whole h = sym (all_true ts (λ i g. rw (← add-one i) (each_of_range Good 0 n h i (omega arith) (omega arith))))
  all_found n false whole h =
      let w = some_of_range Bad 0 n h in
      let low : w.0 < 0 + n = w.2 in
      sym (all_false ts w.0 (omega arith) (rw (← add-one w.0) w.3))
