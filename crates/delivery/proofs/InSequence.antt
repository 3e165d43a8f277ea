-- The data taken of a message whose segments came in sequence. It knows the rules' data taken, and no session.
use Prim.Native.Nat.{ℕ, zero, suc, ◌+◌, ◌/◌, ◌≤◌, ◌<◌}
use mathlib.Core.Path.{◌≡◌, refl, ap}
use mathlib.Core.Logic.{◌⊎◌, inl, inr}
use mathlib.Core.Bool.{true, false, ◌||◌}
use mathlib.Mathlib.Data.Bool.Basic.{or_inl, or_inr}
use mathlib.Core.List.{List, [], ◌∷◌}
use native.Mathlib.Omega.{arith}
use native.Mathlib.Decide.{ℕ_discrete}
use lib.Dec.{eqb, ltb}
use lib.ListN.{length}
use borrow.Author.Tests.{eqb-true, eq-eqb, lt-ltb, ltb-true}
use Rattle.laws.specs.Bools.{clash, not_passed, or_either, same_test}
use Rattle.isolation.specs.Rules.{Piece, is_taken, joined}
use Rattle.isolation.proofs.Pieces.{window}
use Rattle.isolation.proofs.Gathered.{Gathered, joined_whole}

-- the segments 1 to n, the latest first
unfoldable pub cut : ℕ → ℕ → List ℕ → List Piece
cut total zero p = []
cut total (suc n) p = record { number = suc n; bytes = window total p (suc n) } ∷ cut total n p

pub length_cut : (total n : ℕ) (p : List ℕ) → length (cut total n p) ≡ n
unfolding cut
length_cut total zero p = refl
length_cut total (suc n) p = ap suc (length_cut total n p)

-- ---- membership

taken_low : (total n : ℕ) (p : List ℕ) (i : ℕ) → is_taken i (cut total n p) ≡ true → (1 ≤ i) × (i ≤ n)
unfolding cut is_taken
taken_low total zero p i e = absurd (clash false e refl)
taken_low total (suc n) p i e = go (or_either (eqb (suc n) i) (is_taken i (cut total n p)) e) (taken_low total n p i)
  where
    go : (eqb (suc n) i ≡ true) ⊎ (is_taken i (cut total n p) ≡ true) → (is_taken i (cut total n p) ≡ true → (1 ≤ i) × (i ≤ n)) → (1 ≤ i) × (i ≤ suc n)
    go (inl f) ih = let z : suc n ≡ i = eqb-true (suc n) i f in (omega arith, omega arith)
    go (inr f) ih = let r = ih f in let a : 1 ≤ i = r.0 in let b : i ≤ n = r.1 in (omega arith, omega arith)

taken_in : (total n : ℕ) (p : List ℕ) (i : ℕ) → 1 ≤ i → i ≤ n → is_taken i (cut total n p) ≡ true
unfolding cut is_taken
taken_in total zero p i l u = absurd (omega arith)
taken_in total (suc n) p i l u = go (ℕ_discrete (suc n) i) (taken_in total n p i l)
  where
    go : Dec (suc n ≡ i) → (i ≤ n → is_taken i (cut total n p) ≡ true) → (eqb (suc n) i || is_taken i (cut total n p)) ≡ true
    go (yes z) ih = or_inl _ _ (eq-eqb (suc n) i z)
    go (no z) ih = or_inr (eqb (suc n) i) _ (ih (omega arith))

-- number 0 or already taken is number 0 or below the next
pub taken_same : (total n : ℕ) (p : List ℕ) (i : ℕ) → (eqb i 0 || is_taken i (cut total n p)) ≡ (eqb i 0 || ltb i (n + 1))
taken_same total n p i = same_test _ _ there back
  where
    there : (eqb i 0 || is_taken i (cut total n p)) ≡ true → (eqb i 0 || ltb i (n + 1)) ≡ true
    there e = go (or_either (eqb i 0) (is_taken i (cut total n p)) e)
      where
        go : (eqb i 0 ≡ true) ⊎ (is_taken i (cut total n p) ≡ true) → (eqb i 0 || ltb i (n + 1)) ≡ true
        go (inl f) = or_inl _ _ f
        go (inr f) = let b : i ≤ n = (taken_low total n p i f).1 in or_inr (eqb i 0) _ (lt-ltb i (n + 1) (omega arith))

    back : (eqb i 0 || ltb i (n + 1)) ≡ true → (eqb i 0 || is_taken i (cut total n p)) ≡ true
    back e = go (ℕ_discrete i 0) (or_either (eqb i 0) (ltb i (n + 1)) e)
      where
        go : Dec (i ≡ 0) → (eqb i 0 ≡ true) ⊎ (ltb i (n + 1) ≡ true) → (eqb i 0 || is_taken i (cut total n p)) ≡ true
        go (yes z) h = or_inl _ _ (eq-eqb i 0 z)
        go (no z) (inl f) = or_inl _ _ f
        go (no z) (inr f) = let b : i < n + 1 = ltb-true i (n + 1) f in or_inr (eqb i 0) _ (taken_in total n p i (omega arith) (omega arith))

-- ---- they are pieces of the message, and all of them joined are the message

cut_gathered : (total segments : ℕ) (p : List ℕ) (n : ℕ) → n ≤ segments → Gathered total segments p (cut total n p)
unfolding cut
cut_gathered total segments p zero l = tt
cut_gathered total segments p (suc n) l =
    let new : is_taken (suc n) (cut total n p) ≡ false = not_passed _ (λ e. let u : suc n ≤ n = (taken_low total n p (suc n) e).1 in omega arith) in
    (omega arith, l, new, refl, cut_gathered total segments p n (omega arith))

pub joined_cut : (segments : ℕ) (m : List ℕ) → segments ≡ (length m + 59) / 60 → joined segments (cut (length m) segments m) ≡ m
joined_cut segments m c =
    joined_whole segments m (cut (length m) segments m) c (cut_gathered (length m) segments m segments (omega arith)) (length_cut (length m) segments m)
