-- Counting over all keys.
use Prim.Native.Nat.{ℕ, zero, suc, ◌<◌}
use mathlib.Core.Path.{◌≡◌, refl, sym, ap}
use mathlib.Core.Bool.{Bool, true, false, cond}
use native.Mathlib.Omega.{arith}
use native.Mathlib.Decide.{ℕ_discrete}
use Rattle.isolation.specs.World.{count}

bump : (s t : Bool) (a b : ℕ) → s ≡ t → a ≡ b → cond s (suc a) a ≡ cond t (suc b) b
bump s t a b e f = cc

pub count_same : (p q : ℕ → Bool) (n : ℕ) → ((j : ℕ) → j < n → p j ≡ q j) → count p n ≡ count q n
unfolding count
count_same p q zero h = refl
count_same p q (suc n) h = bump (p n) (q n) (count p n) (count q n) (h n (omega arith)) (count_same p q n (λ j l. h j (omega arith)))

one_up : (s t : Bool) (a b : ℕ) → s ≡ t → a ≡ suc b → cond s (suc a) a ≡ suc (cond t (suc b) b)
one_up true true a b e f = ap suc f
one_up true false a b e f = cc
one_up false true a b e f = cc
one_up false false a b e f = f

-- p is q and the key a besides
pub count_one : (p q : ℕ → Bool) (a n : ℕ) → a < n → p a ≡ true → q a ≡ false → ((j : ℕ) → (j ≡ a → ⊥) → p j ≡ q j) → count p n ≡ suc (count q n)
unfolding count
count_one p q a zero h pa qa e = absurd (omega arith)
count_one p q a (suc n) h pa qa e = go (ℕ_discrete a n) (λ l. count_one p q a n l pa qa e)
  where
    go : Dec (a ≡ n) → (a < n → count p n ≡ suc (count q n)) → cond (p n) (suc (count p n)) (count p n) ≡ suc (cond (q n) (suc (count q n)) (count q n))
    go (yes r) ih = rw (← r) (rw (pa, qa) (ap suc (count_same p q a (λ j l. e j (λ z. omega arith)))))
    go (no r) ih = one_up (p n) (q n) (count p n) (count q n) (e n (λ z. r (sym z))) (ih (omega arith))
