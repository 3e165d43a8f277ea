-- A turn of the loop over a number's groups, and the bounds of what it adds up.
use Prim.Native.Nat.{ℕ, zero, suc, ◌+◌, ◌-◌, ◌*◌, ◌^◌, ◌<◌, ◌≤◌}
use native.Mathlib.Nat.{mul-add, mul_assoc, add_assoc, mul-le-mul_left}
use Rattle.std.proofs.Common.{pow-suc, add-one}
use native.Mathlib.Omega.{arith}
use mathlib.Core.Path.{◌≡◌, refl, sym, ap, ◌∙◌}
use mathlib.Core.List.{List, [], ◌∷◌}
use lib.Dec.{ltb}
use lib.ListN.{length, get_or, drop}
use borrow.Author.Tests.{lt-ltb, le-ltb}
use Rattle.laws.specs.Choice.{then, else}
use Rattle.laws.specs.Turn.{turn, end}
use Rattle.std.specs.Prelude.{Result, Ok, Err}
use Rattle.trace.specs.declared.Fault.{Fault}
use Rattle.trace.specs.declared.Fault.TheVariants.{Cut}
use Rattle.trace.specs.Numbers.{onto, later_groups, number_on, number_at}

-- bits above bits
pub onto_onto : (v w x y : ℕ) (r : Result (ℕ × ℕ) Fault) → onto v w (onto x y r) ≡ onto (v + w * x) (w * y) r
onto_onto v w x y (Ok (n, next)) =
    ap (λ (k : ℕ). Ok (k, next))
    (ap (λ (k : ℕ). v + k) (mul-add w x (y * n) ∙ ap (λ (k : ℕ). w * x + k) (sym (mul_assoc w y n))) ∙ sym (add_assoc v (w * x) (w * y * n)))
onto_onto v w x y (Err f) = refl

module _ (l : List ℕ) (at v w : ℕ) where
  module _ (b : ℕ) (inside : at < length l) (is : b ≡ get_or l at 0) where
    here : (f : List ℕ → Result (ℕ × ℕ) Fault) → f (b ∷ drop (at + 1) l) ≡ f (drop at l)
    here f = ap (λ (x : ℕ). f (x ∷ drop (at + 1) l)) is ∙ sym (turn f l at 0 inside)

    next_on : (more : ℕ) → 0 < more → 128 ≤ b
        → onto (b - 128) 128 (later_groups (more - 1) (at + 1) (drop (at + 1) l)) ≡ later_groups more at (b ∷ drop (at + 1) l)
    next_on zero p h = absurd (omega arith)
    next_on (suc m) p h =
        let e : suc m - 1 ≡ m = omega arith in
        ap (λ (k : ℕ). onto (b - 128) 128 (later_groups k (at + 1) (drop (at + 1) l))) e
        ∙ else (ltb b 128) _ _ _ (le-ltb b 128 h) refl

    pub next : (more : ℕ) → 0 < more → 128 ≤ b
        → onto (v + w * (b - 128)) (w * 128) (later_groups (more - 1) (at + 1) (drop (at + 1) l)) ≡ onto v w (later_groups more at (drop at l))
    next more p h =
        sym (onto_onto v w (b - 128) 128 (later_groups (more - 1) (at + 1) (drop (at + 1) l)))
        ∙ ap (onto v w) (next_on more p h)
        ∙ here (λ (z : List ℕ). onto v w (later_groups more at z))

-- the first group
module _ (l : List ℕ) (at : ℕ) where
  pub cut_first : length l ≤ at → Err Cut ≡ number_at l at
  unfolding number_at
  cut_first h = sym (end (number_on at) l at h)

  module _ (b : ℕ) (inside : at < length l) (is : b ≡ get_or l at 0) where
    first_here : number_on at (b ∷ drop (at + 1) l) ≡ number_at l at
    unfolding number_at
    first_here = ap (λ (x : ℕ). number_on at (x ∷ drop (at + 1) l)) is ∙ sym (turn (number_on at) l at 0 inside)

    pub only : b < 128 → Ok (b, at + 1) ≡ number_at l at
    unfolding number_at
    only h = then (ltb b 128) _ _ _ (lt-ltb b 128 h) refl ∙ first_here

    pub first_of : 128 ≤ b → onto (b - 128) 128 (later_groups 3 (at + 1) (drop (at + 1) l)) ≡ number_at l at
    unfolding number_at
    first_of h = else (ltb b 128) _ _ _ (le-ltb b 128 h) refl ∙ first_here

-- what the bits of the groups after the first count, but for the fifth
abbrev pub scales : List ℕ
scales = 128 ∷ 16384 ∷ 2097152 ∷ []

-- the same, of the group after so many others
abbrev pub scale_at : ℕ → ℕ
scale_at i = 128 ^ suc i

pub scale_is : (i : ℕ) → i < 3 → get_or scales i 0 ≡ scale_at i
scale_is zero h = refl
scale_is (suc zero) h = refl
scale_is (suc (suc zero)) h = refl
scale_is (suc (suc (suc i))) h = absurd (omega arith)

pub scale_next : (i : ℕ) → scale_at (i + 1) ≡ scale_at i * 128
scale_next i = ap (λ (k : ℕ). 128 ^ suc k) (add-one i) ∙ pow-suc 128 (suc i)

-- seven bits more
pub group_low : (v w g : ℕ) → v < w → g < 128 → v + w * g < w * 128
group_low v w g p q = let h : w * g ≤ w * 127 = mul-le-mul_left w (omega arith) in omega arith
