-- How a proof goes by cases on what a callee answered.
use Rattle.std.specs.Prelude.{Option, Some, ℕ}
use Prim.Native.Nat.{ℕ, ◌<◌}
use mathlib.Core.Path.{◌≡◌, sym, ap, subst, ◌∙◌}
use Rattle.slots.specs.Slots.{Within}

-- `r` is the callee's answer, `e` what its contract says that it is, `v` the case that it is
module _ {E A : Type 0} where
  pub by_case : (f : E → A) (r e v : E) (x : A) → r ≡ e → r ≡ v → x ≡ f v → x ≡ f e
  by_case f r e v x p q h = h ∙ ap f (sym q ∙ p)

pub within : (r : Option ℕ) (n i : ℕ) → Within r n → r ≡ Some i → i < n
within r n i w e = subst (λ (z : Option ℕ). Within z n) e w
