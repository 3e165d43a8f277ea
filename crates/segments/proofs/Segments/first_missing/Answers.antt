use native.Mathlib.Omega.{arith}
use Prim.Native.Nat.{◌+◌, min}
use mathlib.Core.Path.{◌≡◌, sym, subst, ◌∙◌}
use Rattle.segments.specs.Digits.{LowestFree, lowest_free}
use Rattle.segments.specs.Laws.{first_is, first_unique}
use Rattle.segments.proofs.Parts.{first_low, first_high}
use Rattle.segments.proofs.Segments.first_missing.Goals as goal

pub returns-then-ones-lt64 : goal.returns-then-ones-lt64
returns-then-ones-lt64 c =
    let s = c.args.self in
    let count = c.args.count in
    let t = c.trailing_ones-ones.result in
    let free : LowestFree 64 s.low t = subst (LowestFree 64 s.low) (sym c.trailing_ones-ones.ensures) (lowest_free 64 s.low (omega arith)) in
    let e : c.min.result + 1 ≡ min t (min count 69) + 1 = omega arith in
    e ∙ first_unique s 1 count _ _ (first_low s (omega arith) count t free (omega arith)) (first_is s 1 count)

pub returns : goal.returns
returns c =
    let s = c.args.self in
    let count = c.args.count in
    let t = c.trailing_ones-ones.result in
    let u = c.trailing_ones.result in
    let free : LowestFree 64 s.low t = subst (LowestFree 64 s.low) (sym c.trailing_ones-ones.ensures) (lowest_free 64 s.low (omega arith)) in
    let above : LowestFree 8 s.high u = subst (LowestFree 8 s.high) (sym c.trailing_ones.ensures) (lowest_free 8 s.high (omega arith)) in
    let e : c.min-2.result + 1 ≡ min (64 + u) (min count 69) + 1 = omega arith in
    e ∙ first_unique s 1 count _ _ (first_high s (omega arith) count t u free (omega arith) above) (first_is s 1 count)
