use Prim.Native.Nat.{◌-◌}
use native.Mathlib.Omega.{arith}
use mathlib.Core.Bool.{false}
use mathlib.Core.Path.{◌≡◌, sym, ◌∙◌}
use Rattle.segments.specs.Model.{is_in}
use Rattle.segments.proofs.Parts.{bit, fits_low, fits_high}
use Rattle.segments.proofs.Segments.put.Goals as goal

-- the digit is not set, so a sum sets it and does not carry
pub overflow_add-result : goal.overflow_add-result
overflow_add-result c =
    let s = c.args.self in
    let n = c.args.n in
    let free : is_in s n ≡ false = sym c.is_in.ensures ∙ c.if-is_in.false in
    record { fits = fits_low s (omega arith) n _ (omega arith) (omega arith) free (bit (n - 1) 64 (omega arith)) }

pub overflow_add-result-in-65-to-69 : goal.overflow_add-result-in-65-to-69
overflow_add-result-in-65-to-69 c =
    let s = c.args.self in
    let n = c.args.n in
    let free : is_in s n ≡ false = sym c.is_in.ensures ∙ c.if-is_in.false in
    record { fits = fits_high s (omega arith) n _ (omega arith) (omega arith) free (bit (n - 65) 8 (omega arith)) (omega arith) }
