-- The cases of 24, one by one.
use Prim.Native.Nat.{ℕ, ◌+◌, ◌*◌, ◌≤◌, ◌<◌}
use native.Mathlib.Omega.{arith}
use mathlib.Core.Path.{◌≡◌, refl, sym, ap, ◌∙◌}
use mathlib.Core.Bool.{Bool, true, false, cond, ◌&&◌}
use lib.Dec.{eqb, leb}
use lib.ListN.{length}
use borrow.Author.Tests.{le-leb, lt-leb}
use Rattle.std.proofs.Common.{Some, None}
use Rattle.std.proofs.lemmas.Option.{cond_some}
use Rattle.packing.specs.declared.trailer.Sums.{Sums}
use Rattle.packing.specs.Packing.{Request, sum, needed, trailers_ok, lists_even, bytes_whole, request_fits, fitted, sums_of}

module _ (q : Request) (out : ℕ) where
  abbrev due : Bool
  due = trailers_ok q.services q.formats q.trailers

  abbrev both : Sums
  both = record { «data» = sum q.lengths; tails = sum q.trailers }

  by : (a b c d : Bool) → leb (needed q) 64 ≡ a → lists_even q ≡ b → bytes_whole q out ≡ c → due ≡ d → cond ((a && (b && c)) && d) (Some (needed q)) None ≡ fitted q out
  unfolding request_fits
  by a b c d w x y z = rw (w, x, y, z) refl

  over : 64 < needed q → None ≡ fitted q out
  over h = by false (lists_even q) (bytes_whole q out) due (lt-leb (needed q) 64 h) refl refl refl

  -- more than 16 headers are more than 64 bytes
  pub many : 16 < length q.pgns → None ≡ fitted q out
  many h = over (omega arith)

  pub uneven : lists_even q ≡ false → None ≡ fitted q out
  uneven e = go (leb (needed q) 64) refl
    where
      go : (a : Bool) → leb (needed q) 64 ≡ a → None ≡ fitted q out
      go true w = by true false (bytes_whole q out) due w e refl refl
      go false w = by false false (bytes_whole q out) due w e refl refl

  none_of : (t : Bool) → None ≡ cond t (Some both) None → t ≡ false
  none_of true e = absurd cc
  none_of false e = refl

  pub undue : None ≡ sums_of q.services q.formats q.lengths q.trailers → None ≡ fitted q out
  undue e = go (leb (needed q) 64) (lists_even q) (bytes_whole q out) refl refl refl
    where
      go : (a b c : Bool) → leb (needed q) 64 ≡ a → lists_even q ≡ b → bytes_whole q out ≡ c → None ≡ fitted q out
      go true true true w x y = by true true true false w x y (none_of due e)
      go true true false w x y = by true true false false w x y (none_of due e)
      go true false c w x y = by true false c false w x y (none_of due e)
      go false b c w x y = by false b c false w x y (none_of due e)

  -- by the sums
  module _ (r : Sums) (e : Some r ≡ sums_of q.services q.formats q.lengths q.trailers) where
    is_due : due ≡ true
    is_due = (cond_some due both r (sym e)).0

    data_sum : r.«data» ≡ sum q.lengths
    data_sum = ap (λ (s : Sums). s.«data») (sym (cond_some due both r (sym e)).1)

    tail_sum : r.tails ≡ sum q.trailers
    tail_sum = ap (λ (s : Sums). s.tails) (sym (cond_some due both r (sym e)).1)

    pub over_sums : 64 < 4 * length q.pgns + r.«data» + r.tails → None ≡ fitted q out
    over_sums h = over (omega (arith, data_sum, tail_sum))

    module _ (small : 4 * length q.pgns + r.«data» + r.tails ≤ 64) where
      low : leb (needed q) 64 ≡ true
      low = le-leb (needed q) 64 (omega (arith, data_sum, tail_sum))

      whole_same : (eqb (length q.joined) r.«data» && eqb (length q.assured) r.tails && eqb out 64) ≡ bytes_whole q out
      whole_same =
          ap (λ (k : ℕ). eqb (length q.joined) k && eqb (length q.assured) r.tails && eqb out 64) data_sum
          ∙ ap (λ (k : ℕ). eqb (length q.joined) (sum q.lengths) && eqb (length q.assured) k && eqb out 64) tail_sum

      pub cut : lists_even q ≡ true → (eqb (length q.joined) r.«data» && eqb (length q.assured) r.tails && eqb out 64) ≡ false → None ≡ fitted q out
      cut e f = by true true false true low e (sym whole_same ∙ f) is_due

      pub fits : lists_even q ≡ true → (eqb (length q.joined) r.«data» && eqb (length q.assured) r.tails && eqb out 64) ≡ true → Some (4 * length q.pgns + r.«data» + r.tails) ≡ fitted q out
      fits e f =
          ap Some (let z : 4 * length q.pgns + r.«data» + r.tails ≡ needed q = omega (arith, data_sum, tail_sum) in z) ∙ by true true true true low e (sym whole_same ∙ f) is_due
