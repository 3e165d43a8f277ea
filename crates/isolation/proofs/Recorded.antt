-- The receiver's record of segments, and its next segment, say the same as the rules' data taken: how many are missing, which is the first,
-- and how many are missing in a row.
use Prim.Native.Nat.{ℕ, zero, suc, ◌+◌, ◌-◌, ◌≤◌, ◌<◌, min}
use mathlib.Core.Path.{◌≡◌, refl, sym, ap, ◌∙◌}
use mathlib.Core.Bool.{Bool, true, false, cond}
use mathlib.Core.List.{List}
use native.Mathlib.Omega.{arith}
use lib.Dec.{ltb}
use native.Mathlib.Decide.{dec_lt}
use borrow.Author.Tests.{le-leb, lt-ltb, le-ltb}
use Rattle.segments.specs.declared.Segments.{Segments}
use Rattle.segments.specs.Model as segments
use Rattle.segments.specs.Model.{is_in, missing_of, first_from, run_from}
use Rattle.progress.specs.Forward.{grant_of}
use Rattle.progress.specs.Requests.{asked_count}
use Rattle.isolation.specs.Rules as R
use Rattle.isolation.specs.Rules.{Piece, is_taken, first_missing, missing_run}
use Rattle.isolation.proofs.Same.{grant_same}
use Rattle.isolation.proofs.Gathered.{in_to}

-- ---- of an RTS: the record has what was taken

module _ (t : Segments) (xs : List Piece) (same : (n : ℕ) → 1 ≤ n → is_taken n xs ≡ is_in t n) where
  pub missing_rest : (c : ℕ) → missing_of t c + in_to c xs ≡ c
  unfolding missing_of in_to
  missing_rest zero = refl
  missing_rest (suc c) = rw (same (suc c) (omega arith)) (go (is_in t (suc c)) (missing_rest c))
    where
      go : (u : Bool) → missing_of t c + in_to c xs ≡ c → missing_of t c + cond u 0 1 + (in_to c xs + cond u 1 0) ≡ suc c
      go true e = omega arith
      go false e = omega arith

  pub first_same : (f n : ℕ) → 1 ≤ n → first_missing f n xs ≡ first_from t n f
  unfolding first_missing first_from
  first_same zero n l = refl
  first_same (suc f) n l = rw (same n l, first_same f (n + 1) (omega arith))

  pub run_same : (f n : ℕ) → 1 ≤ n → missing_run f n xs ≡ run_from t n f
  unfolding missing_run run_from
  run_same zero n l = refl
  run_same (suc f) n l = rw (same n l, run_same f (n + 1) (omega arith))

-- a run that is cut off is the least of both
run_min : (t : Segments) (f n m : ℕ) → run_from t n (min m f) ≡ min m (run_from t n f)
unfolding run_from
run_min t zero n m = let z : min m 0 ≡ 0 = omega arith in rw z
run_min t (suc f) n zero = let z : min 0 (suc f) ≡ 0 = omega arith in rw z (omega arith)
run_min t (suc f) n (suc m) = let z : min (suc m) (suc f) ≡ suc (min m f) = omega arith in rw z (go (is_in t n) (run_min t f (n + 1) m))
  where
    go : (u : Bool) → run_from t (n + 1) (min m f) ≡ min m (run_from t (n + 1) f)
        → cond u 0 (1 + run_from t (n + 1) (min m f)) ≡ min (suc m) (cond u 0 (1 + run_from t (n + 1) f))
    go true e = omega arith
    go false e = omega arith

-- what is asked for is the first missing run, as far as one CTS may ask
module _ (t : Segments) (xs : List Piece) (same : (n : ℕ) → 1 ≤ n → is_taken n xs ≡ is_in t n) (c max : ℕ) where
  pub asked_first : first_missing c 1 xs ≡ segments.first_missing t c
  asked_first = first_same t xs same c 1 (omega arith)

  pub asked_same : 1 ≤ segments.first_missing t c → segments.first_missing t c ≤ c
      → R.grant max (missing_run (c + 1 - first_missing c 1 xs) (first_missing c 1 xs) xs) ≡ asked_count t c max
  unfolding grant_of
  asked_same l u =
      let n : ℕ = segments.first_missing t c in
      grant_same max (missing_run (c + 1 - first_missing c 1 xs) (first_missing c 1 xs) xs)
      ∙ ap (λ (k : ℕ). min (min max 16) (missing_run (c + 1 - k) k xs)) asked_first
      ∙ ap (λ (k : ℕ). min (min max 16) k) (run_same t xs same (c + 1 - n) n l)
      ∙ sym (run_min t (c + 1 - n) n (min max 16))
      ∙ sym (rw (le-leb 1 (segments.first_missing t c) l, le-leb (segments.first_missing t c) c u))

-- ---- of a BAM: all below the next are in

module _ (next : ℕ) (xs : List Piece) (same : (n : ℕ) → 1 ≤ n → is_taken n xs ≡ ltb n next) where
  pub below_next : (c : ℕ) → in_to c xs ≡ min c (next - 1)
  unfolding in_to
  below_next zero = omega arith
  below_next (suc c) = rw (same (suc c) (omega arith), below_next c) (go (dec_lt (suc c) next))
    where
      go : Dec (suc c < next) → min c (next - 1) + cond (ltb (suc c) next) 1 0 ≡ min (suc c) (next - 1)
      go (yes h) = rw (lt-ltb (suc c) next h) (omega arith)
      go (no h) = rw (le-ltb (suc c) next (omega arith)) (omega arith)
