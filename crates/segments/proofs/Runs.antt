-- A run of missing segments, by the lowest digit that is set from its start on.
use Prim.Native.Nat.{ℕ, ◌+◌, ◌-◌, ◌/◌, ◌%◌, ◌^◌, ◌≤◌, ◌<◌, min}
use mathlib.Core.Path.{◌≡◌, refl, sym, ap, ◌∙◌}
use mathlib.Core.Bool.{Bool, true, false, cond, ◌&&◌}
use native.Mathlib.Nat.{mod-lt}
use native.Mathlib.Omega.{arith}
use Rattle.std.specs.Prelude.{Option, Some, None, MatchOption}
use lib.Dec.{eqb, leb, ltb}
use lib.Pow.{pow_pos}
use borrow.Author.Tests.{le-leb, ltb-true, ltb-false}
use Rattle.segments.specs.declared.Segments.{Segments}
use Rattle.segments.specs.Digits.{digit, digit_shift, digit_mod, digit_past, LowestSet}
use Rattle.segments.specs.Model.{is_in, run_from, run_of}
use Rattle.segments.specs.Laws.{in_past_69, IsRun, Gap, NoneFrom, run_is, run_unique}
use Rattle.segments.proofs.Parts.{in_low, in_high}

-- a run of at most k, where the gap is known
gap_run : (s : Segments) (n z k : ℕ) → Gap s n z → min z k ≡ run_from s n k
gap_run s n z k g = run_unique s n k (min z k) (run_from s n k) short (run_is s n k)
  where
    short : IsRun s n k (min z k)
    short = record {
      most = omega arith;
      missing = λ m l h. g.missing m l (omega arith);
      ends = λ h. let e : n + min z k ≡ n + z = omega arith in ap (is_in s) e ∙ g.ends;
    }

none_run : (s : Segments) (n k : ℕ) → NoneFrom s n → k ≡ run_from s n k
none_run s n k f =
    run_unique s n k k (run_from s n k) (record { most = omega arith; missing = λ m l h. f m l; ends = λ h. absurd (omega arith) }) (run_is s n k)

pub found_run : (s : Segments) (n k r : ℕ) (found : Option ℕ) → MatchOption found (NoneFrom s n) (Gap s n) → MatchOption found (r ≡ k) (λ z. r ≡ min z k)
    → r ≡ run_from s n k
found_run s n k r None f e = e ∙ none_run s n k f
found_run s n k r (Some z) g e = e ∙ gap_run s n z k g

pub none_past_69 : (s : Segments) (n : ℕ) → 69 < n → NoneFrom s n
none_past_69 s n b m l = in_past_69 s m (omega arith)

module _ (s : Segments) (fits : s.low < 2 ^ 64) where
  -- what a digit of low or of high says of its segment
  low_is : (n d : ℕ) → 1 ≤ n → n ≤ 64 → digit s.low (n - 1) ≡ d → is_in s n ≡ eqb d 1
  low_is n d a b e = in_low s fits n a b ∙ ap (λ (x : ℕ). eqb x 1) e

  high_is : (n d : ℕ) → 64 < n → n ≤ 69 → digit s.high (n - 65) ≡ d → is_in s n ≡ eqb d 1
  high_is n d a b e = in_high s fits n a b ∙ ap (λ (x : ℕ). eqb x 1) e

  -- ---- from a segment of low

  module _ (n t : ℕ) (a : 1 ≤ n) (b : n ≤ 64) (f : LowestSet 64 (s.low / 2 ^ (n - 1)) t) where
    below_low : (m : ℕ) → n ≤ m → m < n + t → m ≤ 64 → is_in s m ≡ false
    below_low m l h c =
        let e : n - 1 + (m - n) ≡ m - 1 = omega arith in
        low_is m 0 (omega arith) c (ap (digit s.low) (sym e) ∙ sym (digit_shift s.low (n - 1) (m - n)) ∙ f.below (m - n) (omega arith))

    pub gap_low : t < 64 → Gap s n t
    gap_low h =
        let one : digit s.low (n - 1 + t) ≡ 1 = sym (digit_shift s.low (n - 1) t) ∙ f.at h in
        let in_low : n - 1 + t < 64 = digit_past s.low 64 (n - 1 + t) fits one in
        let e : n + t - 1 ≡ n - 1 + t = omega arith in record {
          missing = λ m l c. below_low m l c (omega arith);
          ends = low_is (n + t) 1 (omega arith) (omega arith) (ap (digit s.low) e ∙ one);
        }

    -- none of low from n on, and so on into high
    module _ (none : 64 ≤ t) (u : ℕ) (g : LowestSet 8 (s.high % 2 ^ 5) u) where
      over : (m : ℕ) → n ≤ m → m < 65 + u → is_in s m ≡ false
      over m l h = go (ltb m 65) refl (ltb m 70) refl
        where
          go : (v : Bool) → ltb m 65 ≡ v → (w : Bool) → ltb m 70 ≡ w → is_in s m ≡ false
          go true q w r = let c : m < 65 = ltb-true m 65 q in below_low m l (omega arith) (omega arith)
          go false q true r =
              let c : 65 ≤ m = ltb-false m 65 q in
              let d : m < 70 = ltb-true m 70 r in
              high_is m 0 (omega arith) (omega arith) (sym (digit_mod s.high 5 (m - 65) (omega arith)) ∙ g.below (m - 65) (omega arith))
          go false q false r = in_past_69 s m (ltb-false m 70 r)

      pub gap_over : u < 8 → Gap s n (65 - n + u)
      gap_over h =
          let one : digit (s.high % 2 ^ 5) u ≡ 1 = g.at h in
          let c : u < 5 = digit_past (s.high % 2 ^ 5) 5 u (mod-lt s.high (pow_pos 5)) one in
          let e : n + (65 - n + u) ≡ 65 + u = omega arith in
          let p : 65 + u - 65 ≡ u = omega arith in record {
            missing = λ m l k. over m l (omega arith);
            ends =
                ap (is_in s) e ∙ high_is (65 + u) 1 (omega arith) (omega arith) (ap (digit s.high) p ∙ sym (digit_mod s.high 5 u c) ∙ one);
          }

      pub gap_none : 8 ≤ u → NoneFrom s n
      gap_none h m l = go m l (ltb m 70) refl
        where
          go : (m : ℕ) → n ≤ m → (v : Bool) → ltb m 70 ≡ v → is_in s m ≡ false
          go m l true q = let c : m < 70 = ltb-true m 70 q in over m l (omega arith)
          go m l false q = in_past_69 s m (ltb-false m 70 q)

  -- ---- from a segment of high

  module _ (n u : ℕ) (a : 64 < n) (b : n ≤ 69) (g : LowestSet 8 (s.high % 2 ^ 5 / 2 ^ (n - 65)) u) where
    within : (m : ℕ) → n ≤ m → m < n + u → is_in s m ≡ false
    within m l h = go (ltb m 70) refl
      where
        go : (v : Bool) → ltb m 70 ≡ v → is_in s m ≡ false
        go true q =
            let c : m < 70 = ltb-true m 70 q in
            let e : n - 65 + (m - n) ≡ m - 65 = omega arith in
            high_is m 0 (omega arith) (omega arith)
            (sym (digit_mod s.high 5 (m - 65) (omega arith))
            ∙ ap (digit (s.high % 2 ^ 5)) (sym e)
            ∙ sym (digit_shift (s.high % 2 ^ 5) (n - 65) (m - n))
            ∙ g.below (m - n) (omega arith))
        go false q = in_past_69 s m (ltb-false m 70 q)

    pub gap_high : u < 8 → Gap s n u
    gap_high h =
        let one : digit (s.high % 2 ^ 5) (n - 65 + u) ≡ 1 = sym (digit_shift (s.high % 2 ^ 5) (n - 65) u) ∙ g.at h in
        let c : n - 65 + u < 5 = digit_past (s.high % 2 ^ 5) 5 (n - 65 + u) (mod-lt s.high (pow_pos 5)) one in
        let e : n + u - 65 ≡ n - 65 + u = omega arith in record {
          missing = within;
          ends =
              high_is (n + u) 1 (omega arith) (omega arith) (ap (digit s.high) e ∙ sym (digit_mod s.high 5 (n - 65 + u) c) ∙ one);
        }

    pub gap_high_none : 8 ≤ u → NoneFrom s n
    gap_high_none h m l = go m l (ltb m 70) refl
      where
        go : (m : ℕ) → n ≤ m → (v : Bool) → ltb m 70 ≡ v → is_in s m ≡ false
        go m l true q = let c : m < 70 = ltb-true m 70 q in within m l (omega arith)
        go m l false q = in_past_69 s m (ltb-false m 70 q)

-- ---- what is asked for

module _ (s : Segments) (n c m : ℕ) where
  pub asked : (r k : ℕ) → 1 ≤ n → n ≤ c → k ≡ min m (c - (n - 1)) → r ≡ run_from s n k → r ≡ run_of s n c m
  asked r k a b q p =
      let same : c - (n - 1) ≡ c + 1 - n = omega arith in
      p ∙ ap (run_from s n) (q ∙ ap (min m) same)
      ∙ ap (λ (t : Bool). cond (t && true) (run_from s n (min m (c + 1 - n))) 0) (sym (le-leb 1 n a))
      ∙ ap (λ (t : Bool). cond (leb 1 n && t) (run_from s n (min m (c + 1 - n))) 0) (sym (le-leb n c b))
