-- A slot's bytes, and the bytes of the other slots.
use Prim.Native.Nat.{ℕ, ◌+◌, ◌*◌, ◌≤◌, ◌<◌}
use mathlib.Core.Path.{◌≡◌, refl, sym, ap, ◌∙◌}
use mathlib.Core.Logic.{◌⊎◌, inl, inr}
use mathlib.Core.List.{List, ◌++◌}
use native.Mathlib.Omega.{arith}
use native.Mathlib.Decide.{dec_lt}
use lib.ListN.{length, take, drop, length-take, length-drop}
use lib.Seq.{paste, length-paste, drop_at, take_at, length-take-le, take-take}
use Rattle.laws.specs.Copy.{paste_part}
use Rattle.laws.specs.Windows.{window_other}

-- the bytes of slot i
unfoldable pub part : ℕ → List ℕ → List ℕ
part i m = take 4096 (drop (4096 * i) m)

-- the store after a call that changed at most the bytes of slot i
pub record Within (i : ℕ) (m m' : List ℕ) : Type 0 where
  pub whole : length m' ≡ 32768
  pub others : (j : ℕ) → (j ≡ i → ⊥) → part j m' ≡ part j m

pub within_self : (i : ℕ) (m : List ℕ) → length m ≡ 32768 → Within i m m
within_self i m h = record { whole = h; others = λ j ne. refl }

module _ (m : List ℕ) (whole : length m ≡ 32768) (i : ℕ) (low : i < 8) where
  pub length_part : length (part i m) ≡ 4096
  unfolding part
  length_part = simp (length-take, length-drop) (omega arith)

  -- the first bytes of the slot
  pub take_part : (n : ℕ) → n ≤ 4096 → take n (drop (4096 * i) m) ≡ take n (part i m)
  unfolding part
  take_part n h = sym (take-take n 4096 (drop (4096 * i) m) h)

  module _ (a : ℕ) (s : List ℕ) (n : ℕ) (fits : a + n ≤ 4096) (enough : n ≤ length s) where
    pub part_paste : part i (paste m (4096 * i + a) s n) ≡ paste (part i m) a s n
    unfolding part
    part_paste =
        let len : length (paste (part i m) a s n) ≡ 4096 = length-paste (part i m) a s n (let z : length (part i m) ≡ 4096 = length_part in omega arith) enough ∙ length_part in
        ap (λ (l : List ℕ). take 4096 (drop (4096 * i) l)) (sym (paste_part m (4096 * i) 4096 a s n fits (omega arith)))
        ∙ ap (take 4096) (drop_at (take (4096 * i) m) (paste (part i m) a s n ++ drop 4096 (drop (4096 * i) m)) (4096 * i) (length-take-le (4096 * i) m (omega arith)))
        ∙ take_at (paste (part i m) a s n) (drop 4096 (drop (4096 * i) m)) 4096 len

    pub within_paste : Within i m (paste m (4096 * i + a) s n)
    unfolding part
    within_paste = record {
      whole = length-paste m (4096 * i + a) s n (omega arith) enough ∙ whole;
      others = λ j ne. window_other m (4096 * i + a) s n (omega arith) enough (4096 * j) 4096 (go j ne (dec_lt j i));
    }
      where
        go : (j : ℕ) → (j ≡ i → ⊥) → Dec (j < i) → (4096 * j + 4096 ≤ 4096 * i + a) ⊎ (4096 * i + a + n ≤ 4096 * j)
        go j ne (yes h) = inl (omega arith)
        go j ne (no h) = inr (omega arith)
