-- A turn of the copy, over the bytes that it goes through.
use Rattle.std.proofs.Common.{ℕ, ◌≡◌, ◌+◌, ◌-◌, ◌<◌, ◌≤◌, ◌∙◌, List, length, take, drop, get_or, arith, ap, slice_set}
use Rattle.std.proofs.Math.Seq.{paste}
use Rattle.std.proofs.lemmas.List.Edits.{get_or-between}
use Rattle.laws.specs.Copy.{copy_turn}

pub copied_turn : (p d : List ℕ) (at : ℕ) (s : List ℕ) (k n j : ℕ) → p ≡ paste d at (drop k s) j → at + j < length d → j < n → k + n ≤ length s
    → slice_set p (at + j) (get_or (take (k + n - k) (drop k s)) j 0) ≡ paste d at (drop k s) (j + 1)
copied_turn p d at s k n j e h l r =
    ap (λ (byte : ℕ). slice_set p (at + j) byte) (get_or-between s k (k + n) j 0 (omega arith))
    ∙ copy_turn p d at s k j e h (omega arith)
