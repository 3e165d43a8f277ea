-- A data frame laid into a lent output: its front, its data, and what fills it up.
use Prim.Native.Nat.{ℕ, zero, suc, ◌+◌, ◌-◌, ◌≤◌}
use mathlib.Core.Path.{◌≡◌, refl, sym, ap, ◌∙◌}
use mathlib.Core.List.{List, [], ◌∷◌, ◌++◌, append_assoc}
use native.Mathlib.Omega.{arith}
use lib.ListN.{length, take, drop, replicate, length-append, length-drop, length-replicate}
use lib.Seq.{paste, length-take-le}
use Rattle.laws.specs.Pastes.{paste_own, paste_next}
use Rattle.frame.specs.Lengths.{frame_length}
use Rattle.frame.proofs.LengthLaws.{frame_bounds}
use Rattle.transport.specs.declared.Key.{Key}
use Rattle.transport.specs.Heads.{laid_in}
use Rattle.transport.specs.Segments.{front_of, filler, segment_bytes}

-- n of m equal bytes
taken_of : (m n x : ℕ) → n ≤ m → take n (replicate m x) ≡ replicate n x
taken_of m zero x h = refl
taken_of zero (suc n) x h = absurd (omega arith)
taken_of (suc m) (suc n) x h = ap (λ (l : List ℕ). x ∷ l) (taken_of m n x (omega arith))

-- a frame that is full already
pub full : (out : List ℕ) → length out ≡ 64 → out ≡ paste out 64 (filler 64) (frame_length 64 - 64)
unfolding frame_length
full out l = sym (paste_own out 64 0 (omega arith))

module _ (out o₁ o₂ o₃ message head : List ℕ) (k : Key) (n from due len : ℕ) where
  pub laid : due ≤ 60 → from + due ≤ length message → len ≡ frame_length (4 + due)
      → head ≡ front_of k n → o₁ ≡ paste out 0 head 4 → o₂ ≡ paste o₁ 4 (drop from message) due
      → o₃ ≡ paste o₂ (4 + due) (filler (4 + due)) (frame_length (4 + due) - (4 + due))
      → (len, o₃) ≡ laid_in (segment_bytes k n (take due (drop from message))) out
  unfolding segment_bytes
  laid few inside l h e₁ e₂ e₃ =
      let b = frame_bounds (4 + due) (omega arith) in
      let d : List ℕ = take due (drop from message) in
      let w : length d ≡ due = length-take-le due (drop from message) (simp length-drop (omega arith)) in
      let gap : ℕ = frame_length (4 + due) - (4 + due) in
      let f₁ : o₁ ≡ front_of k n ++ drop 4 out =
      e₁ ∙ ap (λ (x : List ℕ). paste out 0 x 4) h ∙ paste_next out out [] (front_of k n) 0 4 refl refl in
      let f₂ : o₂ ≡ (front_of k n ++ d) ++ drop (4 + due) out = e₂ ∙ paste_next out o₁ (front_of k n) (drop from message) 4 due refl f₁ in
      let p : length (front_of k n ++ d) ≡ 4 + due = omega arith in
      let f₃ : o₃ ≡ (front_of k n ++ d) ++ take gap (filler (4 + due)) ++ drop (4 + due + gap) out =
      e₃ ∙ paste_next out o₂ (front_of k n ++ d) (filler (4 + due)) (4 + due) gap p f₂ in
      let s : 4 + due + gap ≡ len = omega arith in
      let t : take gap (filler (4 + due)) ≡ filler (4 + length d) =
      taken_of gap gap 170 (omega arith) ∙ ap (λ (x : ℕ). filler (4 + x)) (sym w) in
      let all : length (d ++ filler (4 + length d)) ≡ length d + length (filler (4 + length d)) = length-append d (filler (4 + length d)) in
      let rest : length (filler (4 + length d)) ≡ gap = length-replicate _ _ ∙ ap (λ (x : ℕ). frame_length (4 + x) - (4 + x)) w in
      let long : length (front_of k n ++ (d ++ filler (4 + length d))) ≡ len = omega arith in
      ap (λ (x : List ℕ). (len, x))
      (f₃
      ∙ ap (λ (x : List ℕ). (front_of k n ++ d) ++ x ++ drop (4 + due + gap) out) t
      ∙ ap (λ (x : ℕ). (front_of k n ++ d) ++ filler (4 + length d) ++ drop x out) s
      ∙ ap (λ (x : List ℕ). x ++ drop len out) (append_assoc (front_of k n) d (filler (4 + length d))))
      ∙ ap (λ (x : ℕ). (x, (front_of k n ++ (d ++ filler (4 + length d))) ++ drop x out)) (sym long)
