-- A turn of a loop that writes the answers of a reading, each as f gives it.
use Prim.Native.Nat.{ℕ, ◌+◌, ◌<◌}
use native.Mathlib.Omega.{arith}
use Rattle.std.specs.Prelude.{◌≡◌, length, get_or, drop, Option}
use Rattle.std.proofs.Common.{sym, ◌∙◌, take_all}
use Rattle.std.proofs.Math.Path.{ap}
use mathlib.Core.List.{List, ◌++◌, append_assoc, append-nil}
use Rattle.std.proofs.Math.ListN.{take}
use Rattle.std.proofs.Math.Seq.{paste}
use Rattle.std.proofs.lemmas.List.Edits.{take-paste, length-paste}
use Rattle.laws.specs.Turn.{turn, end}
use Rattle.answer_bytes.specs.Places.{answer_length, answer_place}
use Rattle.answer_bytes.specs.Ends.{ends_by}
use Rattle.answer.specs.declared.Ending.{Ending}

module _ (f : Option Ending → List ℕ) (size : (x : Option Ending) → length (f x) ≡ answer_length) (es : List (Option Ending)) (n : ℕ) (o o' : List ℕ) (i : ℕ) (d : Option Ending)
    (many : length es ≡ n) (long : length o ≡ answer_place n) (low : i < n)
    (e : o' ≡ paste o (answer_place i) (f (get_or es i d)) answer_length) where
  abbrev p : List ℕ
  p = f (get_or es i d)

  sized : length p ≡ answer_length
  sized = size (get_or es i d)

  pub ends_long : length o' ≡ answer_place n
  ends_long = ap length e ∙ length-paste o (answer_place i) p answer_length (omega arith) (omega (arith, sized)) ∙ long

  pub ends_turn : take (answer_place i) o ++ ends_by f (drop i es) ≡ ends_by f es
      → take (answer_place (i + 1)) o' ++ ends_by f (drop (i + 1) es) ≡ ends_by f es
  unfolding ends_by
  ends_turn inv =
      let at : ℕ = answer_place i in
      let R : List ℕ = ends_by f (drop (i + 1) es) in
      let w : answer_place (i + 1) ≡ at + answer_length = omega arith in
      ap (λ (k : ℕ). take k o' ++ R) w
      ∙ ap (λ (l : List ℕ). take (at + answer_length) l ++ R) e
      ∙ ap (λ (l : List ℕ). l ++ R) (take-paste o at p answer_length (omega arith) (omega (arith, sized)))
      ∙ ap (λ (l : List ℕ). take at o ++ l ++ R) (take_all answer_length p (omega (arith, sized)))
      ∙ append_assoc (take at o) p R
      ∙ ap (λ (l : List ℕ). take at o ++ l) (sym (turn (ends_by f) es i d (omega arith)))
      ∙ inv

-- after the last one
pub ends_all : (f : Option Ending → List ℕ) (es : List (Option Ending)) (n : ℕ) (o w : List ℕ) (i : ℕ) → length es ≡ n → length o ≡ answer_place n → i ≡ n
    → take (answer_place i) o ++ ends_by f (drop i es) ≡ w → o ≡ w
unfolding ends_by
ends_all f es n o w i many long e inv =
    sym (take_all (answer_place i) o (omega arith))
    ∙ sym (append-nil (take (answer_place i) o))
    ∙ ap (λ (l : List ℕ). take (answer_place i) o ++ l) (sym (end (ends_by f) es i (omega arith)))
    ∙ inv
