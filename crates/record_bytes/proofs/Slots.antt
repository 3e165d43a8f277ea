-- A turn of the loop that writes the slots.
use Rattle.std.specs.Prelude.{Option}
use Prim.Native.Nat.{ℕ, ◌+◌, ◌<◌}
use native.Mathlib.Omega.{arith}
use mathlib.Core.Path.{◌≡◌, refl, sym, ap, ◌∙◌}
use mathlib.Core.List.{List, ◌++◌, append_assoc, append-nil}
use lib.ListN.{length, get_or, take, drop}
use lib.Seq.{paste, take-paste, length-paste, take_all}
use Rattle.laws.specs.Turn.{turn, end}
use mathlib.Core.Bool.{true, not}
use lib.Dec.{eqb}
use borrow.Author.Tests.{eq-eqb}
use Rattle.laws.specs.Choice.{else}
use Rattle.receiver.specs.declared.Receiver.{Receiver}
use Rattle.record_bytes.specs.Places.{record_length, head_length, slot_length, slot_place}
use Rattle.record_bytes.specs.Layout.{slot_bytes, head_bytes, slots_bytes, written, stored_in}
use Rattle.record_bytes.specs.Pieces.{length_slot}
use Rattle.session.specs.declared.Session.{Session}

module _ (ss : List (Option Session)) (o₀ o o' : List ℕ) (i : ℕ) (d : Option Session) (eight : length ss ≡ 8) (long : length o ≡ record_length) (low : i < 8)
    (e : o' ≡ paste o (slot_place i) (slot_bytes (get_or ss i d)) slot_length) where
  abbrev p : List ℕ
  p = slot_bytes (get_or ss i d)

  size : length p ≡ slot_length
  size = length_slot (get_or ss i d)

  pub slots_long : length o' ≡ record_length
  slots_long = ap length e ∙ length-paste o (slot_place i) p slot_length (omega arith) (omega (arith, size)) ∙ long

  pub slots_turn : take (slot_place i) o ++ slots_bytes (drop i ss) ≡ written ss o₀
      → take (slot_place (i + 1)) o' ++ slots_bytes (drop (i + 1) ss) ≡ written ss o₀
  unfolding slots_bytes
  slots_turn inv =
      let at : ℕ = slot_place i in
      let R : List ℕ = slots_bytes (drop (i + 1) ss) in
      let w : slot_place (i + 1) ≡ at + slot_length = omega arith in
      ap (λ (k : ℕ). take k o' ++ R) w
      ∙ ap (λ (l : List ℕ). take (at + slot_length) l ++ R) e
      ∙ ap (λ (l : List ℕ). l ++ R) (take-paste o at p slot_length (omega arith) (omega (arith, size)))
      ∙ ap (λ (l : List ℕ). take at o ++ l ++ R) (take_all slot_length p (omega (arith, size)))
      ∙ append_assoc (take at o) p R
      ∙ ap (λ (l : List ℕ). take at o ++ l) (sym (turn slots_bytes ss i d (omega arith)))
      ∙ inv

-- after the last slot
pub slots_all : (ss : List (Option Session)) (o w : List ℕ) (i : ℕ) → length ss ≡ 8 → length o ≡ record_length → i ≡ 8
    → take (slot_place i) o ++ slots_bytes (drop i ss) ≡ w → o ≡ w
unfolding slots_bytes
slots_all ss o w i eight long e inv =
    sym (take_all (slot_place i) o (omega arith))
    ∙ sym (append-nil (take (slot_place i) o))
    ∙ ap (λ (l : List ℕ). take (slot_place i) o ++ l) (sym (end slots_bytes ss i (omega arith)))
    ∙ inv

-- the head, and then the slots
pub record_stored : (r : Receiver) (d o₁ o₂ : List ℕ) → length d ≡ record_length → o₁ ≡ paste d 0 (head_bytes r) head_length
    → o₂ ≡ written r.slots o₁ → (true, o₂) ≡ stored_in r d
unfolding stored_in head_bytes
record_stored r d o₁ o₂ long e₁ e₂ =
    let S : List ℕ = slots_bytes r.slots in
    let n : length (head_bytes r) ≡ head_length = refl in
    else (not (eqb (length d) record_length)) _ _ _ (ap not (eq-eqb _ _ long))
    (ap (λ (l : List ℕ). (true, l))
    (e₂
    ∙ ap (λ (l : List ℕ). take head_length l ++ S) e₁
    ∙ ap (λ (l : List ℕ). l ++ S) (take-paste d 0 (head_bytes r) head_length (omega arith) (omega arith))))
