-- A turn of the loop that puts the slots over the pieces before them.
use Rattle.std.specs.Prelude.{Option}
use Prim.Native.Nat.{ℕ, suc, ◌+◌, ◌<◌}
use native.Mathlib.Omega.{arith}
use native.Mathlib.Numerals.{add-one}
use mathlib.Core.Path.{◌≡◌, sym, ap, ◌∙◌}
use mathlib.Core.Bool.{Bool, true, false, cond, ◌&&◌}
use mathlib.Core.List.{List, [], ◌∷◌, ◌++◌, append_assoc, append-nil}
use lib.Dec.{eqb}
use lib.ListN.{length, get_or, take, drop, length-drop, drop_of_length-le}
use lib.Seq.{paste, take-paste, drop-paste, length-paste, take_all, drop-cons, drop-drop, length-take-le}
use Rattle.slots.specs.Slots.{is_free}
use Rattle.record_bytes.specs.Places.{record_length, head_length, slot_length, state_place, slot_place}
use Rattle.record_bytes.specs.Layout.{slot_bytes, pieces, pieces_of}
use Rattle.record_bytes.specs.Pieces.{length_slot, length_pieces, piece_of}
use Rattle.record_bytes.specs.Keeping.{kept, merged}
use Rattle.session.specs.declared.Session.{Session}

module _ (o : List ℕ) (i : ℕ) (s : Option Session) (long : length o ≡ record_length) (low : i < 8) where
  abbrev at : ℕ
  at = slot_place i

  abbrev piece : List ℕ
  piece = get_or (pieces_of o) i []

  piece_long : length piece ≡ slot_length
  piece_long = ap length (piece_of o i low) ∙ length-take-le slot_length (drop at o) (simp length-drop (omega arith))

  pub kept_long : length (kept piece s) ≡ slot_length
  kept_long = by (is_free s && eqb (get_or piece state_place 0) 0)
    where
      by : (t : Bool) → length (cond t piece (slot_bytes s)) ≡ slot_length
      by true = piece_long
      by false = length_slot s

module _ (ss : List (Option Session)) (o₀ o o' : List ℕ) (i : ℕ) (d : Option Session) (eight : length ss ≡ 8) (long : length o ≡ record_length) (low : i < 8)
    (e : o' ≡ paste o (slot_place i) (kept (get_or (pieces_of o) i []) (get_or ss i d)) slot_length) where
  size : length (kept (get_or (pieces_of o) i []) (get_or ss i d)) ≡ slot_length
  size = kept_long o i (get_or ss i d) long low

  pub keeps_long : length o' ≡ record_length
  keeps_long = ap length e ∙ length-paste o (slot_place i) (kept (get_or (pieces_of o) i []) (get_or ss i d)) slot_length (omega arith) (omega (arith, size)) ∙ long

  module _ (same : drop (slot_place i) o ≡ drop (slot_place i) o₀) where
    pub keeps_same : drop (slot_place (i + 1)) o' ≡ drop (slot_place (i + 1)) o₀
    keeps_same =
        let w : slot_place i + slot_length ≡ slot_place (i + 1) = omega arith in
        let down : (l : List ℕ) → drop (slot_place i + slot_length) l ≡ drop slot_length (drop (slot_place i) l) = λ l. sym (drop-drop slot_length (slot_place i) l) in
        ap (λ (k : ℕ). drop k o') (sym w)
        ∙ ap (drop (slot_place i + slot_length)) e
        ∙ drop-paste o (slot_place i) (kept (get_or (pieces_of o) i []) (get_or ss i d)) slot_length (omega arith) (omega (arith, size))
        ∙ down o
        ∙ ap (drop slot_length) same
        ∙ sym (down o₀)
        ∙ ap (λ (k : ℕ). drop k o₀) w

    piece_same : get_or (pieces_of o) i [] ≡ get_or (pieces_of o₀) i []
    piece_same = piece_of o i low ∙ ap (take slot_length) same ∙ sym (piece_of o₀ i low)

    pub keeps_turn : take (slot_place i) o ++ merged (drop i (pieces_of o₀)) (drop i ss) ≡ take head_length o₀ ++ merged (pieces_of o₀) ss
        → take (slot_place (i + 1)) o' ++ merged (drop (i + 1) (pieces_of o₀)) (drop (i + 1) ss) ≡ take head_length o₀ ++ merged (pieces_of o₀) ss
    unfolding merged
    keeps_turn inv =
        let at : ℕ = slot_place i in
        let ps : List (List ℕ) = pieces_of o₀ in
        let R : List ℕ = merged (drop (i + 1) ps) (drop (i + 1) ss) in
        let s : Option Session = get_or ss i d in
        let w : slot_place (i + 1) ≡ at + slot_length = omega arith in
        let both : merged (drop i ps) (drop i ss) ≡ kept (get_or ps i []) s ++ R =
        ap (λ (l : List (List ℕ)). merged l (drop i ss)) (drop-cons ps i [] (omega (arith, length_pieces 8 (drop head_length o₀))))
        ∙ ap (merged (get_or ps i [] ∷ drop (suc i) ps)) (drop-cons ss i d (omega arith))
        ∙ ap (λ (k : ℕ). kept (get_or ps i []) s ++ merged (drop k ps) (drop k ss)) (sym (add-one i)) in
        ap (λ (k : ℕ). take k o' ++ R) w
        ∙ ap (λ (l : List ℕ). take (at + slot_length) l ++ R) e
        ∙ ap (λ (l : List ℕ). l ++ R) (take-paste o at (kept (get_or (pieces_of o) i []) s) slot_length (omega arith) (omega (arith, size)))
        ∙ ap (λ (l : List ℕ). take at o ++ l ++ R) (take_all slot_length _ (omega (arith, size)) ∙ ap (λ (p : List ℕ). kept p s) piece_same)
        ∙ append_assoc (take at o) (kept (get_or ps i []) s) R
        ∙ ap (λ (l : List ℕ). take at o ++ l) (sym both)
        ∙ inv

-- after the last slot
pub keeps_all : (ss : List (Option Session)) (o o₀ w : List ℕ) (i : ℕ) → length ss ≡ 8 → length o ≡ record_length → i ≡ 8
    → take (slot_place i) o ++ merged (drop i (pieces_of o₀)) (drop i ss) ≡ w → o ≡ w
unfolding merged
keeps_all ss o o₀ w i eight long e inv =
    sym (take_all (slot_place i) o (omega arith))
    ∙ sym (append-nil (take (slot_place i) o))
    ∙ ap (λ (l : List (List ℕ)). take (slot_place i) o ++ merged l (drop i ss))
    (sym (drop_of_length-le (pieces_of o₀) {i = i} (omega (arith, length_pieces 8 (drop head_length o₀)))))
    ∙ inv
