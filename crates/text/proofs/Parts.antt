-- What the parts of a line are made of, and the room that they leave.
use Prim.Native.Nat.{ℕ, ◌+◌, ◌-◌, ◌<◌, ◌≤◌}
use native.Mathlib.Omega.{arith}
use mathlib.Core.Path.{◌≡◌, refl, sym, ap, subst, ◌∙◌}
use mathlib.Core.List.{List, [], ◌∷◌, ◌++◌, append_assoc, map}
use lib.ListN.{length, set, length-append}
use borrow.Rule.Slice.PartMut.{put_mid}
use Rattle.std.proofs.lemmas.Slice.{put_mid-paste}
use Rattle.text.specs.Put.{PutAt, put_set, put_same, put_then, put_copied}
use Rattle.text.specs.Line.{spaced, numbers, line_of, left_by, left_short, left_then, short_of, enough_of}
use Rattle.std.specs.Prelude.{Some, None}

-- a u64 and a u8 are their own number
pub own_numbers : (l : List ℕ) → numbers l ≡ numbers (map (λ (n : ℕ). n) l)
own_numbers l = ap numbers (go l)
  where
    go : (l : List ℕ) → l ≡ map (λ (n : ℕ). n) l
    go [] = refl
    go (x ∷ l) = ap (λ (r : List ℕ). x ∷ r) (go l)

pub own_left : (room : ℕ) (l : List ℕ) → left_by room (length (numbers l)) ≡ left_by room (length (numbers (map (λ (n : ℕ). n) l)))
own_left room l = ap (λ (r : List ℕ). left_by room (length r)) (own_numbers l)

-- ---- a whole line

-- the word, as copy_from_slice leaves it
pub word_copied : (d : List ℕ) (at : ℕ) (word x : List ℕ) → x ≡ word → PutAt d at word (at + length word) (put_mid at (at + length word - at) d x)
word_copied d at word x e = put_copied d at word (put_mid-paste at (at + length word - at) d x word (length word) e (omega arith) refl)

pub numbers_append : (a b : List ℕ) → numbers (a ++ b) ≡ numbers a ++ numbers b
unfolding numbers
numbers_append [] b = refl
numbers_append (x ∷ a) b = ap (λ (l : List ℕ). spaced x ++ l) (numbers_append a b) ∙ sym (append_assoc (spaced x) (numbers a) (numbers b))

module _ (word f o : List ℕ) where
  -- its parts in the order in which they are written
  parts : line_of word (f ++ o) ≡ ((word ++ numbers f) ++ numbers o) ++ (10 ∷ [])
  unfolding line_of
  parts =
      ap (λ (l : List ℕ). word ++ (l ++ (10 ∷ []))) (numbers_append f o)
      ∙ sym (append_assoc word (numbers f ++ numbers o) (10 ∷ []))
      ∙ ap (λ (l : List ℕ). l ++ (10 ∷ [])) (sym (append_assoc word (numbers f) (numbers o)))

  length_line : length (line_of word (f ++ o)) ≡ length word + length (numbers f) + length (numbers o) + 1
  length_line = ap length parts ∙ simp length-append refl

  module _ (room : ℕ) where
    pub line_cut : room ≤ length word → None ≡ left_by room (length (line_of word (f ++ o)))
    line_cut h =
        let e : length (line_of word (f ++ o)) ≡ length word + length (numbers f) + length (numbers o) + 1 = length_line in
        left_short room _ (omega arith)

    -- b is what the word and the end of the line leave
    module _ (b : ℕ) (h : (length word + 1 ≤ room) × (b ≡ room - (length word + 1))) where
      pub fields_cut : left_by b (length (numbers f)) ≡ None → None ≡ left_by room (length (line_of word (f ++ o)))
      fields_cut e =
          let n : length (line_of word (f ++ o)) ≡ length word + length (numbers f) + length (numbers o) + 1 = length_line in
          let k : b < length (numbers f) = short_of _ _ e in
          left_short room _ (omega arith)

      pub line_left : (l : ℕ) → left_by b (length (numbers f)) ≡ Some l → left_by l (length (numbers o)) ≡ left_by room (length (line_of word (f ++ o)))
      line_left l e =
          let (k, q) = enough_of b (length (numbers f)) l e in
          let j : l ≡ room - (length word + 1 + length (numbers f)) = omega arith in
          let n : length word + 1 + length (numbers f) + length (numbers o) ≡ length (line_of word (f ++ o)) = omega (arith, length_line) in
          ap (λ (m : ℕ). left_by m (length (numbers o))) j
          ∙ left_then room (length word + 1 + length (numbers f)) (length (numbers o)) (omega arith)
          ∙ ap (left_by room) n

  module _ (d : List ℕ) (at : ℕ) (room : at + length (line_of word (f ++ o)) ≤ length d) where
    pub text_room : at + length word ≤ length d
    text_room = omega (arith, length_line)

    module _ (p1 : ℕ) (o1 : List ℕ) (a : PutAt d at word p1 o1) where
      pub fields_room : p1 + length (numbers f) ≤ length o1
      fields_room =
          let l : length o1 ≡ length d = put_same d at word p1 o1 text_room a in
          let p : p1 ≡ at + length word = a.place in
          omega (arith, length_line)

      module _ (p2 : ℕ) (o2 : List ℕ) (b : PutAt o1 p1 (numbers f) p2 o2) where
        two : PutAt d at (word ++ numbers f) p2 o2
        two = put_then d at word p1 o1 text_room a (numbers f) p2 o2 b

        two_room : at + length (word ++ numbers f) ≤ length d
        two_room = omega (arith, length_line, length-append word (numbers f))

        pub octets_room : p2 + length (numbers o) ≤ length o2
        octets_room =
            let l : length o2 ≡ length d = put_same d at (word ++ numbers f) p2 o2 two_room two in
            let p : p2 ≡ at + length (word ++ numbers f) = two.place in
            omega (arith, length_line, length-append word (numbers f))

        module _ (p3 : ℕ) (o3 : List ℕ) (c : PutAt o2 p2 (numbers o) p3 o3) where
          abbrev front : List ℕ
          front = (word ++ numbers f) ++ numbers o

          three : PutAt d at front p3 o3
          three = put_then d at (word ++ numbers f) p2 o2 two_room two (numbers o) p3 o3 c

          length_front : length front + 1 ≡ length (line_of word (f ++ o))
          length_front = sym (ap length parts ∙ length-append front (10 ∷ []))

          pub feed_room : p3 < length o3
          feed_room =
              let l : length o3 ≡ length d = put_same d at front p3 o3 (omega (arith, length_front)) three in
              let p : p3 ≡ at + length front = three.place in
              omega (arith, length_front)

          pub line_put : PutAt d at (line_of word (f ++ o)) (p3 + 1) (set o3 p3 10)
          line_put =
              subst (λ (x : List ℕ). PutAt d at x (p3 + 1) (set o3 p3 10)) (sym parts)
              (put_then d at front p3 o3 (omega (arith, length_front)) three (10 ∷ []) (p3 + 1) (set o3 p3 10) (put_set o3 p3 10 feed_room))
