-- The loops over numbers of any type: n is the number that an element is.
use Rattle.std.proofs.Common.{◌≡◌, ℕ, suc, ◌+◌, ◌-◌, ◌<◌, ◌≤◌, List, [], ◌∷◌, ◌++◌, Some, None, map, length, get_or, drop, refl, sym, ap, subst, ◌∙◌, arith}
use Rattle.text.specs.Decimal.{width_of, length_decimal}
use Rattle.text.specs.Put.{PutAt, Going}
use Rattle.text.specs.Line.{spaced, numbers, left_by, left_short, left_enough}
use Rattle.text.specs.Walk.{walk_room, walk_on, walk_out, count_cut, count_on, count_out}

length_spaced : (n : ℕ) → length (spaced n) ≡ suc (width_of n)
unfolding spaced
length_spaced n = ap suc (length_decimal n)

none : numbers [] ≡ []
unfolding numbers
none = refl

module _ {A : Type 0} (n : A → ℕ) where
  more : (x : A) (xs : List A) → numbers (map n (x ∷ xs)) ≡ spaced (n x) ++ numbers (map n xs)
  unfolding numbers
  more x xs = refl

  abbrev all : List A → List ℕ
  all l = numbers (map n l)

  abbrev one : A → List ℕ
  one x = spaced (n x)

  module _ (l : List A) (room left i : ℕ) (kept : left_by left (length (all (drop i l))) ≡ left_by room (length (all l))) where
    module _ (x : A) (is : x ≡ get_or l i x) (h : i < length l) where
      pub numbers_short : left ≤ width_of (n x) → None ≡ left_by room (length (all l))
      numbers_short s =
          let k : length (one x) ≡ suc (width_of (n x)) = length_spaced (n x) in
          count_cut all one none more l room left i kept x h (subst (λ y. left_by left (length (one y)) ≡ None) is (sym (left_short left (length (one x)) (omega arith))))

      pub numbers_more : (k : ℕ) → width_of (n x) < left → k ≡ left - width_of (n x) - 1 → left_by k (length (all (drop (i + 1) l))) ≡ left_by room (length (all l))
      numbers_more k s e =
          let w : length (one x) ≡ suc (width_of (n x)) = length_spaced (n x) in
          let q : left - length (one x) ≡ k = omega arith in
          count_on all one none more l room left i kept x h k
          (subst (λ y. left_by left (length (one y)) ≡ Some k) is (sym (left_enough left (length (one x)) (omega arith)) ∙ ap Some q))

    pub numbers_end : length l ≤ i → Some left ≡ left_by room (length (all l))
    numbers_end h = count_out all one none more l room left i kept h

  module _ (d : List ℕ) (at : ℕ) (l : List A) (room : at + length (all l) ≤ length d) (o : List ℕ) (p i : ℕ) (g : Going d at (all l) o p (all (drop i l))) where
    module _ (x : A) (is : x ≡ get_or l i x) (h : i < length l) where
      pub number_room : p + length (one x) ≤ length o
      number_room = subst (λ y. p + length (one y) ≤ length o) (sym is) (walk_room all one none more d at l room o p i g x h)

      pub number_put : (q : ℕ) (e : List ℕ) → PutAt o p (one x) q e → Going d at (all l) e q (all (drop (i + 1) l))
      number_put q e v = walk_on all one none more d at l room o p i g x h q e (subst (λ y. PutAt o p (one y) q e) is v)

    pub numbers_put : length l ≤ i → PutAt d at (all l) p o
    numbers_put h = walk_out all one none more d at l room o p i g h
