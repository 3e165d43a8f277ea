-- Loops that walk a list and write, or count, what each element becomes.
use Rattle.std.specs.Prelude.{ℕ, ◌+◌, ◌<◌, ◌≤◌, ◌≡◌, List, [], ◌∷◌, ◌++◌, Some, None, length, get_or, drop}
use Rattle.std.proofs.Common.{sym, ap, subst, ◌∙◌}
use Rattle.laws.specs.Turn.{turn, end}
use Rattle.text.specs.Put.{PutAt, Going, going_room, going_on, going_end}
use Rattle.text.specs.Line.{left_by, left_first, left_rest, left_none}

-- ---- f writes what g gives of each element in turn
module _ {A : Type 0} (f : List A → List ℕ) (g : A → List ℕ) (none : f [] ≡ []) (more : (x : A) (xs : List A) → f (x ∷ xs) ≡ g x ++ f xs) where
  module _ (d : List ℕ) (at : ℕ) (l : List A) (room : at + length (f l) ≤ length d) (o : List ℕ) (p i : ℕ) (w : Going d at (f l) o p (f (drop i l))) where
    -- z is what a look past the list's end would find
    module _ (z : A) (h : i < length l) where
      here : Going d at (f l) o p (g (get_or l i z) ++ f (drop (i + 1) l))
      here =
          subst (λ (r : List ℕ). Going d at (f l) o p r) (turn f l i z h ∙ more (get_or l i z) (drop (i + 1) l)) w

      pub walk_room : p + length (g (get_or l i z)) ≤ length o
      walk_room = going_room d at (f l) room o p (g (get_or l i z)) (f (drop (i + 1) l)) here

      pub walk_on : (q : ℕ) (e : List ℕ) → PutAt o p (g (get_or l i z)) q e → Going d at (f l) e q (f (drop (i + 1) l))
      walk_on q e v = going_on d at (f l) room o p (g (get_or l i z)) (f (drop (i + 1) l)) here q e v

    pub walk_out : length l ≤ i → PutAt d at (f l) p o
    walk_out h = going_end d at (f l) o p (subst (λ (r : List ℕ). Going d at (f l) o p r) (end f l i h ∙ none) w)

  -- the same for the room that is left
  module _ (l : List A) (room left i : ℕ) (inv : left_by left (length (f (drop i l))) ≡ left_by room (length (f l))) where
    module _ (z : A) (h : i < length l) where
      next_part : f (drop i l) ≡ g (get_or l i z) ++ f (drop (i + 1) l)
      next_part = turn f l i z h ∙ more (get_or l i z) (drop (i + 1) l)

      pub count_cut : left_by left (length (g (get_or l i z))) ≡ None → None ≡ left_by room (length (f l))
      count_cut e =
          left_first left (g (get_or l i z)) (f (drop (i + 1) l)) e ∙ ap (λ (x : List ℕ). left_by left (length x)) (sym next_part) ∙ inv

      pub count_on : (k : ℕ) → left_by left (length (g (get_or l i z))) ≡ Some k → left_by k (length (f (drop (i + 1) l))) ≡ left_by room (length (f l))
      count_on k e =
          left_rest left (g (get_or l i z)) (f (drop (i + 1) l)) k e ∙ ap (λ (x : List ℕ). left_by left (length x)) (sym next_part) ∙ inv

    pub count_out : length l ≤ i → Some left ≡ left_by room (length (f l))
    count_out h = left_none left ∙ ap (λ (x : List ℕ). left_by left (length x)) (sym (end f l i h ∙ none)) ∙ inv
