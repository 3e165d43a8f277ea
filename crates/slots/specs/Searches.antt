-- What the searches over the slots find.
use Rattle.std.specs.Prelude.{ℕ, zero, suc, ◌+◌, ◌≤◌, ◌<◌, ◌≡◌, refl, ◌⊎◌, Bool, true, false, cond, List, [], ◌∷◌, length, get_or, MatchOption, None, Option, Some}
use Rattle.std.proofs.Common.{suc-le-suc, sym, ap, subst, ◌∙◌, inl, inr, arith}
use Rattle.laws.specs.Bools.{clash}
use Rattle.slots.specs.Slots.{Within, or_else, is_free, first_at, first_free, free_slot}
use Rattle.session.specs.declared.Session.{Session}

-- ---- by cases on what was found

pub found_below : (f : Option ℕ) (i n : ℕ) → f ≡ Some i → Within f n → i < n
found_below f i n e w = subst (λ (x : Option ℕ). Within x n) e w

pub or_first : (f x y : Option ℕ) (i : ℕ) → f ≡ x → f ≡ Some i → Some i ≡ or_else x y
or_first f x y i e q = ap (λ (z : Option ℕ). or_else z y) (sym q ∙ e)

pub or_second : (f x y z : Option ℕ) → f ≡ x → f ≡ None → z ≡ y → z ≡ or_else x y
or_second f x y z e q p = p ∙ ap (λ (w : Option ℕ). or_else w y) (sym q ∙ e)

-- ---- the one found

turn : (t : Bool) (r : Option ℕ) (j i : ℕ) → cond t (Some j) r ≡ Some i → ((t ≡ true) × (i ≡ j)) ⊎ (r ≡ Some i)
turn true r j i e = inl (refl, (cc))
turn false r j i e = inr e

turn_none : (t : Bool) (r : Option ℕ) (j : ℕ) → cond t (Some j) r ≡ None → (t ≡ false) × (r ≡ None)
turn_none true r j e = ((cc), (cc))
turn_none false r j e = (refl, e)

module _ {A : Type 0} (d : A) (p : A → Bool) where
  from_some : (l : List A) (j i : ℕ) → first_at p j l ≡ Some i → (m : ℕ) × (i ≡ j + m) × (p (get_or l m d) ≡ true) × (m < length l)
  from_some [] j i e = let z : ◌≡◌ {A = ℕ} 0 1 = cc in absurd (omega arith)
  from_some (x ∷ l) j i e = go (turn (p x) (first_at p (j + 1) l) j i e) (from_some l (j + 1) i)
    where
      go : ((p x ≡ true) × (i ≡ j)) ⊎ (first_at p (j + 1) l ≡ Some i)
          → (first_at p (j + 1) l ≡ Some i → (m : ℕ) × (i ≡ j + 1 + m) × (p (get_or l m d) ≡ true) × (m < length l))
          → (m : ℕ) × (i ≡ j + m) × (p (get_or (x ∷ l) m d) ≡ true) × (m < length (x ∷ l))
      go (inl q) ih = let e : i ≡ j = q.1 in (0, omega arith, q.0, omega arith)
      go (inr q) ih = let r = ih q in let e : i ≡ j + 1 + r.0 = r.1 in (suc r.0, omega arith, r.2, suc-le-suc r.3)

  pub from_none : (l : List A) (j : ℕ) → first_at p j l ≡ None → (i : ℕ) → i < length l → p (get_or l i d) ≡ false
  from_none [] j e i h = absurd (omega arith)
  from_none (x ∷ l) j e zero h = (turn_none (p x) (first_at p (j + 1) l) j e).0
  from_none (x ∷ l) j e (suc i) h = from_none l (j + 1) (turn_none (p x) (first_at p (j + 1) l) j e).1 i (omega arith)

  -- none before the one that was found passes
  from_below : (l : List A) (j i : ℕ) → first_at p j l ≡ Some i → (n : ℕ) → j + n < i → p (get_or l n d) ≡ false
  from_below [] j i e n h = let z : ◌≡◌ {A = ℕ} 0 1 = cc in absurd (omega arith)
  from_below (x ∷ l) j i e n h = go (p x) refl e (from_below l (j + 1) i) n h
    where
      first : Some j ≡ Some i → j ≡ i
      first q = cc

      go : (t : Bool) → p x ≡ t → cond t (Some j) (first_at p (j + 1) l) ≡ Some i
          → (first_at p (j + 1) l ≡ Some i → (n : ℕ) → j + 1 + n < i → p (get_or l n d) ≡ false)
          → (n : ℕ) → j + n < i → p (get_or (x ∷ l) n d) ≡ false
      go true f q ih n h = let z : j ≡ i = first q in absurd (omega arith)
      go false f q ih zero h = f
      go false f q ih (suc n) h = ih q n (omega arith)

  -- the one found passes the test
  pub first_some : (l : List A) (i : ℕ) → first_at p 0 l ≡ Some i → (p (get_or l i d) ≡ true) × (i < length l)
  first_some l i e =
      let r = from_some l 0 i e in
      let z : i ≡ r.0 = r.1 ∙ omega arith in
      rw z (r.2, r.3)

-- the lowest free slot is free
pub lowest_some : (l : List (Option Session)) (i : ℕ) → first_free l ≡ Some i → ((get_or l i free_slot) ≡ None) × (i < length l)
lowest_some l i e = let r = first_some free_slot is_free l i e in (free (get_or l i free_slot) r.0, r.1)
  where
    free : (x : Option Session) → is_free x ≡ true → x ≡ None
    free None e = refl
    free (Some s) e = absurd (clash false e refl)

-- and every slot below it is open
pub lowest_below : (l : List (Option Session)) (i : ℕ) → first_free l ≡ Some i → (j : ℕ) → j < i → is_free (get_or l j free_slot) ≡ false
lowest_below l i e j h = from_below free_slot is_free l 0 i e j (omega arith)

-- where none is found, none is free
pub lowest_none : (l : List (Option Session)) → first_free l ≡ None → (i : ℕ) → i < length l → is_free (get_or l i free_slot) ≡ false
lowest_none l e i h = from_none free_slot is_free l 0 e i h

-- ---- what a search by number finds is what the recursion on the list finds

module _ {A : Type 0} (d : A) (p : A → Bool) where
  none_passes : (l : List A) (j : ℕ) → ((i : ℕ) → i < length l → p (get_or l i d) ≡ false) → first_at p j l ≡ None
  none_passes [] j h = refl
  none_passes (x ∷ l) j h = rw (h 0 (omega arith)) (none_passes l (j + 1) (λ i g. h (suc i) (omega arith)))

  one_passes : (l : List A) (i j : ℕ) → i < length l → p (get_or l i d) ≡ true → ((m : ℕ) → m < i → p (get_or l m d) ≡ false) → first_at p j l ≡ Some (j + i)
  one_passes [] i j h e g = absurd (omega arith)
  one_passes (x ∷ l) zero j h e g = rw e (ap Some (omega arith))
  one_passes (x ∷ l) (suc i) j h e g =
      let n : j + 1 + i ≡ j + suc i = omega arith in
      rw (g 0 (omega arith)) (one_passes l i (j + 1) (omega arith) e (λ m b. g (suc m) (omega arith)) ∙ ap Some n)

  pub first_found : (l : List A) (n : ℕ) → n ≡ length l → (r : Option ℕ)
      → MatchOption r ((k : ℕ) → 0 ≤ k → k < n → p (get_or l k d) ≡ false) (λ i. (0 ≤ i) × (i < n) × (p (get_or l i d) ≡ true) × ((k : ℕ) → 0 ≤ k → k < i → p (get_or l k d) ≡ false))
      → (r ≡ first_at p 0 l) × Within r n
  first_found l n e None h = (sym (none_passes l 0 (λ i b. h i (omega arith) (omega arith))), tt)
  first_found l n e (Some i) h =
      let z : 0 + i ≡ i = omega arith in
      let low : i < length l = omega (arith, h.1) in
      (sym (one_passes l i 0 low h.2 (λ m b. h.3 m (omega arith) b) ∙ ap Some z), h.1)
