-- The keys that are open, counted over all keys, are the slots that are open.
use Rattle.std.specs.Prelude.{None, Option, Some}
use Prim.Native.Nat.{ℕ, zero, suc, ◌≤◌, ◌<◌}
use mathlib.Core.Path.{◌≡◌, refl, sym, ap, ◌∙◌}
use mathlib.Core.Bool.{and-false, Bool, true, false, cond, not, ◌&&◌, ◌||◌}
use mathlib.Core.List.{[], ◌∷◌}
use native.Mathlib.Omega.{arith}
use native.Mathlib.Decide.{ℕ_discrete}
use lib.Dec.{eqb}
use lib.ListN.{length}
use borrow.Author.Tests.{eq-eqb, ne_eqb}
use Rattle.session.specs.declared.Session.{Session}
use Rattle.slots.specs.Slots.{is_free}
use Rattle.isolation.specs.World.{count}
use Rattle.isolation.specs.Observe.{open_in}
use Rattle.isolation.proofs.Tests.{or-false, or-2}
use Rattle.isolation.proofs.Slots.{Slots, at, holds, key_number, Small, same_number, Unique}
use Rattle.isolation.proofs.Count.{count_same, count_one}

-- some slot holds the key
unfoldable pub any : ℕ → Slots → Bool
any k l = open_in k l

pub any_from : (k : ℕ) (l : Slots) (i : ℕ) → holds k (at l i) ≡ true → any k l ≡ true
unfolding any open_in holds
any_from k [] i e = e
any_from k (x ∷ l) zero e = rw e
any_from k (x ∷ l) (suc i) e = or-2 (holds k x) (any k l) (any_from k l i e)

pub any_none : (k : ℕ) (l : Slots) → ((i : ℕ) → holds k (at l i) ≡ false) → any k l ≡ false
unfolding any open_in holds
any_none k [] e = refl
any_none k (x ∷ l) e = rw (e 0) (any_none k l (λ i. e (suc i)))

-- slots that hold another key
pub others : ℕ → Slots → ℕ
others k [] = 0
others k (x ∷ l) = cond (is_free x || holds k x) (others k l) (suc (others k l))

pub others_le : (k : ℕ) (l : Slots) → others k l ≤ length l
unfolding others
others_le k [] = omega arith
others_le k (x ∷ l) = go (is_free x || holds k x) (others_le k l)
  where
    go : (t : Bool) → others k l ≤ length l → cond t (others k l) (suc (others k l)) ≤ suc (length l)
    go true h = omega arith
    go false h = omega arith

pub others_less : (k : ℕ) (l : Slots) (i : ℕ) → i < length l → (is_free (at l i) || holds k (at l i)) ≡ true → others k l < length l
unfolding others
others_less k [] i h e = absurd (omega arith)
others_less k (x ∷ l) zero h e = let z : others k l ≤ length l = others_le k l in rw e (omega arith)
others_less k (x ∷ l) (suc i) h e = go (is_free x || holds k x) (others_less k l i (omega arith) e)
  where
    go : (t : Bool) → others k l < length l → cond t (others k l) (suc (others k l)) < suc (length l)
    go true h = omega arith
    go false h = omega arith

pub others_all : (k : ℕ) (l : Slots) → ((i : ℕ) → i < length l → (is_free (at l i) || holds k (at l i)) ≡ false) → others k l ≡ length l
unfolding others
others_all k [] h = refl
others_all k (x ∷ l) h = rw (h 0 (omega arith)) (ap suc (others_all k l (λ i z. h (suc i) (omega arith))))

-- each key held is below n, and its parts are as in a frame
pub record Bounded (n : ℕ) (x : Option Session) : Type 0 where
  pub small : (s : Session) → x ≡ Some s → Small s.announced.key
  pub below : (s : Session) → x ≡ Some s → key_number s.announced.key < n

head_alone : (x : Option Session) (l : Slots) → Unique (x ∷ l) → (k : ℕ) → holds k x ≡ true → any k l ≡ false
head_alone x l u k e = any_none k l (λ i. or-false (holds k (at l i)) (λ t. let z : 0 ≡ suc i = u 0 (suc i) k e t in omega arith))

count_open : (n k : ℕ) (s : Session) (l : Slots) → key_number s.announced.key < n → any (key_number s.announced.key) l ≡ false
    → count (λ j. (eqb (key_number s.announced.key) j || any j l) && not (eqb j k)) n
    ≡ cond (eqb (key_number s.announced.key) k) (count (λ j. any j l && not (eqb j k)) n) (suc (count (λ j. any j l && not (eqb j k)) n))
count_open n k s l b a = go (ℕ_discrete (key_number s.announced.key) k)
  where
    p : ℕ → Bool
    p j = (eqb (key_number s.announced.key) j || any j l) && not (eqb j k)

    q : ℕ → Bool
    q j = any j l && not (eqb j k)

    same : key_number s.announced.key ≡ k → (j : ℕ) → Dec (j ≡ k) → p j ≡ q j
    same e j (yes z) = rw (eq-eqb j k z) (and-false (eqb (key_number s.announced.key) j || any j l) ∙ sym (and-false (any j l)))
    same e j (no z) = rw (ne_eqb (key_number s.announced.key) j (λ y. z (sym y ∙ e)))

    go : Dec (key_number s.announced.key ≡ k) → count p n ≡ cond (eqb (key_number s.announced.key) k) (count q n) (suc (count q n))
    go (yes e) = rw (eq-eqb (key_number s.announced.key) k e) (count_same p q n (λ j _. same e j (ℕ_discrete j k)))
    go (no e) =
        rw (ne_eqb (key_number s.announced.key) k e)
        (count_one p q (key_number s.announced.key) n b
        (rw (eq-eqb (key_number s.announced.key) (key_number s.announced.key) refl, ne_eqb (key_number s.announced.key) k e)) (rw a)
        (λ j z. rw (ne_eqb (key_number s.announced.key) j (λ y. z (sym y)))))

-- one slot before the rest
count_head : (n k : ℕ) (x : Option Session) (l : Slots) → Bounded n x → ((j : ℕ) → holds j x ≡ true → any j l ≡ false)
    → count (λ j. (holds j x || any j l) && not (eqb j k)) n
    ≡ cond (is_free x || holds k x) (count (λ j. any j l && not (eqb j k)) n) (suc (count (λ j. any j l && not (eqb j k)) n))
unfolding holds
count_head n k None l b a = refl
count_head n k (Some s) l b a =
    let σ : Small s.announced.key = b.small s refl in
    count_same _ _ n (λ j _. ap (λ (t : Bool). (t || any j l) && not (eqb j k)) (same_number s.announced.key σ j))
    ∙ count_open n k s l (b.below s refl)
    (a (key_number s.announced.key)
    (same_number s.announced.key σ (key_number s.announced.key) ∙ eq-eqb (key_number s.announced.key) (key_number s.announced.key) refl))
    ∙ ap (λ (t : Bool). cond t (count (λ j. any j l && not (eqb j k)) n) (suc (count (λ j. any j l && not (eqb j k)) n))) (sym (same_number s.announced.key σ k))

count_nothing : (n : ℕ) → count (λ j. false) n ≡ 0
unfolding count
count_nothing zero = refl
count_nothing (suc n) = count_nothing n

pub count_others : (n k : ℕ) (l : Slots) → Unique l → ((i : ℕ) → Bounded n (at l i)) → count (λ j. any j l && not (eqb j k)) n ≡ others k l
unfolding any open_in others holds
count_others n k [] u b = count_nothing n
count_others n k (x ∷ l) u b =
    count_head n k x l (b 0) (head_alone x l u)
    ∙ rw (count_others n k l (λ i j m g h. let z : suc i ≡ suc j = u (suc i) (suc j) m g h in omega arith) (λ i. b (suc i)))
