-- The transfers of a record by their places: what is known of a key, and a change to the one place that is the key's.
use Rattle.std.specs.Prelude.{None, Option, Some, ℕ}
use Prim.Native.Nat.{ℕ, zero, suc, ◌<◌, suc-le-suc}
use mathlib.Core.Path.{◌≡◌, refl, sym, ap, ◌∙◌}
use mathlib.Core.Logic.{◌⊎◌, inl, inr}
use mathlib.Core.Bool.{true, false, not}
use mathlib.Core.List.{List, [], ◌∷◌, map}
use native.Mathlib.Omega.{arith}
use native.Mathlib.Decide.{ℕ_discrete}
use lib.ListN.{length, get_or, set, get_or-map}
use lib.Seq.{get_or-set_same, get_or-set_other}
use borrow.Author.Tests.{not-true}
use mathlib.Mathlib.Data.Bool.Basic.{and_elim_left, and_elim_right, or_inr}
use Rattle.laws.specs.Bools.{clash, not_passed, both, by_test}
use Rattle.transport.specs.declared.Key.{Key}
use Rattle.slots.specs.Slots.{same_key}
use Rattle.slots.specs.Searches.{first_some, from_none}
use Rattle.isolation.proofs.Slots.{same_keys, keys_same}
use Rattle.transfer.specs.Bounds.{transfer_ok, state_ok}
use Rattle.sender.specs.Transfers.{holds, key_place, state_in, any_holds, one_ok, transfers_ok}
use Rattle.transfer.specs.declared.Transfer.{Transfer}

abbrev pub Transfers : Type 0
Transfers = List (Option Transfer)

abbrev pub at : Transfers → ℕ → Option Transfer
at l i = get_or l i None

abbrev pub known : Key → Transfers → Option Transfer
known κ l = state_in (key_place κ l) l

abbrev pub Unique : Transfers → Type 0
Unique l = (i j : ℕ) (κ : Key) → holds κ (at l i) ≡ true → holds κ (at l j) ≡ true → i ≡ j

abbrev pub AllOk : Transfers → Type 0
AllOk l = (i : ℕ) → state_ok (at l i) ≡ true

-- ---- one state

pub holds_self : (κ : Key) (x : Option Transfer) → (e : holds κ x ≡ true) → (n : Key) → holds n x ≡ true → n ≡ κ
holds_self κ None e n h = absurd (clash false e refl)
holds_self κ (Some t) e n h = sym (same_keys t.offer.key n h) ∙ same_keys t.offer.key κ e

-- open under no other key
abbrev pub OnlyFor : Key → Option Transfer → Type 0
OnlyFor κ None = Unit {0}
OnlyFor κ (Some t) = t.offer.key ≡ κ

pub only_for : (κ : Key) (x : Option Transfer) → holds κ x ≡ true → OnlyFor κ x
only_for κ None e = tt
only_for κ (Some t) e = same_keys t.offer.key κ e

only_held : (κ : Key) (x : Option Transfer) → OnlyFor κ x → (n : Key) → holds n x ≡ true → n ≡ κ
only_held κ None o n h = absurd (clash false h refl)
only_held κ (Some t) o n h = sym (same_keys t.offer.key n h) ∙ o

-- ---- what a search finds

holds_inside : (κ : Key) (l : Transfers) (i : ℕ) → holds κ (at l i) ≡ true → i < length l
holds_inside κ [] i e = absurd (clash false e refl)
holds_inside κ (x ∷ l) zero e = omega arith
holds_inside κ (x ∷ l) (suc i) e = suc-le-suc (holds_inside κ l i e)

pub find_some : (κ : Key) (l : Transfers) (i : ℕ) → key_place κ l ≡ Some i → (holds κ (at l i) ≡ true) × (i < length l)
find_some κ l i e = first_some None (holds κ) l i e

pub find_none : (κ : Key) (l : Transfers) → key_place κ l ≡ None → (i : ℕ) → holds κ (at l i) ≡ false
find_none κ l e i = not_passed (holds κ (at l i)) (λ h. clash (holds κ (at l i)) h (from_none None (holds κ) l 0 e i (holds_inside κ l i h)))

pub known_held : (κ : Key) (l : Transfers) → Unique l → (i : ℕ) → holds κ (at l i) ≡ true → known κ l ≡ at l i
known_held κ l u i h = go (key_place κ l) refl
  where
    go : (f : Option ℕ) → key_place κ l ≡ f → state_in f l ≡ at l i
    go None e = absurd (clash (holds κ (at l i)) h (find_none κ l e i))
    go (Some j) e = ap (at l) (u j i κ (find_some κ l j e).0 h)

pub known_none : (κ : Key) (l : Transfers) → ((i : ℕ) → holds κ (at l i) ≡ false) → known κ l ≡ None
known_none κ l h = go (key_place κ l) refl
  where
    go : (f : Option ℕ) → key_place κ l ≡ f → state_in f l ≡ None
    go None e = refl
    go (Some j) e = absurd (clash (holds κ (at l j)) (find_some κ l j e).0 (h j))

-- ---- bounds

any_from : (κ : Key) (l : Transfers) (i : ℕ) → holds κ (at l i) ≡ true → any_holds κ l ≡ true
any_from κ [] i e = e
any_from κ (x ∷ l) zero e = rw e
any_from κ (x ∷ l) (suc i) e = or_inr (holds κ x) (any_holds κ l) (any_from κ l i e)

any_none : (κ : Key) (l : Transfers) → ((i : ℕ) → holds κ (at l i) ≡ false) → any_holds κ l ≡ false
any_none κ [] e = refl
any_none κ (x ∷ l) e = rw (e 0) (any_none κ l (λ i. e (suc i)))

head_ok : (x : Option Transfer) (l : Transfers) → state_ok x ≡ true → ((κ : Key) → holds κ x ≡ true → any_holds κ l ≡ false) → one_ok x l ≡ true
head_ok None l a h = refl
head_ok (Some t) l a h = both (transfer_ok t) (not (any_holds t.offer.key l)) a (ap not (h t.offer.key (keys_same t.offer.key t.offer.key refl)))

pub transfers_ok_lem : (l : Transfers) → Unique l → AllOk l → transfers_ok l ≡ true
transfers_ok_lem [] u a = refl
transfers_ok_lem (x ∷ l) u a =
    both (one_ok x l) (transfers_ok l)
    (head_ok x l (a 0) (λ κ e. any_none κ l (λ i. not_passed (holds κ (at l i)) (λ h. let z : 0 ≡ suc i = u 0 (suc i) κ e h in omega arith))))
    (transfers_ok_lem l (λ i j κ g h. let z : suc i ≡ suc j = u (suc i) (suc j) κ g h in omega arith) (λ i. a (suc i)))

ok_head : (x : Option Transfer) (l : Transfers) → one_ok x l ≡ true → state_ok x ≡ true
ok_head None l e = refl
ok_head (Some t) l e = and_elim_left (transfer_ok t) (not (any_holds t.offer.key l)) e

alone_head : (x : Option Transfer) (l : Transfers) → one_ok x l ≡ true → (κ : Key) → holds κ x ≡ true → any_holds κ l ≡ false
alone_head None l e κ h = absurd (clash false h refl)
alone_head (Some t) l e κ h =
    rw (← same_keys t.offer.key κ h) (not-true (any_holds t.offer.key l) (and_elim_right (transfer_ok t) (not (any_holds t.offer.key l)) e))

pub ok_all : (l : Transfers) → transfers_ok l ≡ true → AllOk l
ok_all [] e i = refl
ok_all (x ∷ l) e zero = ok_head x l (and_elim_left (one_ok x l) (transfers_ok l) e)
ok_all (x ∷ l) e (suc i) = ok_all l (and_elim_right (one_ok x l) (transfers_ok l) e) i

pub ok_unique : (l : Transfers) → transfers_ok l ≡ true → Unique l
ok_unique [] e i j κ g h = absurd (clash false g refl)
ok_unique (x ∷ l) e zero zero κ g h = refl
ok_unique (x ∷ l) e zero (suc j) κ g h = absurd (clash (any_holds κ l) (any_from κ l j h) (alone_head x l (and_elim_left (one_ok x l) (transfers_ok l) e) κ g))
ok_unique (x ∷ l) e (suc i) zero κ g h = absurd (clash (any_holds κ l) (any_from κ l i g) (alone_head x l (and_elim_left (one_ok x l) (transfers_ok l) e) κ h))
ok_unique (x ∷ l) e (suc i) (suc j) κ g h = ap suc (ok_unique l (and_elim_right (one_ok x l) (transfers_ok l) e) i j κ g h)

-- ---- one place changes: the only one of its key before and after

-- place i is open under no other key, and no other place under this one
abbrev pub Place : Transfers → ℕ → Key → Type 0
Place l i κ = (j : ℕ) (n : Key) → holds n (at l j) ≡ true → (j ≡ i → n ≡ κ) × (n ≡ κ → j ≡ i)

module _ (l : Transfers) (κ : Key) (i : ℕ) (y : Option Transfer) (low : i < length l) (u : Unique l) (place : Place l i κ) (only : OnlyFor κ y) where
  at_same : at (set l i y) i ≡ y
  at_same = get_or-set_same l i y None low

  at_other : (j : ℕ) → (j ≡ i → ⊥) → at (set l i y) j ≡ at l j
  at_other j ne = get_or-set_other l i j y None ne

  abbrev Holder : ℕ → Key → Type 0
  Holder j n = ((j ≡ i) × (n ≡ κ)) ⊎ ((j ≡ i → ⊥) × (n ≡ κ → ⊥) × (holds n (at l j) ≡ true))

  holder : (j : ℕ) (n : Key) → holds n (at (set l i y) j) ≡ true → Holder j n
  holder j n h = go (ℕ_discrete j i)
    where
      go : Dec (j ≡ i) → Holder j n
      go (yes e) = inl (e, only_held κ y only n (rw (e, at_same) at h))
      go (no e) = let g : holds n (at l j) ≡ true = rw (at_other j e) at h in inr (e, (λ z. e ((place j n g).1 z)), g)

  pub set_unique : Unique (set l i y)
  set_unique j₁ j₂ n g h = go (holder j₁ n g) (holder j₂ n h)
    where
      go : Holder j₁ n → Holder j₂ n → j₁ ≡ j₂
      go (inl e) (inl d) = e.0 ∙ sym d.0
      go (inl e) (inr d) = absurd (d.1 e.1)
      go (inr e) (inl d) = absurd (e.1 d.1)
      go (inr e) (inr d) = u j₁ j₂ n e.2 d.2

  pub set_ok : AllOk l → state_ok y ≡ true → AllOk (set l i y)
  set_ok a b j = go (ℕ_discrete j i)
    where
      go : Dec (j ≡ i) → state_ok (at (set l i y) j) ≡ true
      go (yes e) = rw (e, at_same) b
      go (no e) = rw (at_other j e) (a j)

  pub set_known : known κ (set l i y) ≡ y
  set_known = by_test (holds κ y) held free
    where
      held : holds κ y ≡ true → known κ (set l i y) ≡ y
      held e = known_held κ (set l i y) set_unique i (rw at_same e) ∙ at_same

      shut : (x : Option Transfer) → OnlyFor κ x → holds κ x ≡ false → x ≡ None
      shut None o e = refl
      shut (Some t) o e = absurd (clash (same_key t.offer.key κ) (keys_same t.offer.key κ o) e)

      nobody : holds κ y ≡ false → (j : ℕ) → Dec (j ≡ i) → holds κ (at (set l i y) j) ≡ false
      nobody e j (yes z) = rw (z, at_same) e
      nobody e j (no z) = rw (at_other j z) (not_passed (holds κ (at l j)) (λ h. z ((place j κ h).1 refl)))

      free : holds κ y ≡ false → known κ (set l i y) ≡ y
      free e = known_none κ (set l i y) (λ j. nobody e j (ℕ_discrete j i)) ∙ sym (shut y only e)

  pub set_others : (n : Key) → (n ≡ κ → ⊥) → known n (set l i y) ≡ known n l
  set_others n ne = go (key_place n l) refl
    where
      still : (j : ℕ) → holds n (at l j) ≡ false → Holder j n → ⊥
      still j e (inl z) = ne z.1
      still j e (inr z) = clash (holds n (at l j)) z.2 e

      go : (f : Option ℕ) → key_place n l ≡ f → known n (set l i y) ≡ state_in f l
      go None e = known_none n (set l i y) (λ j. not_passed (holds n (at (set l i y) j)) (λ h. still j (find_none n l e j) (holder j n h)))
      go (Some j) e =
          let h : holds n (at l j) ≡ true = (find_some n l j e).0 in
          let o : at (set l i y) j ≡ at l j = at_other j (λ z. ne ((place j n h).0 z)) in
          known_held n (set l i y) set_unique j (rw o h) ∙ o

-- ---- every place stays or closes

module _ (f : Option Transfer → Option Transfer) (free : f None ≡ None) (stays : (x : Option Transfer) → (f x ≡ x) ⊎ (f x ≡ None)) (l : Transfers) (u : Unique l) where
  at_map : (i : ℕ) → at (map f l) i ≡ f (at l i)
  at_map i = ap (λ (x : Option Transfer). get_or (map f l) i x) (sym free) ∙ get_or-map f l i None

  was : (κ : Key) (x : Option Transfer) → holds κ (f x) ≡ true → (holds κ x ≡ true) × (f x ≡ x)
  was κ x h = go (stays x)
    where
      go : (f x ≡ x) ⊎ (f x ≡ None) → (holds κ x ≡ true) × (f x ≡ x)
      go (inl e) = (rw e at h, e)
      go (inr e) = absurd (clash (holds κ None) (rw e at h) refl)

  held_before : (κ : Key) (i : ℕ) → holds κ (at (map f l) i) ≡ true → holds κ (at l i) ≡ true
  held_before κ i h = (was κ (at l i) (rw (at_map i) at h)).0

  pub map_unique : Unique (map f l)
  map_unique i j κ g h = u i j κ (held_before κ i g) (held_before κ j h)

  pub map_ok : AllOk l → AllOk (map f l)
  map_ok a i = rw (at_map i) (go (stays (at l i)))
    where
      go : (f (at l i) ≡ at l i) ⊎ (f (at l i) ≡ None) → state_ok (f (at l i)) ≡ true
      go (inl e) = rw e (a i)
      go (inr e) = rw e

  pub map_known : (κ : Key) → known κ (map f l) ≡ f (known κ l)
  map_known κ = go (key_place κ l) refl
    where
      shut : (i : ℕ) → holds κ (at l i) ≡ true → holds κ (f (at l i)) ≡ false → (j : ℕ) → holds κ (at (map f l) j) ≡ false
      shut i h e j =
          not_passed (holds κ (at (map f l) j))
          (λ g. clash (holds κ (at (map f l) j)) g (rw (u j i κ (held_before κ j g) h, at_map i) e))

      closed : (x : Option Transfer) → holds κ x ≡ true → holds κ (f x) ≡ false → f x ≡ None
      closed x h e = pick (stays x)
        where
          pick : (f x ≡ x) ⊎ (f x ≡ None) → f x ≡ None
          pick (inl z) = absurd (clash (holds κ x) h (rw z at e))
          pick (inr z) = z

      go : (g : Option ℕ) → key_place κ l ≡ g → known κ (map f l) ≡ f (state_in g l)
      go None e =
          known_none κ (map f l) (λ i. not_passed (holds κ (at (map f l) i)) (λ h. clash (holds κ (at l i)) (held_before κ i h) (find_none κ l e i))) ∙ sym free
      go (Some i) e =
          let h : holds κ (at l i) ≡ true = (find_some κ l i e).0 in
          by_test (holds κ (f (at l i)))
          (λ g. known_held κ (map f l) map_unique i (rw (at_map i) g) ∙ at_map i)
          (λ g. known_none κ (map f l) (shut i h g) ∙ sym (closed (at l i) h g))
