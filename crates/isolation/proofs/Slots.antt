-- The slots as a list: what the searches find.
use Rattle.std.specs.Prelude.{None, Option, Some}
use Prim.Native.Nat.{ℕ, zero, suc, ◌+◌, ◌*◌, ◌<◌, suc-le-suc}
use mathlib.Core.Path.{◌≡◌, refl, sym, ap, ◌∙◌}
use mathlib.Core.Bool.{Bool, true, false, ◌&&◌}
use mathlib.Core.List.{List, [], ◌∷◌}
use native.Mathlib.Omega.{arith}
use lib.Dec.{eqb}
use lib.ListN.{length, get_or}
use borrow.Author.Tests.{eqb-true, eq-eqb}
use Rattle.transport.specs.declared.Key.{Key}
use Rattle.session.specs.declared.Session.{Session}
use Rattle.slots.specs.Slots.{same_key, holds_key, key_place, free_slot}
use Rattle.slots.specs.Searches.{first_some, from_none}
use Rattle.isolation.specs.OwnFrames.{key_at}
use Rattle.isolation.specs.Observe.{open_at}
use Rattle.isolation.proofs.Tests.{or-false, clash, and_left, and_right, both, same_test}

abbrev pub Slots : Type 0
Slots = List (Option Session)

abbrev pub at : Slots → ℕ → Option Session
at l i = (get_or l i free_slot)

-- a slot holds key k
unfoldable pub holds : ℕ → Option Session → Bool
holds k x = open_at k x

-- as the receiver tests it
pub holds_same : (k : ℕ) (x : Option Session) → holds_key (key_at k) x ≡ holds k x
unfolding holds
holds_same k None = refl
holds_same k (Some s) = refl

-- ---- keys and their numbers

abbrev pub key_number : Key → ℕ
key_number κ = κ.sa.0 * 4096 + κ.da.0 * 16 + κ.session.0

-- DA and session number as they are in a frame
pub record Small (κ : Key) : Type 0 where
  pub da : κ.da.0 < 256
  pub session : κ.session.0 < 16

same_parts : (κ μ : Key) → κ.sa.0 ≡ μ.sa.0 → κ.da.0 ≡ μ.da.0 → κ.session.0 ≡ μ.session.0 → κ ≡ μ
same_parts κ μ a b c = go κ.sa.0 κ.da.0 κ.session.0 a b c
  where
    go : (x y z : ℕ) → x ≡ μ.sa.0 → y ≡ μ.da.0 → z ≡ μ.session.0 → record { sa = record { 0 = x }; da = record { 0 = y }; session = record { 0 = z } } ≡ μ
    go x y z a b c = rw (a, b, c)

pub key_of_lem : (κ : Key) → Small κ → key_at (key_number κ) ≡ κ
key_of_lem κ s =
    let a : κ.da.0 < 256 = s.da in
    let b : κ.session.0 < 16 = s.session in
    same_parts (key_at (key_number κ)) κ (omega arith) (omega arith) (omega arith)

pub number_of_lem : (k : ℕ) → key_number (key_at k) ≡ k
number_of_lem k = omega arith

pub same_keys : (κ μ : Key) → same_key κ μ ≡ true → κ ≡ μ
same_keys κ μ e =
    let t : Bool = eqb κ.sa.0 μ.sa.0 && eqb κ.da.0 μ.da.0 in
    let a : (eqb κ.sa.0 μ.sa.0 && eqb κ.da.0 μ.da.0) ≡ true = and_left t (eqb κ.session.0 μ.session.0) e in
    same_parts κ μ
    (eqb-true κ.sa.0 μ.sa.0 (and_left (eqb κ.sa.0 μ.sa.0) (eqb κ.da.0 μ.da.0) a))
    (eqb-true κ.da.0 μ.da.0 (and_right (eqb κ.sa.0 μ.sa.0) (eqb κ.da.0 μ.da.0) a))
    (eqb-true κ.session.0 μ.session.0 (and_right t (eqb κ.session.0 μ.session.0) e))

pub keys_same : (κ μ : Key) → κ ≡ μ → same_key κ μ ≡ true
keys_same κ μ e = rw e (self μ)
  where
    self : (μ : Key) → same_key μ μ ≡ true
    self μ =
        both (eqb μ.sa.0 μ.sa.0 && eqb μ.da.0 μ.da.0) (eqb μ.session.0 μ.session.0)
        (both (eqb μ.sa.0 μ.sa.0) (eqb μ.da.0 μ.da.0) (eq-eqb μ.sa.0 μ.sa.0 refl) (eq-eqb μ.da.0 μ.da.0 refl))
        (eq-eqb μ.session.0 μ.session.0 refl)

-- the test by key is the test by number
pub same_number : (κ : Key) → Small κ → (k : ℕ) → same_key κ (key_at k) ≡ eqb (key_number κ) k
same_number κ s k =
    same_test (same_key κ (key_at k)) (eqb (key_number κ) k)
    (λ e. eq-eqb (key_number κ) k (ap key_number (same_keys κ (key_at k) e) ∙ number_of_lem k))
    (λ e. keys_same κ (key_at k) (sym (key_of_lem κ s) ∙ ap key_at (eqb-true (key_number κ) k e)))

pub other_key : (j k : ℕ) → (j ≡ k → ⊥) → same_key (key_at j) (key_at k) ≡ false
other_key j k ne = or-false (same_key (key_at j) (key_at k)) (λ e. ne (sym (number_of_lem j) ∙ ap key_number (same_keys (key_at j) (key_at k) e) ∙ number_of_lem k))

pub own_key : (k : ℕ) → same_key (key_at k) (key_at k) ≡ true
own_key k = keys_same (key_at k) (key_at k) refl

-- ---- what a slot holds

pub open_key : (k : ℕ) (s : Session) → holds k (Some s) ≡ true → s.announced.key ≡ key_at k
unfolding holds
open_key k s e = same_keys s.announced.key (key_at k) e

pub holds_one : (j k : ℕ) (x : Option Session) → holds j x ≡ true → holds k x ≡ true → j ≡ k
unfolding holds
holds_one j k None e f = absurd (clash false e refl)
holds_one j k (Some s) e f =
    sym (number_of_lem j) ∙ ap key_number (sym (same_keys s.announced.key (key_at j) e) ∙ same_keys s.announced.key (key_at k) f) ∙ number_of_lem k

pub holds_free : (k : ℕ) → holds k None ≡ false
unfolding holds
holds_free k = refl

pub holds_inside : (k : ℕ) (l : Slots) (i : ℕ) → holds k (at l i) ≡ true → i < length l
unfolding holds
holds_inside k [] i e = absurd (clash false e refl)
holds_inside k (x ∷ l) zero e = omega arith
holds_inside k (x ∷ l) (suc i) e = suc-le-suc (holds_inside k l i e)

-- ---- the searches

pub find_some : (k : ℕ) (l : Slots) (i : ℕ) → key_place (key_at k) l ≡ Some i → (holds k (at l i) ≡ true) × (i < length l)
find_some k l i e = let r = first_some free_slot (holds_key (key_at k)) l i e in (sym (holds_same k (at l i)) ∙ r.0, r.1)

pub find_none : (k : ℕ) (l : Slots) → key_place (key_at k) l ≡ None → (i : ℕ) → holds k (at l i) ≡ false
find_none k l e i =
    or-false (holds k (at l i)) (λ t. clash (holds k (at l i)) t (sym (holds_same k (at l i)) ∙ from_none free_slot (holds_key (key_at k)) l 0 e i (holds_inside k l i t)))

-- no two slots hold one key
abbrev pub Unique : Slots → Type 0
Unique l = (i j k : ℕ) → holds k (at l i) ≡ true → holds k (at l j) ≡ true → i ≡ j
