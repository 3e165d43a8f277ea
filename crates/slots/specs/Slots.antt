-- Searches over the slots: 01, "Announcement" and "Segment".
use Rattle.std.specs.Prelude.{ℕ, ◌+◌, ◌<◌, List, [], ◌∷◌, Bool, true, false, cond, ◌&&◌, eqb, get_or, None, Option, Some}
use Rattle.session.specs.declared.Session.{Session}
use Rattle.transport.specs.declared.Key.{Key}

-- a key is SA, DA and session number, all three
abbrev pub same_key : Key → Key → Bool
same_key a b = eqb a.sa.0 b.sa.0 && eqb a.da.0 b.da.0 && eqb a.session.0 b.session.0

abbrev pub is_free : Option Session → Bool
is_free None = true
is_free (Some s) = false

abbrev pub holds_key : Key → Option Session → Bool
holds_key k None = false
holds_key k (Some s) = same_key s.announced.key k

-- the number of the first that passes the test, where the first of the list is number i
abbrev pub first_at : {A : Type 0} → (A → Bool) → ℕ → List A → Option ℕ
first_at test i [] = None
first_at test i (s ∷ ss) = cond (test s) (Some i) (first_at test (i + 1) ss)

abbrev pub or_else : Option ℕ → Option ℕ → Option ℕ
or_else (Some i) f = Some i
or_else None f = f

-- the lowest free slot
abbrev pub first_free : List (Option Session) → Option ℕ
first_free slots = first_at is_free 0 slots

-- the slot that has the key open
abbrev pub key_place : Key → List (Option Session) → Option ℕ
key_place k slots = first_at (holds_key k) 0 slots

-- the slot for a key: the one that has it open, else the lowest that is free
abbrev pub slot_for : Key → List (Option Session) → Option ℕ
slot_for k slots = or_else (key_place k slots) (first_free slots)

-- what was found is below n
abbrev pub Within : Option ℕ → ℕ → Type 0
Within (Some i) n = i < n
Within None n = Unit {0}

abbrev pub free_slot : Option Session
free_slot = None

module _ {A : Type 0} where
  -- by cases on what a search found, and on a slot's state
  abbrev pub on_found : Option ℕ → (ℕ → A) → A → A
  on_found (Some i) f n = f i
  on_found None f n = n

  abbrev pub on_state : Option Session → (Session → A) → A → A
  on_state (Some s) f n = f s
  on_state None f n = n

-- what is known of the key that a slot was found for
abbrev pub state_in : Option ℕ → List (Option Session) → Option Session
state_in f slots = on_found f (λ i. (get_or slots i free_slot)) None
