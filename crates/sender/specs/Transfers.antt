-- Searches over the transfers of a record, and when it is in bounds: 02, E2, "Sender's state in bounds".
use Rattle.std.specs.Prelude.{ℕ, ◌≡◌, Bool, true, false, cond, not, ◌&&◌, ◌||◌, List, [], ◌∷◌, eqb, length, get_or, None, Option, Some}
use Rattle.transport.specs.declared.Key.{Key}
use Rattle.slots.specs.Slots.{same_key, first_at, or_else, on_found}
use Rattle.slots.specs.Bounds.{opening_ok}
use Rattle.transfer.specs.Bounds.{transfer_ok}
use Rattle.sender_bytes.specs.Places.{record_length}
use Rattle.sender_bytes.specs.Layout.{Sender, sender_at}
use Rattle.transfer.specs.declared.Transfer.{Transfer}

-- ---- searches

abbrev pub is_free : Option Transfer → Bool
is_free None = true
is_free (Some t) = false

abbrev pub holds : Key → Option Transfer → Bool
holds k None = false
holds k (Some t) = same_key t.offer.key k

abbrev pub first_free : List (Option Transfer) → Option ℕ
first_free ts = first_at is_free 0 ts

abbrev pub key_place : Key → List (Option Transfer) → Option ℕ
key_place k ts = first_at (holds k) 0 ts

-- the one that is open under the key, else the lowest that is free
abbrev pub slot_for : Key → List (Option Transfer) → Option ℕ
slot_for k ts = or_else (key_place k ts) (first_free ts)

abbrev pub state_in : Option ℕ → List (Option Transfer) → Option Transfer
state_in f ts = on_found f (λ i. get_or ts i None) None

-- what was found by a key is open
abbrev pub OpenAt : Option ℕ → List (Option Transfer) → Type 0
OpenAt (Some i) ts = is_free (get_or ts i None) ≡ false
OpenAt None ts = Unit {0}

-- ---- bounds: each open transfer as 02 says, no two of one destination and session number

abbrev pub any_holds : Key → List (Option Transfer) → Bool
any_holds k [] = false
any_holds k (x ∷ xs) = holds k x || any_holds k xs

-- with the ones after it
abbrev pub one_ok : Option Transfer → List (Option Transfer) → Bool
one_ok None xs = true
one_ok (Some t) xs = transfer_ok t && not (any_holds t.offer.key xs)

abbrev pub transfers_ok : List (Option Transfer) → Bool
transfers_ok [] = true
transfers_ok (x ∷ xs) = one_ok x xs && transfers_ok xs

unfoldable pub in_bounds : Sender → Bool
in_bounds s = opening_ok s.own s.limit && transfers_ok s.transfers

-- a buffer of a record's length, in bounds
unfoldable pub ready_in : List ℕ → Bool
ready_in b = cond (not (eqb (length b) record_length)) false (in_bounds (sender_at b))
