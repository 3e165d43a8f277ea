-- What slots in bounds say of each of them.
use Rattle.std.specs.Prelude.{ℕ, zero, suc, ◌≡◌, refl, true, not, List, [], ◌∷◌, get_or, Option, Some}
use Rattle.std.proofs.Common.{sym, ap, ◌∙◌}
use Rattle.laws.specs.Choice.{each_of}
use Rattle.frame.specs.declared.Address.{Address}
use Rattle.session.specs.declared.Session.{Session}
use Rattle.slots.specs.Slots.{free_slot}
use Rattle.session.specs.Bounds.{session_ok, state_ok}
use Rattle.slots.specs.Bounds.{twin_of, slots_ok}

pub slot_of_lem : (own : Address) (l : List (Option Session)) (i : ℕ) → slots_ok own l ≡ true → state_ok own (get_or l i free_slot) ≡ true
unfolding slots_ok
slot_of_lem own [] i e = refl
slot_of_lem own (s ∷ ss) zero e = (each_of (state_ok own s ∷ not (twin_of s ss) ∷ slots_ok own ss ∷ []) e).0
slot_of_lem own (s ∷ ss) (suc i) e = slot_of_lem own ss i (each_of (state_ok own s ∷ not (twin_of s ss) ∷ slots_ok own ss ∷ []) e).1.1.0

-- an open session is in bounds
pub session_of_lem : (own : Address) (l : List (Option Session)) (i : ℕ) (s : Session) → slots_ok own l ≡ true → (get_or l i free_slot) ≡ Some s → session_ok own s ≡ true
session_of_lem own l i s e g = sym (ap (state_ok own) g) ∙ slot_of_lem own l i e
