-- What is known of the slot that a search found.
use Rattle.std.specs.Prelude.{ℕ, ◌≡◌, List, get_or, Option, Some}
use Rattle.std.proofs.Common.{sym, ap, ◌∙◌}
use Rattle.slots.specs.Slots.{free_slot, state_in}
use Rattle.session.specs.declared.Session.{Session}

pub state_found : (f : Option ℕ) (i : ℕ) (ss : List (Option Session)) (s : Option Session) → f ≡ Some i → s ≡ get_or ss i free_slot → s ≡ state_in f ss
state_found f i ss s e p =
    p ∙ ap (λ (x : Option ℕ). state_in x ss) (sym e)
