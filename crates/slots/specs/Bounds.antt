-- When opening values and slots are in bounds: 01, "Numbered refusals".
use Rattle.std.specs.Prelude.{ℕ, List, [], ◌∷◌, Bool, true, false, not, ◌&&◌, ◌||◌, leb, None, Option, Some}
use Rattle.frame.specs.declared.Address.{Address}
use Rattle.transport.specs.declared.Key.{Key}
use Rattle.progress.specs.declared.wait.IdleLimits.{IdleLimits}
use Rattle.session.specs.Bounds.{state_ok}
use Rattle.slots.specs.Slots.{holds_key}
use Rattle.session.specs.declared.Session.{Session}

-- own address 0 to 253, idle limit 1 to 60,000
abbrev pub opening_ok : Address → ℕ → Bool
opening_ok own limit = leb own.0 253 && leb 1 limit && leb limit 60000

-- a receiver has two limits: 02, E4
abbrev pub values_ok : Address → IdleLimits → Bool
values_ok own limits = opening_ok own limits.first && leb 1 limits.second && leb limits.second 60000

-- ---- all slots

abbrev pub any_holds : Key → List (Option Session) → Bool
any_holds k [] = false
any_holds k (s ∷ ss) = holds_key k s || any_holds k ss

-- a slot's key is open in one of the slots after it
abbrev pub twin_of : Option Session → List (Option Session) → Bool
twin_of None ss = false
twin_of (Some s) ss = any_holds s.announced.key ss

unfoldable pub slots_ok : Address → List (Option Session) → Bool
slots_ok own [] = true
slots_ok own (s ∷ ss) = state_ok own s && not (twin_of s ss) && slots_ok own ss
