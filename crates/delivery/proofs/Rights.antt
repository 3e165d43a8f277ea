-- Frames on their way to the receiver, by what it reads in them.
use Rattle.std.specs.Prelude.{None, Option, Some}
use Prim.Native.Nat.{ℕ, ◌+◌}
use mathlib.Core.Path.{◌≡◌}
use mathlib.Core.List.{List, [], ◌∷◌, ◌++◌}
use native.Mathlib.Omega.{arith}
use lib.ListN.{length, take}
use Rattle.transfer.specs.Transfers.{announcement_of}
use Rattle.transfer.specs.Sends.{piece_of}
use Rattle.isolation.specs.OwnFrames.{Body, announce, segment, status, abort}
use Rattle.isolation.specs.Replies.{Wire}
use Rattle.isolation.specs.Rules.{due}
use Rattle.delivery.specs.Link.{Setting, body_for, offer}

-- the key's own: the message's announcement, and data out of the message
abbrev pub Right : Setting → Option Body → Type 0
Right s None = ⊥
Right s (Some (announce a)) = a ≡ announcement_of (offer s)
Right s (Some (segment format n d)) = take (due (length s.message) n) d ≡ piece_of s.message n
Right s (Some (status st)) = Unit {0}
Right s (Some (abort pgn)) = Unit {0}

abbrev pub opening : Option Body → ℕ
opening None = 0
opening (Some (announce a)) = 1
opening (Some (segment format n d)) = 0
opening (Some (status st)) = 0
opening (Some (abort pgn)) = 0

abbrev pub Rights : Setting → List Wire → Type 0
Rights s [] = Unit {0}
Rights s (f ∷ fs) = Right s (body_for s f) × Rights s fs

-- the announcements among them
abbrev pub openings : Setting → List Wire → ℕ
openings s [] = 0
openings s (f ∷ fs) = opening (body_for s f) + openings s fs

pub rights_join : (s : Setting) (fs gs : List Wire) → Rights s fs → Rights s gs → Rights s (fs ++ gs)
rights_join s [] gs a b = b
rights_join s (f ∷ fs) gs (r, a) b = (r, rights_join s fs gs a b)

pub openings_join : (s : Setting) (fs gs : List Wire) → openings s (fs ++ gs) ≡ openings s fs + openings s gs
openings_join s [] gs = omega arith
openings_join s (f ∷ fs) gs = let h : openings s (fs ++ gs) ≡ openings s fs + openings s gs = openings_join s fs gs in omega arith

-- frames after the announcement
abbrev pub Later : Setting → List Wire → Type 0
Later s fs = Rights s fs × (openings s fs ≡ 0)

pub later_frame : (s : Setting) (f : Wire) (b : Option Body) → body_for s f ≡ b → Right s b → opening b ≡ 0 → Later s (f ∷ [])
later_frame s f b e r n = rw e ((r, tt), omega arith)
