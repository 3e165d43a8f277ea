-- A record put over the bytes of the one before it: a slot that was free and is free keeps its bytes, which have no meaning, so what a
-- call does not change is not written.
use Rattle.std.specs.Prelude.{ℕ, cond, ◌&&◌, List, [], ◌∷◌, ◌++◌, eqb, get_or, Option}
use Rattle.slots.specs.Slots.{is_free}
use Rattle.receiver.specs.declared.Receiver.{Receiver}
use Rattle.record_bytes.specs.Places.{state_place}
use Rattle.record_bytes.specs.Layout.{slot_bytes, head_bytes, pieces_of}
use Rattle.session.specs.declared.Session.{Session}

-- a slot over its piece
abbrev pub kept : List ℕ → Option Session → List ℕ
kept p s = cond (is_free s && eqb (get_or p state_place 0) 0) p (slot_bytes s)

unfoldable pub merged : List (List ℕ) → List (Option Session) → List ℕ
merged [] ss = []
merged (p ∷ ps) [] = []
merged (p ∷ ps) (s ∷ ss) = kept p s ++ merged ps ss

unfoldable pub put_in : List ℕ → Receiver → List ℕ
put_in b r = head_bytes r ++ merged (pieces_of b) r.slots
