-- All groups of a frame in one call: 01, "Groups in one frame", with E5 of 02, after 23 and 1 of "Numbered refusals".
use Rattle.std.specs.Prelude.{ℕ, ◌*◌, cond, not, List, [], ◌∷◌, ◌++◌, eqb, length, drop, Result, Ok, Err}
use Rattle.frame.specs.Lengths.{is_length}
use Rattle.frame.specs.declared.refusal.Refusal.{Refusal}
use Rattle.frame.specs.declared.refusal.Refusal.TheVariants.{FrameLength, OutOfBounds}
use Rattle.multi_pg.specs.declared.Group.{Group}
use Rattle.multi_pg.specs.Groups.{GroupsRead, good, bad, groups_read}

-- a group's six numbers: its PGN, service type and trailer format, where its data starts in the frame and how long it is, and how long
-- its trailer is, which follows the data
abbrev pub row : Group → List ℕ
row g = g.pgn ∷ g.service ∷ g.format ∷ g.start ∷ g.len ∷ g.trailer ∷ []

abbrev pub rows : List Group → List ℕ
rows [] = []
rows (g ∷ gs) = row g ++ rows gs

-- the answer, and the list after the call: past the groups' numbers as it was, and whole as it was where the frame is refused
abbrev pub unpacked_by : GroupsRead → List ℕ → Result ℕ Refusal × List ℕ
unpacked_by (good gs) out = (Ok (length gs), rows gs ++ drop (6 * length gs) out)
unpacked_by (bad r) out = (Err r, out)

-- 23 for a list that is not 96 numbers long, then 1, then the groups or the first fault met
unfoldable pub unpacked : List ℕ → List ℕ → Result ℕ Refusal × List ℕ
unpacked d out =
    cond (not (eqb (length out) 96)) (Err OutOfBounds, out)
    (cond (not (is_length (length d))) (Err FrameLength, out)
    (unpacked_by (groups_read d) out))
